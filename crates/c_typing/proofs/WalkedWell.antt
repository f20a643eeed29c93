-- Statements, and the items of a body.
use Rattle.std.proofs.Common.{◌≡◌, ℕ, ◌<◌, ◌≤◌, Bool, true, false, ◌||◌, not, refl, sym, ap, ◌∙◌, subst, arith, List, [], ◌∷◌, ◌++◌, length, Option, Some, None, ℤ, nat_lt}
use Rattle.std.specs.List.{AllByRecursion}
use Rattle.std.specs.Map.{lookup}
use Rattle.std.specs.Str.{bytes_eq}
use Rattle.std.specs.Ordering.{int_eq}
use Rattle.std.specs.Cmp.{signed_Decides}
use Rattle.std.proofs.lemmas.List.{length-append}
use Rattle.ak_words.specs.declared.int_type.IntType.{IntType}
use Rattle.ak_words.specs.declared.number.Num.{Num}
use Rattle.ak_words.specs.IntType.{promoted_type}
use Rattle.ak_words.specs.Num.{num as number}
use Rattle.ak_words.specs.inner.InRange.{wrapped_value-in_range}
use Rattle.c_lex.specs.declared.refusal.Kind.TheVariants.{DoubleName, TypeMismatch, TooMany}
use Rattle.c_tree.specs.Syntax as source
use Rattle.c_tree.specs.Typed.{Ty, void, integer, atomic, mutex, pointer, array, structure, Expr, at, type_of, Stmt, at_stmt, block, declare, if_, if_else, while_, for_, do_while, switch, Label, case_at, default_at, break_, continue_, return_, empty, stmts_of}
use Rattle.c_tree.specs.TypedForm.{Jumps, in_loop, in_switch, IsScalar, IsPromoted, IsTyped, IfTyped, IsNoDeclaration, AreNoDeclarations, IsSwitched, IsLabel, Differ, AreApart, stmts_count, IsStep, IsFirst, IsWell, AreWell}
use Rattle.c_tree.specs.TypedForm as form
use Rattle.c_typing.specs.Faults.{Judged, typed, faulty, refuse, unless, both, ◌>>=◌}
use Rattle.c_typing.specs.Types.{is_void}
use Rattle.c_typing.specs.Scope.{Binding, Frame, Context, or_else, found, inside, back_to}
use Rattle.c_typing.specs.Rules.{converted, fitted, or_mismatch, tested}
use Rattle.c_typing.specs.Constants.{constant_value}
use Rattle.c_typing.specs.Judgement.{Judging, lone, in_turn, ruled, valued, judged}
use Rattle.c_typing.specs.Statements.{judged_simple, judged_declaration, condition, scoped, only, one_of, returned_by, returned, header_row, headed, judged_first, judged_condition, judged_step, looped, switched_by, switched, type_of_switch, Entries, no_entries, has_value, has_default, with_label, with_stmt, label_fine, cased, defaulted, entries_or, entry_then, entry_of, switching, judged_stmt, judged_stmts, judged_entries}
use Rattle.c_typing.specs.Laws.{IsAlone, AreAlone, IsWritten, AreWritten}
use Rattle.c_typing.proofs.Carried.{OnTyped, given, not_given, on_bind, on_unless, on_mismatch, on_weaker, World, Good, Within, within_itself, within_further, Over, over_before, After, ruled_after, Keeps, keeps_here, keeps_lone, keeps_in_turn, keeps_ruled, keeps_weaker}
use Rattle.c_typing.proofs.RuledWell.{Fine, Has, promoted, converted_has, Fitting, fits, Tested, tested_well}
use Rattle.c_typing.proofs.Extending.{extends_itself, below}
use Rattle.c_typing.proofs.Shown.{named_kept}
use Rattle.c_typing.proofs.StatedWell.{inside_of, Stepping, simple_keeps, value_keeps, Starting, AreStarting, declaration_keeps}

-- ---- scopes

or_assoc : {A : Type 0} (a b c : Option A) → or_else (or_else a b) c ≡ or_else a (or_else b c)
or_assoc (Some x) b c = refl
or_assoc None b c = refl

pub found_last : (fs : List Frame) (f : Frame) (q : List ℕ) → found (fs ++ f ∷ []) q ≡ or_else (lookup (bytes_eq q) f) (found fs q)
found_last [] f q = by (lookup (bytes_eq q) f)
  where
    by : (o : Option Binding) → or_else None o ≡ or_else o None
    by (Some x) = refl
    by None = refl
found_last (g ∷ fs) f q = ap (λ o. or_else o (lookup (bytes_eq q) g)) (found_last fs f q) ∙ or_assoc (lookup (bytes_eq q) f) (found fs q) (lookup (bytes_eq q) g)

pub inside_good : (w : World) (c : Context) → Good w c → Good w (inside c)
inside_good w c g = record {
  results = g.results;
  since = g.since;
  numbered = g.numbered;
  names = λ q m h. named_kept w c (inside c) (extends_itself c.structs) (λ n t k. k) (λ n t k. k) m (g.names q m (sym (found_last c.outer c.inner q) ∙ h));
  layouts = g.layouts;
  apart = g.apart;
  members = g.members;
  unbegun = g.unbegun;
  tags = g.tags;
  begun = g.begun;
  literals = g.literals;
  globals = g.globals;
  locals = g.locals;
  plain = g.plain;
  small = g.small;
  params = g.params;
  few = g.few;
}

back_good : (w : World) (c d : Context) → Good w c → Good w d → Within false (inside c) d → Good w (back_to c d)
back_good w c d g k f = record {
  results = k.results;
  since = k.since;
  numbered = k.numbered;
  names = λ q m h. named_kept w c (back_to c d) f.0.structs f.0.globals f.1.locals m (g.names q m h);
  layouts = k.layouts;
  apart = k.apart;
  members = k.members;
  unbegun = k.unbegun;
  tags = k.tags;
  begun = k.begun;
  literals = k.literals;
  globals = k.globals;
  locals = k.locals;
  plain = k.plain;
  small = k.small;
  params = k.params;
  few = k.few;
}

back_within : (c d : Context) → Within false (inside c) d → Within false c (back_to c d)
back_within c d f = (
  record { text = f.0.text; structs = f.0.structs; begun = f.0.begun; begun_kept = f.0.begun_kept; count = f.0.count; literals = f.0.literals; globals = f.0.globals },
  record { globals = f.1.globals; functions = f.1.functions; bodies = f.1.bodies; locals = f.1.locals; addressed = f.1.addressed },
  tt,
)

over_back : (w : World) (c d : Context) (e : form.InScope) → Over w (back_to c d) e → Over w d e
over_back w c d e o = record { sound = o.sound; funcs = o.funcs; structs = o.structs; globals = o.globals; literals = o.literals; locals = o.locals; addressed = o.addressed }

scoped_keeps : {A : Type 0} (w : World) (j : Judging A) (FineA : form.InScope → A → Type 0) → Keeps w false j FineA → Keeps w false (scoped j) FineA
scoped_keeps w j FineA kj = record {
  keeps = λ c g. on_weaker (λ x. After w false (inside c) (j (inside c)).1 (λ e. FineA e x)) (λ x. After w false c (back_to c (j (inside c)).1) (λ e. FineA e x)) (j (inside c)).0 (kj.keeps (inside c) (inside_good w c g))
      (λ x a. record { good = back_good w c (j (inside c)).1 g a.good a.within; within = back_within c (j (inside c)).1 a.within; fine = λ e o. a.fine e (over_back w c (j (inside c)).1 e o) });
}

-- ---- statements

-- statements in a row
abbrev pub AreFineStmts : World → Ty → Jumps → form.InScope → List Stmt → Type 0
AreFineStmts w r l e ss = AllByRecursion (λ s. IsWell (inside_of w r e) l s) ss

abbrev NoDeclarations : List Stmt → Type 0
NoDeclarations ss = AllByRecursion IsNoDeclaration ss

-- those of one statement: none declares where it is no declaration
abbrev pub FineStmts : World → Ty → Jumps → source.Stmt → form.InScope → List Stmt → Type 0
FineStmts w r l s e ss = AreFineStmts w r l e ss × (IsAlone s → NoDeclarations ss)

-- one statement that is no declaration
abbrev Single : World → Ty → Jumps → form.InScope → Stmt → Type 0
Single w r l e s = IsWell (inside_of w r e) l s × IsNoDeclaration s

no_declaration : (s : Stmt) → IsStep s → IsNoDeclaration s
no_declaration (at_stmt place (declare n init)) h = h
no_declaration (at_stmt place (block body)) h = tt
no_declaration (at_stmt place _) h = tt

step_first : (s : Stmt) → IsStep s → IsFirst s
step_first (at_stmt place (declare n init)) h = tt
step_first (at_stmt place (block body)) h = h
step_first (at_stmt place _) h = h

pub stmts_well : (w : World) (r : Ty) (l : Jumps) (e : form.InScope) (ss : List Stmt) → AreFineStmts w r l e ss → AreWell (inside_of w r e) l (stmts_of ss)
stmts_well w r l e [] h = tt
stmts_well w r l e (s ∷ ss) h = (h.0, stmts_well w r l e ss h.1)

starting_fine : (w : World) (r : Ty) (l : Jumps) (e : form.InScope) (ss : List Stmt) → AreStarting w r l e ss → AreFineStmts w r l e ss
starting_fine w r l e [] h = tt
starting_fine w r l e (s ∷ ss) h = (h.0.0, starting_fine w r l e ss h.1)

condition_keeps : (w : World) (place : ℕ) (s : source.Expr) → Keeps w false (condition place s) Tested
condition_keeps w place s = keeps_ruled w false (valued (judged s)) (λ c x. tested place x) Fine Tested (value_keeps w s) (λ d e x g v h. tested_well e place x h.0)

only_well : (w : World) (r : Ty) (l : Jumps) (e : form.InScope) (ss : List Stmt) → AreFineStmts w r l e ss → NoDeclarations ss → Single w r l e (only ss)
only_well w r l e [] h k = (tt, tt)
only_well w r l e (s ∷ ss) h k = (h.0, k.0)

one_keeps : (w : World) (r : Ty) (l : Jumps) (s : source.Stmt) (j : Judging (List Stmt)) → IsAlone s → Keeps w false j (FineStmts w r l s) → Keeps w false (one_of j) (Single w r l)
one_keeps w r l s j a kj = keeps_ruled w false j (λ c ss. typed (only ss)) (FineStmts w r l s) (Single w r l) kj (λ d e ss g v h. only_well w r l e ss h.0 (h.1 a))

void_is : (t : Ty) → is_void t ≡ true → t ≡ void
void_is void h = refl
void_is (integer t) h = absurd cc
void_is (atomic t) h = absurd cc
void_is mutex h = absurd cc
void_is (pointer t) h = absurd cc
void_is (array t n) h = absurd cc
void_is (structure n) h = absurd cc

returned_keeps : (w : World) (r : Ty) (l : Jumps) (place : ℕ) (o : Option source.Expr) → Keeps w false (returned place r o) (Single w r l)
returned_keeps w r l place None = keeps_lone w false (unless place TypeMismatch (is_void r) >>= λ u. typed (at_stmt place (return_ None))) (Single w r l)
    (λ e. on_bind (λ u. is_void r ≡ true) (Single w r l e) (unless place TypeMismatch (is_void r)) (λ u. typed (at_stmt place (return_ None))) (on_unless place TypeMismatch (is_void r)) (λ u h. (void_is r h, tt)))
returned_keeps w r l place (Some s) = keeps_ruled w false (valued (judged s)) (λ d x. returned_by place r x) Fine (Single w r l) (value_keeps w s)
    (λ d e x g v h. on_bind (λ u. not (is_void r) ≡ true) (Single w r l e) (unless place TypeMismatch (not (is_void r))) (λ u. or_mismatch place (fitted r x) >>= λ y. typed (at_stmt place (return_ (Some y)))) (on_unless place TypeMismatch (not (is_void r)))
    (λ u k. on_bind (Fitting e r) (Single w r l e) (or_mismatch place (fitted r x)) (λ y. typed (at_stmt place (return_ (Some y)))) (on_mismatch (Fitting e r) place (fitted r x) (fits e r x h.0)) (λ y f. (f, tt))))

-- ---- for

header_well : (w : World) (r : Ty) (l : Jumps) (e : form.InScope) (s : Stmt) (ss : List Stmt) (loop : Stmt → Stmt) → Starting w r l e s → AreStarting w r l e ss → ((s : Stmt) → Starting w r l e s → Single w r l e (loop s))
    → AreWell (inside_of w r e) l (stmts_of (header_row s ss loop))
header_well w r l e s [] loop h k f = ((f s h).0, tt)
header_well w r l e s (t ∷ rest) loop h k f = (h.0, header_well w r l e t rest loop k.0 k.1 f)

headed_well : (w : World) (r : Ty) (l : Jumps) (e : form.InScope) (place : ℕ) (ss : List Stmt) (loop : Stmt → Stmt) → AreStarting w r l e ss → ((s : Stmt) → Starting w r l e s → Single w r l e (loop s)) → Single w r l e (headed place ss loop)
headed_well w r l e place [] loop h f = f (at_stmt place empty) (tt, tt)
headed_well w r l e place (s ∷ []) loop h f = f s h.0
headed_well w r l e place (s ∷ t ∷ rest) loop h f = (header_well w r l e s (t ∷ rest) loop h.0 h.1 f, tt)

first_keeps : (w : World) (r : Ty) (l : Jumps) (place : ℕ) (first : source.ForFirst) → Keeps w false (judged_first place first) (AreStarting w r l)
first_keeps w r l place (source.first_declare d) = declaration_keeps w r l d
first_keeps w r l place (source.first_simple s) = keeps_ruled w false (judged_simple s) (λ c x. typed (x ∷ [])) (Stepping w r l) (AreStarting w r l) (simple_keeps w r l s) (λ d e x g v h. ((h.0, step_first x h.1), tt))
first_keeps w r l place source.first_nothing = keeps_lone w false (typed []) (AreStarting w r l) (λ e. tt)

abbrev Testing : form.InScope → Option Expr → Type 0
Testing e o = IfTyped e IsScalar o

test_keeps : (w : World) (place : ℕ) (o : Option source.Expr) → Keeps w false (judged_condition place o) Testing
test_keeps w place None = keeps_lone w false (typed None) Testing (λ e. tt)
test_keeps w place (Some s) = keeps_ruled w false (condition place s) (λ c x. typed (Some x)) Tested Testing (condition_keeps w place s) (λ d e x g v h. h)

step_keeps : (w : World) (r : Ty) (l : Jumps) (place : ℕ) (o : Option source.Simple) → Keeps w false (judged_step place o) (Stepping w r l)
step_keeps w r l place None = keeps_lone w false (typed (at_stmt place empty)) (Stepping w r l) (λ e. (tt, tt))
step_keeps w r l place (Some s) = simple_keeps w r l s

looped_keeps : (w : World) (r : Ty) (l : Jumps) (place : ℕ) (first : Judging (List Stmt)) (test : Judging (Option Expr)) (step body : Judging Stmt)
    → Keeps w false first (AreStarting w r l) → Keeps w false test Testing → Keeps w false step (Stepping w r l) → Keeps w false body (Single w r in_loop) → Keeps w false (looped place first test step body) (Single w r l)
looped_keeps w r l place first test step body kf kt ks kb = scoped_keeps w (ruled (in_turn first (in_turn test (in_turn step body))) (λ c p. typed (headed place p.0 (λ s. at_stmt place (for_ s p.1.0 p.1.1.0 p.1.1.1))))) (Single w r l)
    (keeps_ruled w false (in_turn first (in_turn test (in_turn step body))) (λ c p. typed (headed place p.0 (λ s. at_stmt place (for_ s p.1.0 p.1.1.0 p.1.1.1))))
    (λ e p. AreStarting w r l e p.0 × (Testing e p.1.0 × (Stepping w r l e p.1.1.0 × Single w r in_loop e p.1.1.1))) (Single w r l)
    (keeps_in_turn w false first (in_turn test (in_turn step body)) (AreStarting w r l) (λ e p. Testing e p.0 × (Stepping w r l e p.1.0 × Single w r in_loop e p.1.1)) kf
    (keeps_in_turn w false test (in_turn step body) Testing (λ e p. Stepping w r l e p.0 × Single w r in_loop e p.1) kt
    (keeps_in_turn w false step body (Stepping w r l) (Single w r in_loop) ks kb)))
    (λ d e p g v h. headed_well w r l e place p.0 (λ s. at_stmt place (for_ s p.1.0 p.1.1.0 p.1.1.1)) h.0
    (λ s k. ((k.0, k.1, h.1.0, h.1.1.0.0, h.1.1.0.1, h.1.1.1.0, h.1.1.1.1), tt))))

-- ---- the walk

one_stmt : (w : World) (r : Ty) (l : Jumps) (s : source.Stmt) (j : Judging Stmt) → Keeps w false j (Single w r l) → Keeps w false (ruled j (λ d x. typed (x ∷ []))) (FineStmts w r l s)
one_stmt w r l s j kj = keeps_ruled w false j (λ d x. typed (x ∷ [])) (Single w r l) (FineStmts w r l s) kj (λ d e x g v h. ((h.0, tt), λ a. (h.1, tt)))

break_keeps : (w : World) (r : Ty) (l : Jumps) (s : source.Stmt) (place : ℕ) → Keeps w false (lone (unless place TypeMismatch l.breaks >>= λ u. typed (at_stmt place break_ ∷ []))) (FineStmts w r l s)
break_keeps w r l s place = keeps_lone w false (unless place TypeMismatch l.breaks >>= λ u. typed (at_stmt place break_ ∷ [])) (FineStmts w r l s)
    (λ e. on_bind (λ u. l.breaks ≡ true) (FineStmts w r l s e) (unless place TypeMismatch l.breaks) (λ u. typed (at_stmt place break_ ∷ [])) (on_unless place TypeMismatch l.breaks) (λ u h. ((h, tt), λ a. (tt, tt))))

continue_keeps : (w : World) (r : Ty) (l : Jumps) (s : source.Stmt) (place : ℕ) → Keeps w false (lone (unless place TypeMismatch l.continues >>= λ u. typed (at_stmt place continue_ ∷ []))) (FineStmts w r l s)
continue_keeps w r l s place = keeps_lone w false (unless place TypeMismatch l.continues >>= λ u. typed (at_stmt place continue_ ∷ [])) (FineStmts w r l s)
    (λ e. on_bind (λ u. l.continues ≡ true) (FineStmts w r l s e) (unless place TypeMismatch l.continues) (λ u. typed (at_stmt place continue_ ∷ [])) (on_unless place TypeMismatch l.continues) (λ u h. ((h, tt), λ a. (tt, tt))))

append_fine : (w : World) (r : Ty) (l : Jumps) (e : form.InScope) (a b : List Stmt) → AreFineStmts w r l e a → AreFineStmts w r l e b → AreFineStmts w r l e (a ++ b)
append_fine w r l e [] b h k = k
append_fine w r l e (x ∷ a) b h k = (h.0, append_fine w r l e a b h.1 k)

-- ---- switches

-- the expression of a switch, of this type
abbrev IsOf : IntType → form.InScope → Expr → Type 0
IsOf t e x = IsTyped e x × (type_of x ≡ integer t) × IsPromoted t

abbrev Switched : form.InScope → Expr → Type 0
Switched e x = IsOf (type_of_switch (typed x)) e x

of_switch : (x : Expr) (t : IntType) → type_of x ≡ integer t → type_of_switch (typed x) ≡ t
of_switch (at place (integer s) node) t h = cc
of_switch (at place void node) t h = absurd cc
of_switch (at place (atomic u) node) t h = absurd cc
of_switch (at place mutex node) t h = absurd cc
of_switch (at place (pointer s) node) t h = absurd cc
of_switch (at place (array s n) node) t h = absurd cc
of_switch (at place (structure n) node) t h = absurd cc

switched_well : (e : form.InScope) (place : ℕ) (s : Ty) (x : Expr) → Has e x s → OnTyped (Switched e) (switched_by place s x)
switched_well e place (integer t) x h =
    let c = converted_has e t (promoted_type t) x h in
    subst (λ u. IsOf u e (converted t (promoted_type t) x)) (sym (of_switch (converted t (promoted_type t) x) (promoted_type t) c.1)) (c.0, c.1, promoted t)
switched_well e place void x h = tt
switched_well e place (atomic t) x h = tt
switched_well e place mutex x h = tt
switched_well e place (pointer t) x h = tt
switched_well e place (array t n) x h = tt
switched_well e place (structure n) x h = tt

switched_keeps : (w : World) (place : ℕ) (s : source.Expr) → Keeps w false (switched place s) Switched
switched_keeps w place s = keeps_ruled w false (valued (judged s)) (λ c x. switched_by place (type_of x) x) Fine Switched (value_keeps w s) (λ d e x g v h. switched_well e place (type_of x) x (h.0, refl))

-- labels and statements up to here
record AreEntries (w : World) (r : Ty) (l : Jumps) (t : IntType) (e : form.InScope) (es : Entries) : Type 0 where
  labels : AllByRecursion (IsLabel (integer t) (length es.body)) es.labels
  apart : AreApart es.labels
  few : length es.labels ≤ 1024
  body : AreFineStmts w r l e es.body
  free : NoDeclarations es.body

none_yet : (w : World) (r : Ty) (l : Jumps) (t : IntType) (e : form.InScope) → AreEntries w r l t e no_entries
none_yet w r l t e = record { labels = tt; apart = tt; few = omega arith; body = tt; free = tt }

label_later : (t : Ty) (m n : ℕ) → m ≤ n → (l : Label) → IsLabel t m l → IsLabel t n l
label_later t m n h (case_at s value k) i = let j = i.2 in (i.0, i.1, omega (arith, h, j))
label_later t m n h (default_at k) i = omega (arith, h, i)

labels_later : (t : Ty) (m n : ℕ) → m ≤ n → (ls : List Label) → AllByRecursion (IsLabel t m) ls → AllByRecursion (IsLabel t n) ls
labels_later t m n h [] i = tt
labels_later t m n h (l ∷ ls) i = (label_later t m n h l i.0, labels_later t m n h ls i.1)

all_last : {X : Type 0} (P : X → Type 0) (xs : List X) (y : X) → AllByRecursion P xs → P y → AllByRecursion P (xs ++ y ∷ [])
all_last P [] y h k = (k, tt)
all_last P (x ∷ xs) y h k = (h.0, all_last P xs y h.1 k)

apart_last : (ls : List Label) (l : Label) → AreApart ls → AllByRecursion (λ m. Differ m l) ls → AreApart (ls ++ l ∷ [])
apart_last [] l h k = (tt, tt)
apart_last (m ∷ ls) l h k = (all_last (Differ m) ls l h.0 k.0, apart_last ls l h.1 k.1)

other_values : (t : IntType) (z : ℤ) (n : ℕ) (ls : List Label) → has_value z ls ≡ false → AllByRecursion (λ m. Differ m (case_at t z n)) ls
other_values t z n [] h = tt
other_values t z n (case_at s value k ∷ ls) h = by (int_eq value z) refl h (other_values t z n ls)
  where
    apart : int_eq value z ≡ false → value ≡ z → ⊥
    apart e i = let f : true ≡ false = sym ((signed_Decides value z).1 i) ∙ e in absurd cc

    by : (b : Bool) → int_eq value z ≡ b → (b || has_value z ls) ≡ false → (has_value z ls ≡ false → AllByRecursion (λ m. Differ m (case_at t z n)) ls) → AllByRecursion (λ m. Differ m (case_at t z n)) (case_at s value k ∷ ls)
    by true e h f = absurd cc
    by false e h f = (λ i. apart e i, f h)
other_values t z n (default_at k ∷ ls) h = (tt, other_values t z n ls h)

no_default : (n : ℕ) (ls : List Label) → has_default ls ≡ false → AllByRecursion (λ m. Differ m (default_at n)) ls
no_default n [] h = tt
no_default n (case_at s value k ∷ ls) h = (tt, no_default n ls h)
no_default n (default_at k ∷ ls) h = absurd cc

label_more : (w : World) (r : Ty) (l : Jumps) (t : IntType) (e : form.InScope) (es : Entries) (x : Label) → AreEntries w r l t e es → IsLabel (integer t) (length es.body) x → AllByRecursion (λ m. Differ m x) es.labels → length es.labels < 1024
    → AreEntries w r l t e (with_label es x)
label_more w r l t e es x h i d few = record {
  labels = all_last (IsLabel (integer t) (length es.body)) es.labels x h.labels i;
  apart = apart_last es.labels x h.apart d;
  few = let k = length-append es.labels (x ∷ []) in omega (arith, k, few);
  body = h.body;
  free = h.free;
}

label_is_fine : (place : ℕ) (again : Bool) (ls : List Label) → OnTyped (λ u. (again ≡ false) × (length ls < 1024)) (label_fine place again ls)
label_is_fine place again ls = by again (nat_lt (length ls) 1024) refl
  where
    by : (a f : Bool) → nat_lt (length ls) 1024 ≡ f → OnTyped (λ (u : Unit {0}). (a ≡ false) × (length ls < 1024)) (both (unless place DoubleName (not a)) (unless place (TooMany 13) f) >>= λ u. typed (tt {0}))
    by false true h = (refl, below (length ls) 1024 h)
    by false false h = tt
    by true true h = tt
    by true false h = tt

cased_well : (w : World) (r : Ty) (l : Jumps) (t : IntType) (e : form.InScope) (es : Entries) → AreEntries w r l t e es → (place : ℕ) (n : Option Num) → OnTyped (AreEntries w r l t e) (cased place t es n)
cased_well w r l t e es h place None = tt
cased_well w r l t e es h place (Some n) =
    on_bind (λ u. (has_value z es.labels ≡ false) × (length es.labels < 1024)) (AreEntries w r l t e) (label_fine place (has_value z es.labels) es.labels) (λ u. typed (with_label es (case_at t z (length es.body))))
    (label_is_fine place (has_value z es.labels) es.labels)
    (λ u k. label_more w r l t e es (case_at t z (length es.body)) h (refl, wrapped_value-in_range t n.value, omega arith) (other_values t z (length es.body) es.labels k.0) k.1)
  where
    z : ℤ
    z = (number t n.value).value

defaulted_well : (w : World) (r : Ty) (l : Jumps) (t : IntType) (e : form.InScope) (es : Entries) → AreEntries w r l t e es → (place : ℕ) → OnTyped (AreEntries w r l t e) (defaulted place es)
defaulted_well w r l t e es h place =
    on_bind (λ u. (has_default es.labels ≡ false) × (length es.labels < 1024)) (AreEntries w r l t e) (label_fine place (has_default es.labels) es.labels) (λ u. typed (with_label es (default_at (length es.body))))
    (label_is_fine place (has_default es.labels) es.labels)
    (λ u k. label_more w r l t e es (default_at (length es.body)) h (omega arith) (no_default (length es.body) es.labels k.0) k.1)

stmt_more : (w : World) (r : Ty) (l : Jumps) (t : IntType) (e : form.InScope) (es : Entries) (x : Stmt) → AreEntries w r l t e es → Single w r l e x → AreEntries w r l t e (with_stmt es x)
stmt_more w r l t e es x h s =
    let k = length-append es.body (x ∷ []) in
    record {
      labels = labels_later (integer t) (length es.body) (length (es.body ++ x ∷ [])) (omega (arith, k)) es.labels h.labels;
      apart = h.apart;
      few = h.few;
      body = all_last (λ s. IsWell (inside_of w r e) l s) es.body x h.body s.0;
      free = all_last IsNoDeclaration es.body x h.free s.1;
    }

-- what holds of the entries so far, in each tree around
abbrev Behind : World → Ty → Jumps → IntType → Context → Entries → Type 0
Behind w r l t c es = (e : form.InScope) → Over w c e → AreEntries w r l t e es

stmt_entry : (w : World) (r : Ty) (l : Jumps) (t : IntType) (es : Entries) (j : Judging Stmt) → Keeps w false j (Single w r l) → (c : Context) → Good w c → Behind w r l t c es
    → OnTyped (λ x. After w false c (ruled j (λ d x. typed (with_stmt es x)) c).1 (λ e. AreEntries w r l t e x)) (ruled j (λ d x. typed (with_stmt es x)) c).0
stmt_entry w r l t es j kj c g h =
    ruled_after w false c j (λ d x. typed (with_stmt es x)) (Single w r l) (AreEntries w r l t) g kj
    (λ d e x v k o s. stmt_more w r l t e es x (h e (over_before w false c d e v o)) s)

entry_after : (w : World) (r : Ty) (l : Jumps) (t : IntType) (es : Entries) (s : source.Stmt) (j : Judging (List Stmt)) → Keeps w false (one_of j) (Single w r l) → (c : Context) → Good w c → Behind w r l t c es
    → OnTyped (λ x. After w false c (entry_of t es s j c).1 (λ e. AreEntries w r l t e x)) (entry_of t es s j c).0
entry_after w r l t es (source.case_label place s) j kj c g h =
    ruled_after w false c (valued (judged s)) (λ d x. cased place t es (constant_value d s x)) Fine (AreEntries w r l t) g (value_keeps w s)
    (λ d e x v k o i. cased_well w r l t e es (h e (over_before w false c d e v o)) place (constant_value d s x))
entry_after w r l t es (source.default_label place) j kj c g h = keeps_here w false c (AreEntries w r l t) (defaulted place es) g (λ e o. defaulted_well w r l t e es (h e o) place)
entry_after w r l t es (source.block place items) j kj c g h = stmt_entry w r l t es (one_of j) kj c g h
entry_after w r l t es (source.declare d) j kj c g h = stmt_entry w r l t es (one_of j) kj c g h
entry_after w r l t es (source.empty place) j kj c g h = stmt_entry w r l t es (one_of j) kj c g h
entry_after w r l t es (source.if_then place s u) j kj c g h = stmt_entry w r l t es (one_of j) kj c g h
entry_after w r l t es (source.if_else place s u v) j kj c g h = stmt_entry w r l t es (one_of j) kj c g h
entry_after w r l t es (source.while place s u) j kj c g h = stmt_entry w r l t es (one_of j) kj c g h
entry_after w r l t es (source.for place first s step u) j kj c g h = stmt_entry w r l t es (one_of j) kj c g h
entry_after w r l t es (source.do_while place u s) j kj c g h = stmt_entry w r l t es (one_of j) kj c g h
entry_after w r l t es (source.switch place s entries) j kj c g h = stmt_entry w r l t es (one_of j) kj c g h
entry_after w r l t es (source.break place) j kj c g h = stmt_entry w r l t es (one_of j) kj c g h
entry_after w r l t es (source.continue place) j kj c g h = stmt_entry w r l t es (one_of j) kj c g h
entry_after w r l t es (source.return place value) j kj c g h = stmt_entry w r l t es (one_of j) kj c g h
entry_after w r l t es (source.simple s) j kj c g h = stmt_entry w r l t es (one_of j) kj c g h

-- an entry, and those behind it
then_after : (w : World) (r : Ty) (l : Jumps) (t : IntType) (first : Judging Entries) (rest : Entries → Judging Entries) (c : Context)
    → OnTyped (λ x. After w false c (first c).1 (λ e. AreEntries w r l t e x)) (first c).0
    → ((es : Entries) (d : Context) → Good w d → Behind w r l t d es → OnTyped (λ x. After w false d (rest es d).1 (λ e. AreEntries w r l t e x)) (rest es d).0)
    → OnTyped (λ x. After w false c (entry_then first rest c).1 (λ e. AreEntries w r l t e x)) (entry_then first rest c).0
then_after w r l t first rest c h f = by (first c).1 (first c).0 h
  where
    by : (d : Context) (j : Judged Entries) → OnTyped (λ x. After w false c d (λ e. AreEntries w r l t e x)) j
        → OnTyped (λ x. After w false c (rest (entries_or j) d).1 (λ e. AreEntries w r l t e x)) (both j (rest (entries_or j) d).0 >>= λ p. typed p.1)
    by d (typed es) a =
        given (λ x. After w false d (rest es d).1 (λ e. AreEntries w r l t e x)) (λ x. After w false c (rest es d).1 (λ e. AreEntries w r l t e x)) es (rest es d).0 (f es d a.good a.fine)
        (λ x k. record { good = k.good; within = within_further false c d (rest es d).1 a.within k.within; fine = k.fine })
    by d (faulty q qs) a = not_given _ q qs (rest no_entries d).0 (λ p. typed p.1)

count_is : (ss : List Stmt) → stmts_count (stmts_of ss) ≡ length ss
count_is [] = refl
count_is (s ∷ ss) = let h = count_is ss in omega (arith, h)

free_is : (ss : List Stmt) → NoDeclarations ss → AreNoDeclarations (stmts_of ss)
free_is [] h = tt
free_is (s ∷ ss) h = (h.0, free_is ss h.1)

switch_well : (w : World) (r : Ty) (l : Jumps) (e : form.InScope) (place : ℕ) (x : Expr) (es : Entries) → Switched e x → AreEntries w r (in_switch l) (type_of_switch (typed x)) e es
    → IsWell (inside_of w r e) l (at_stmt place (switch x es.labels (stmts_of es.body)))
switch_well w r l e place x es h k = (
  h.0,
  subst IsSwitched (sym h.1) h.2,
  subst (λ t. AllByRecursion (IsLabel t (stmts_count (stmts_of es.body))) es.labels) (sym h.1)
      (subst (λ n. AllByRecursion (IsLabel (integer (type_of_switch (typed x))) n) es.labels) (sym (count_is es.body)) k.labels),
  k.apart,
  k.few,
  stmts_well w r (in_switch l) e es.body k.body,
  free_is es.body k.free,
)

switching_after : (w : World) (r : Ty) (l : Jumps) (s : source.Stmt) (place : ℕ) (first : Judging Expr) (entries : IntType → Judging Entries) → Keeps w false first Switched
    → ((t : IntType) (d : Context) → Good w d → OnTyped (λ es. After w false d (entries t d).1 (λ e. AreEntries w r (in_switch l) t e es)) (entries t d).0)
    → (c : Context) → Good w c → OnTyped (λ ss. After w false c (switching place first entries c).1 (λ e. FineStmts w r l s e ss)) (switching place first entries c).0
switching_after w r l s place first entries kf ke c g = by (first c).1 (first c).0 (kf.keeps c g)
  where
    both_after : (d f : Context) (x : Expr) (k : Judged Entries) → After w false c d (λ e. Switched e x) → OnTyped (λ es. After w false d f (λ e. AreEntries w r (in_switch l) (type_of_switch (typed x)) e es)) k
        → OnTyped (λ ss. After w false c f (λ e. FineStmts w r l s e ss)) (both (typed x) k >>= λ p. typed (at_stmt place (switch p.0 p.1.labels (stmts_of p.1.body)) ∷ []))
    both_after d f x (typed es) a b = record {
      good = b.good;
      within = within_further false c d f a.within b.within;
      fine = λ e o. ((switch_well w r l e place x es (a.fine e (over_before w false d f e b.within o)) (b.fine e o), tt), λ alone. (tt, tt));
    }
    both_after d f x (faulty q qs) a b = tt

    by : (d : Context) (j : Judged Expr) → OnTyped (λ x. After w false c d (λ e. Switched e x)) j
        → OnTyped (λ ss. After w false c (entries (type_of_switch j) d).1 (λ e. FineStmts w r l s e ss)) (both j (entries (type_of_switch j) d).0 >>= λ p. typed (at_stmt place (switch p.0 p.1.labels (stmts_of p.1.body)) ∷ []))
    by d (typed x) a = both_after d (entries (type_of_switch (typed x)) d).1 x (entries (type_of_switch (typed x)) d).0 a (ke (type_of_switch (typed x)) d a.good)
    by d (faulty q qs) a = not_given _ q qs (entries (type_of_switch (faulty q qs)) d).0 (λ p. typed (at_stmt place (switch p.0 p.1.labels (stmts_of p.1.body)) ∷ []))

mutual
  pub stmt_keeps : (w : World) (r : Ty) (l : Jumps) (s : source.Stmt) → IsWritten s → Keeps w false (judged_stmt r l s) (FineStmts w r l s)
  stmt_keeps w r l (source.block place items) a =
      keeps_ruled w false (scoped (judged_stmts r l items)) (λ d ss. typed (at_stmt place (block (stmts_of ss)) ∷ [])) (AreFineStmts w r l) (FineStmts w r l (source.block place items))
      (scoped_keeps w (judged_stmts r l items) (AreFineStmts w r l) (stmts_keep w r l items a)) (λ d e ss g v h. ((stmts_well w r l e ss h, tt), λ b. (tt, tt)))
  stmt_keeps w r l (source.declare d) a = keeps_weaker w false (judged_declaration d) (AreStarting w r l) (FineStmts w r l (source.declare d)) (declaration_keeps w r l d) (λ e ss h. (starting_fine w r l e ss h, λ b. absurd b))
  stmt_keeps w r l (source.empty place) a = keeps_lone w false (typed (at_stmt place empty ∷ [])) (FineStmts w r l (source.empty place)) (λ e. ((tt, tt), λ b. (tt, tt)))
  stmt_keeps w r l (source.if_then place c s) a =
      keeps_ruled w false (in_turn (condition place c) (one_of (judged_stmt r l s))) (λ d p. typed (at_stmt place (if_ p.0 p.1) ∷ [])) (λ e p. Tested e p.0 × Single w r l e p.1) (FineStmts w r l (source.if_then place c s))
      (keeps_in_turn w false (condition place c) (one_of (judged_stmt r l s)) Tested (Single w r l) (condition_keeps w place c) (one_keeps w r l s (judged_stmt r l s) a.0 (stmt_keeps w r l s a.1)))
      (λ d e p g v h. (((h.0.0, h.0.1, h.1.0, h.1.1), tt), λ b. (tt, tt)))
  stmt_keeps w r l (source.if_else place c s t) a =
      keeps_ruled w false (in_turn (condition place c) (in_turn (one_of (judged_stmt r l s)) (one_of (judged_stmt r l t)))) (λ d p. typed (at_stmt place (if_else p.0 p.1.0 p.1.1) ∷ [])) (λ e p. Tested e p.0 × (Single w r l e p.1.0 × Single w r l e p.1.1)) (FineStmts w r l (source.if_else place c s t))
      (keeps_in_turn w false (condition place c) (in_turn (one_of (judged_stmt r l s)) (one_of (judged_stmt r l t))) Tested (λ e p. Single w r l e p.0 × Single w r l e p.1) (condition_keeps w place c)
      (keeps_in_turn w false (one_of (judged_stmt r l s)) (one_of (judged_stmt r l t)) (Single w r l) (Single w r l) (one_keeps w r l s (judged_stmt r l s) a.0 (stmt_keeps w r l s a.1)) (one_keeps w r l t (judged_stmt r l t) a.2 (stmt_keeps w r l t a.3))))
      (λ d e p g v h. (((h.0.0, h.0.1, h.1.0.0, h.1.0.1, h.1.1.0, h.1.1.1), tt), λ b. (tt, tt)))
  stmt_keeps w r l (source.while place c s) a =
      keeps_ruled w false (in_turn (condition place c) (one_of (judged_stmt r in_loop s))) (λ d p. typed (at_stmt place (while_ p.0 p.1) ∷ [])) (λ e p. Tested e p.0 × Single w r in_loop e p.1) (FineStmts w r l (source.while place c s))
      (keeps_in_turn w false (condition place c) (one_of (judged_stmt r in_loop s)) Tested (Single w r in_loop) (condition_keeps w place c) (one_keeps w r in_loop s (judged_stmt r in_loop s) a.0 (stmt_keeps w r in_loop s a.1)))
      (λ d e p g v h. (((h.0.0, h.0.1, h.1.0, h.1.1), tt), λ b. (tt, tt)))
  stmt_keeps w r l (source.for place first c step s) a =
      one_stmt w r l (source.for place first c step s) (looped place (judged_first place first) (judged_condition place c) (judged_step place step) (one_of (judged_stmt r in_loop s)))
      (looped_keeps w r l place (judged_first place first) (judged_condition place c) (judged_step place step) (one_of (judged_stmt r in_loop s)) (first_keeps w r l place first) (test_keeps w place c) (step_keeps w r l place step) (one_keeps w r in_loop s (judged_stmt r in_loop s) a.0 (stmt_keeps w r in_loop s a.1)))
  stmt_keeps w r l (source.do_while place s c) a =
      keeps_ruled w false (in_turn (one_of (judged_stmt r in_loop s)) (condition place c)) (λ d p. typed (at_stmt place (do_while p.0 p.1) ∷ [])) (λ e p. Single w r in_loop e p.0 × Tested e p.1) (FineStmts w r l (source.do_while place s c))
      (keeps_in_turn w false (one_of (judged_stmt r in_loop s)) (condition place c) (Single w r in_loop) Tested (one_keeps w r in_loop s (judged_stmt r in_loop s) a.0 (stmt_keeps w r in_loop s a.1)) (condition_keeps w place c))
      (λ d e p g v h. (((h.0.0, h.0.1, h.1.0, h.1.1), tt), λ b. (tt, tt)))
  stmt_keeps w r l (source.switch place c entries) a = record {
    keeps = switching_after w r l (source.switch place c entries) place (switched place c) (λ t. judged_entries r (in_switch l) t no_entries entries) (switched_keeps w place c)
        (λ t d g. entries_after w r (in_switch l) t entries a.0 a.1 no_entries d g (λ e o. none_yet w r (in_switch l) t e));
  }
  stmt_keeps w r l (source.case_label place c) a = keeps_lone w false (refuse place TypeMismatch) (FineStmts w r l (source.case_label place c)) (λ e. tt)
  stmt_keeps w r l (source.default_label place) a = keeps_lone w false (refuse place TypeMismatch) (FineStmts w r l (source.default_label place)) (λ e. tt)
  stmt_keeps w r l (source.break place) a = break_keeps w r l (source.break place) place
  stmt_keeps w r l (source.continue place) a = continue_keeps w r l (source.continue place) place
  stmt_keeps w r l (source.return place value) a = one_stmt w r l (source.return place value) (returned place r value) (returned_keeps w r l place value)
  stmt_keeps w r l (source.simple s) a = one_stmt w r l (source.simple s) (judged_simple s) (keeps_weaker w false (judged_simple s) (Stepping w r l) (Single w r l) (simple_keeps w r l s) (λ e x h. (h.0, no_declaration x h.1)))

  pub stmts_keep : (w : World) (r : Ty) (l : Jumps) (ss : source.Stmts) → AreWritten ss → Keeps w false (judged_stmts r l ss) (AreFineStmts w r l)
  stmts_keep w r l source.no_stmts a = keeps_lone w false (typed []) (AreFineStmts w r l) (λ e. tt)
  stmts_keep w r l (source.more_stmts s rest) a =
      keeps_ruled w false (in_turn (judged_stmt r l s) (judged_stmts r l rest)) (λ d p. typed (p.0 ++ p.1)) (λ e p. FineStmts w r l s e p.0 × AreFineStmts w r l e p.1) (AreFineStmts w r l)
      (keeps_in_turn w false (judged_stmt r l s) (judged_stmts r l rest) (FineStmts w r l s) (AreFineStmts w r l) (stmt_keeps w r l s a.0) (stmts_keep w r l rest a.1)) (λ d e p g v h. append_fine w r l e p.0 p.1 h.0.0 h.1)

  entries_after : (w : World) (r : Ty) (l : Jumps) (t : IntType) (ss : source.Stmts) → AreAlone ss → AreWritten ss → (es : Entries) (c : Context) → Good w c → Behind w r l t c es
      → OnTyped (λ x. After w false c (judged_entries r l t es ss c).1 (λ e. AreEntries w r l t e x)) (judged_entries r l t es ss c).0
  entries_after w r l t source.no_stmts n a es c g h = record { good = g; within = within_itself false c; fine = h }
  entries_after w r l t (source.more_stmts s rest) n a es c g h =
      then_after w r l t (entry_of t es s (judged_stmt r l s)) (λ next. judged_entries r l t next rest) c
      (entry_after w r l t es s (judged_stmt r l s) (one_keeps w r l s (judged_stmt r l s) n.0 (stmt_keeps w r l s a.0)) c g h)
      (λ next d k i. entries_after w r l t rest n.1 a.1 next d k i)
