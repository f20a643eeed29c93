-- Globals, judged where they stand.
use Rattle.std.proofs.Common.{◌≡◌, ℕ, suc, ◌+◌, ◌<◌, ◌≤◌, ◌⊎◌, inl, inr, Bool, true, false, ◌||◌, not, refl, sym, ap, ◌∙◌, subst, arith, List, [], ◌∷◌, ◌++◌, length, map, Option, Some, None, slice_get, nat_lt, nat_le, if◌then◌else◌, append_assoc, append-nil}
use Rattle.std.specs.List.{AllByRecursion}
use Rattle.std.specs.Map.{lookup}
use Rattle.std.specs.Str.{bytes_eq}
use Rattle.std.proofs.lemmas.List.{length-append}
use Rattle.std.proofs.lemmas.Option.{slice_get_within}
use Rattle.ak_words.specs.declared.int_type.IntType.{IntType}
use Rattle.ak_words.specs.declared.number.Num.{Num}
use Rattle.ak_words.specs.IntType.{char, int}
use Rattle.ak_words.specs.inner.InRange.{wrapped_value-in_range}
use Rattle.c_lex.specs.declared.refusal.Refusal.{Refusal}
use Rattle.c_lex.specs.declared.refusal.Kind.TheVariants.{TooMany, DoubleName}
use Rattle.c_tree.specs.declared.syntax.Name.{Name}
use Rattle.c_tree.specs.Syntax as source
use Rattle.c_tree.specs.Typed.{Ty, void, integer, atomic, mutex, pointer, array, structure, Layout, Init, zero_bytes, number, literal_at, GlobalVar, Expr, at, ExprNode, literal, decay, node_of}
use Rattle.c_tree.specs.TypedLayout.{size_in, IsSized}
use Rattle.c_tree.specs.TypedForm.{IsInit, IsTyped, IsTypedNode, taken}
use Rattle.c_tree.specs.TypedForm as form
use Rattle.c_typing.specs.Faults.{Judged, typed, faulty, refuse, both, ◌>>=◌}
use Rattle.c_typing.specs.Types.{same_int}
use Rattle.c_typing.specs.Scope.{Binding, global_name, local_name, function_name, enumerator_name, type_name, library_name, Frame, Context, bytes_of, or_else, is_double, fresh, within, most_plain, fits_plain}
use Rattle.c_typing.specs.Rules.{is_zero}
use Rattle.c_typing.specs.Constants.{constant_value}
use Rattle.c_typing.specs.Judgement.{lone, in_turn, valued, Declarator, object_declared, judged, name_in}
use Rattle.c_typing.specs.Statements.{or_int, judged_declarator, name_of}
use Rattle.c_typing.specs.Programs.{is_null_word, literal_of, number_at, string_at, pointer_at, init_at, started_with, judged_global_init, with_global, judged_global, judged_globals}
use Rattle.c_typing.proofs.Extending.{Extends, extends_itself, extends_further, Ready, ready_kept, sized_kept, below, at_most}
use Rattle.c_typing.proofs.Elements.{get_before, get_last, get_either, sum_last}
use Rattle.c_typing.proofs.Carried.{OnTyped, OnSome, on_weaker, World, since, good_since, IsObject, Good, Grows, grows_further, Within, within_itself, After, Keeps, keeps_lone, keeps_in_turn, keeps_ruled}
use Rattle.c_typing.proofs.RuledWell.{Fine, same_int_is}
use Rattle.c_typing.proofs.TypesWell.{ArePositive, object_well}
use Rattle.c_typing.proofs.Shown.{named_kept, name_good}
use Rattle.c_typing.proofs.Own.{own, over_own}
use Rattle.c_typing.proofs.JudgedWell.{valued_keeps, judged_keeps}
use Rattle.c_typing.proofs.StatedWell.{declarator_keeps, none_of, unfit}
use Rattle.c_typing.proofs.Lengthened.{IsEnumerator, Lengthens, meaning_before, function_before, lookup_last}

-- ---- what a global starts with

literal_in : (e : form.InScope) (ty : Ty) (node : ExprNode) → IsTypedNode e ty node → OnSome (λ n. n < length e.literals) (literal_of node)
literal_in e ty (decay (at p t (literal n))) h = slice_get_within e.literals n h.0.0 h.0.1
literal_in e ty _ h = tt

literal_there : (e : form.InScope) (x : Expr) → IsTyped e x → OnSome (λ n. n < length e.literals) (literal_of (node_of x))
literal_there e (at p ty node) h = literal_in e ty node h

string_well : (ls : List (List ℕ)) (t : Ty) (o : Option ℕ) → OnSome (λ n. n < length ls) o → OnSome (IsInit ls (pointer t)) (string_at t o)
string_well ls (integer t) (Some n) h = by (same_int t char) refl
  where
    by : (b : Bool) → same_int t char ≡ b → OnSome (IsInit ls (pointer (integer t))) (if b then Some (literal_at n) else None)
    by true k = (ap (λ (u : IntType). pointer (integer u)) (same_int_is t char k), h)
    by false k = tt
string_well ls (integer t) None h = tt
string_well ls void o h = tt
string_well ls (atomic t) o h = tt
string_well ls mutex o h = tt
string_well ls (pointer t) o h = tt
string_well ls (array t n) o h = tt
string_well ls (structure n) o h = tt

pointer_well : (e : form.InScope) (c : Context) (t : Ty) (s : source.Expr) (x : Expr) → IsTyped e x → OnSome (IsInit e.literals (pointer t)) (pointer_at c t s x)
pointer_well e c t s x h = by (is_null_word s || is_zero (node_of x))
  where
    by : (b : Bool) → OnSome (IsInit e.literals (pointer t)) (if b then Some zero_bytes else string_at t (literal_of (node_of x)))
    by true = tt
    by false = string_well e.literals t (literal_of (node_of x)) (literal_there e x h)

number_well : (ls : List (List ℕ)) (t : IntType) (o : Option Num) → OnSome (IsInit ls (integer t)) (number_at t o)
number_well ls t None = tt
number_well ls t (Some n) = (refl, wrapped_value-in_range t n.value)

atomic_well : (ls : List (List ℕ)) (t : IntType) (o : Option Num) → OnSome (IsInit ls (atomic t)) (number_at t o)
atomic_well ls t None = tt
atomic_well ls t (Some n) = (refl, wrapped_value-in_range t n.value)

init_well : (e : form.InScope) (c : Context) (t : Ty) (s : source.Expr) (x : Expr) → IsTyped e x → OnSome (IsInit e.literals t) (init_at c t s x)
init_well e c (integer t) s x h = number_well e.literals t (constant_value c s x)
init_well e c (atomic t) s x h = atomic_well e.literals t (constant_value c s x)
init_well e c (pointer t) s x h = pointer_well e c t s x h
init_well e c void s x h = tt
init_well e c mutex s x h = tt
init_well e c (array t n) s x h = tt
init_well e c (structure n) s x h = tt

started_well : (ls : List (List ℕ)) (t : Ty) (place : ℕ) (o : Option Init) → OnSome (IsInit ls t) o → OnTyped (IsInit ls t) (started_with place o)
started_well ls t place (Some i) h = h
started_well ls t place None h = tt

abbrev Starts : Ty → form.InScope → Init → Type 0
Starts t e i = IsInit e.literals t i

init_keeps : (w : World) (place : ℕ) (t : Ty) (o : Option source.Expr) → Keeps w true (judged_global_init place (typed t) o) (Starts t)
init_keeps w place t None = keeps_lone w true (typed zero_bytes) (Starts t) (λ e. tt)
init_keeps w place t (Some s) =
    keeps_ruled w true (in_turn (lone (typed t)) (valued (judged s))) (λ d p. started_with place (init_at d p.0 s p.1)) (λ e p. (t ≡ p.0) × Fine e p.1) (Starts t)
    (keeps_in_turn w true (lone (typed t)) (valued (judged s)) (λ e u. t ≡ u) Fine (keeps_lone w true (typed t) (λ e u. t ≡ u) (λ e. refl)) (valued_keeps w (name_in s) (judged s) (judged_keeps w s)))
    (λ d e p g v h. subst (λ u. OnTyped (IsInit e.literals u) (started_with place (init_at d p.0 s p.1))) (sym h.0) (started_well e.literals p.0 place (init_at d p.0 s p.1) (init_well e d p.0 s p.1 h.1.0)))

-- ---- a global more

abbrev with_size : Context → Ty → Context
with_size c t = record c { globals = c.globals ++ t ∷ []; plain = c.plain + taken (size_in c.structs t) }

size_good : (w : World) (c : Context) → Good w c → (t : Ty) → IsObject c.structs t → c.plain + taken (size_in c.structs t) ≤ most_plain → Good w (with_size c t)
size_good w c g t o small = record {
  results = g.results;
  since = g.since;
  numbered = g.numbered;
  names = λ q m h. named_kept w c (with_size c t) (extends_itself c.structs) (λ n u k. get_before c.globals (t ∷ []) n u k) (λ n u k. k) m (g.names q m h);
  layouts = g.layouts;
  apart = g.apart;
  members = g.members;
  unbegun = g.unbegun;
  tags = g.tags;
  begun = g.begun;
  literals = g.literals;
  globals = λ n u h. by n u (get_either c.globals t n u h);
  locals = g.locals;
  plain =
      let h = g.plain in
      let k = sum_last (λ u. taken (size_in c.structs u)) c.globals t in
      omega (arith, h, k);
  small = small;
  params = g.params;
  few = g.few;
}
  where
    by : (n : ℕ) (u : Ty) → (slice_get c.globals n ≡ Some u) ⊎ (t ≡ u) → IsObject c.structs u
    by n u (inl h) = g.globals n u h
    by n u (inr e) = subst (IsObject c.structs) e o

global_good : (w : World) (c : Context) → Good w c → (n : Name) (t : Ty) → IsObject c.structs t → c.plain + taken (size_in c.structs t) ≤ most_plain → Good w (with_global c n t)
global_good w c g n t o small = by (is_double c n)
  where
    by : (b : Bool) → Good w (record (if b then c else record c { inner = c.inner ++ (bytes_of c.text n, global_name (length c.globals) t) ∷ [] }) { globals = c.globals ++ t ∷ []; plain = c.plain + taken (size_in c.structs t) })
    by true = size_good w c g t o small
    by false = name_good w (with_size c t) (size_good w c g t o small) n (global_name (length c.globals) t) (get_last c.globals t)

-- names at file scope mean no locals
abbrev pub NotLocal : Binding → Type 0
NotLocal (local_name n t) = ⊥
NotLocal m = Unit {0}

abbrev pub Free : Context → Type 0
Free c = (q : List ℕ) (m : Binding) → lookup (bytes_eq q) c.inner ≡ Some m → NotLocal m

-- the functions that a scope has are those that another has
abbrev pub NoFunctions : (c d : Context) → Type 0
NoFunctions c d = (q : List ℕ) (n : ℕ) (ps : List Ty) (r : Ty) → lookup (bytes_eq q) d.inner ≡ Some (function_name n ps r) → lookup (bytes_eq q) c.inner ≡ Some (function_name n ps r)

-- enumerators are no locals and no functions
pub free_before : (old new : Frame) → Lengthens old new → (q : List ℕ) → ((m : Binding) → lookup (bytes_eq q) old ≡ Some m → NotLocal m) → (m : Binding) → lookup (bytes_eq q) new ≡ Some m → NotLocal m
free_before old new f q g m h = by m (meaning_before old new f q m h)
  where
    by : (m : Binding) → (lookup (bytes_eq q) old ≡ Some m) ⊎ IsEnumerator (Some m) → NotLocal m
    by m (inl e) = g m e
    by (enumerator_name value) (inr i) = tt
    by (global_name n t) (inr i) = tt
    by (function_name n ps r) (inr i) = tt
    by (type_name t) (inr i) = tt
    by (library_name which) (inr i) = tt
    by (local_name n t) (inr i) = absurd i

abbrev IsHeld : List Layout → List (List ℕ) → GlobalVar → Type 0
IsHeld s ls g = IsSized s g.ty × IsInit ls g.ty g.init

abbrev pub AreHeld : List Layout → List (List ℕ) → List GlobalVar → Type 0
AreHeld s ls gs = AllByRecursion (IsHeld s ls) gs

pub record Globals (w : World) (c d : Context) (gs : List GlobalVar) : Type 0 where
  pub good : Good w d
  pub grows : Grows c d
  pub outer : d.outer ≡ c.outer
  pub free : Free c → Free d
  pub no_functions : NoFunctions c d
  pub functions : d.functions ≡ c.functions
  pub bodies : d.bodies ≡ c.bodies
  pub globals : d.globals ≡ c.globals ++ map (λ (g : GlobalVar). g.ty) gs
  pub few : length c.globals ≤ 4096 → length d.globals ≤ 4096
  pub held : AreHeld d.structs d.literals gs

-- what an expression leaves
pub globals_still : (w : World) (c d : Context) → Good w d → Within true c d → Globals w c d []
globals_still w c d g v = record {
  good = g;
  grows = v.0;
  outer = v.2.outer;
  free = λ f q m h. free_before c.inner d.inner v.2.inner q (λ m h. f q m h) m h;
  no_functions = λ q n ps r h. function_before c.inner d.inner v.2.inner q n ps r h;
  functions = v.1.functions;
  bodies = v.1.bodies;
  globals = v.1.globals ∙ sym (append-nil c.globals);
  few = λ h. subst (λ (ts : List Ty). length ts ≤ 4096) (sym v.1.globals) h;
  held = tt;
}

more_literals : (c d : Context) → Grows c d → length c.literals ≤ length d.literals
more_literals c d f = longer c.literals d.literals (f.literals)
  where
    longer : {X : Type 0} (xs ys : List X) → ((n : ℕ) (x : X) → slice_get xs n ≡ Some x → slice_get ys n ≡ Some x) → length xs ≤ length ys
    longer [] ys f = omega arith
    longer (x ∷ xs) [] f = absurd (none (f 0 x refl))
      where
        none : slice_get [] 0 ≡ Some x → ⊥
        none h = cc
    longer (x ∷ xs) (y ∷ ys) f = let h = longer xs ys (λ n z k. f (suc n) z k) in omega (arith, h)

init_kept : (ls ms : List (List ℕ)) → length ls ≤ length ms → (t : Ty) (i : Init) → IsInit ls t i → IsInit ms t i
init_kept ls ms h t zero_bytes k = tt
init_kept ls ms h t (number s v) k = k
init_kept ls ms h t (literal_at n) k = let l = k.1 in (k.0, omega (arith, h, l))

pub held_kept : (c d : Context) → Grows c d → (gs : List GlobalVar) → AreHeld c.structs c.literals gs → AreHeld d.structs d.literals gs
held_kept c d f [] h = tt
held_kept c d f (g ∷ gs) h = ((sized_kept c.structs d.structs f.structs g.ty h.0.0, init_kept c.literals d.literals (more_literals c d f) g.ty g.init h.0.1), held_kept c d f gs h.1)

pub globals_further : (w : World) (b c d : Context) (gs hs : List GlobalVar) → Globals w b c gs → Globals w c d hs → Globals w b d (gs ++ hs)
globals_further w b c d gs hs f k = record {
  good = k.good;
  grows = grows_further b c d f.grows k.grows;
  outer = k.outer ∙ f.outer;
  free = λ h. k.free (f.free h);
  no_functions = λ q n ps r h. f.no_functions q n ps r (k.no_functions q n ps r h);
  functions = k.functions ∙ f.functions;
  bodies = k.bodies ∙ f.bodies;
  globals = k.globals ∙ ap (λ ts. ts ++ map (λ (g : GlobalVar). g.ty) hs) f.globals ∙ append_assoc b.globals (map (λ (g : GlobalVar). g.ty) gs) (map (λ (g : GlobalVar). g.ty) hs) ∙ ap (λ ts. b.globals ++ ts) (sym (map_append gs hs));
  few = λ h. k.few (f.few h);
  held = append_held d.structs d.literals gs hs (held_kept c d k.grows gs f.held) k.held;
}
  where
    map_append : (gs hs : List GlobalVar) → map (λ (g : GlobalVar). g.ty) (gs ++ hs) ≡ map (λ (g : GlobalVar). g.ty) gs ++ map (λ (g : GlobalVar). g.ty) hs
    map_append [] hs = refl
    map_append (g ∷ gs) hs = ap (λ ts. g.ty ∷ ts) (map_append gs hs)

    append_held : (s : List Layout) (ls : List (List ℕ)) (gs hs : List GlobalVar) → AreHeld s ls gs → AreHeld s ls hs → AreHeld s ls (gs ++ hs)
    append_held s ls [] hs h k = k
    append_held s ls (g ∷ gs) hs h k = (h.0, append_held s ls gs hs h.1 k)

-- a name more
one_name : (q k : List ℕ) (c : Context) (v m : Binding) → lookup (bytes_eq q) (c.inner ++ (k, v) ∷ []) ≡ Some m → (lookup (bytes_eq q) c.inner ≡ Some m) ⊎ (v ≡ m)
one_name q k c v m h = by (lookup (bytes_eq q) c.inner) (bytes_eq q k) (sym (lookup_last (bytes_eq q) c.inner k v) ∙ h)
  where
    by : (o : Option Binding) (b : Bool) → or_else o (if b then Some v else None) ≡ Some m → (o ≡ Some m) ⊎ (v ≡ m)
    by (Some x) b h = inl h
    by None true h = inr cc
    by None false h = inl h

abbrev with_named : Context → Bool → Name → Ty → Context
with_named c b n t = record (if b then c else record c { inner = c.inner ++ (bytes_of c.text n, global_name (length c.globals) t) ∷ [] }) { globals = c.globals ++ t ∷ []; plain = c.plain + taken (size_in c.structs t) }

-- a global's name and type, before what it starts with
record Named (w : World) (c d : Context) (t : Ty) : Type 0 where
  good : Good w d
  grows : Grows c d
  outer : d.outer ≡ c.outer
  free : Free c → Free d
  no_functions : NoFunctions c d
  functions : d.functions ≡ c.functions
  bodies : d.bodies ≡ c.bodies
  globals : d.globals ≡ c.globals ++ t ∷ []

name_step : (w : World) (c : Context) → Good w c → (n : Name) (t : Ty) → IsObject c.structs t → c.plain + taken (size_in c.structs t) ≤ most_plain → Named w c (with_global c n t) t
name_step w c k n t o small = by (is_double c n) (global_good w c k n t o small)
  where
    grown : (b : Bool) → Grows c (with_named c b n t)
    grown true = record { text = refl; structs = extends_itself c.structs; begun = λ n h. h; begun_kept = λ n l b h. h; count = omega arith; literals = λ n bs h. h; globals = λ m u h. get_before c.globals (t ∷ []) m u h }
    grown false = record { text = refl; structs = extends_itself c.structs; begun = λ n h. h; begun_kept = λ n l b h. h; count = omega arith; literals = λ n bs h. h; globals = λ m u h. get_before c.globals (t ∷ []) m u h }

    free : (q : List ℕ) (m : Binding) → Free c → (lookup (bytes_eq q) c.inner ≡ Some m) ⊎ (global_name (length c.globals) t ≡ m) → NotLocal m
    free q m f (inl h) = f q m h
    free q m f (inr e) = subst NotLocal e tt

    no_function : (q : List ℕ) (i : ℕ) (ps : List Ty) (r : Ty) → (lookup (bytes_eq q) c.inner ≡ Some (function_name i ps r)) ⊎ (global_name (length c.globals) t ≡ function_name i ps r) → lookup (bytes_eq q) c.inner ≡ Some (function_name i ps r)
    no_function q i ps r (inl h) = h
    no_function q i ps r (inr e) = absurd cc

    by : (b : Bool) → Good w (with_named c b n t) → Named w c (with_named c b n t) t
    by true g = record { good = g; grows = grown true; outer = refl; free = λ f. f; no_functions = λ q i ps r h. h; functions = refl; bodies = refl; globals = refl }
    by false g = record {
      good = g;
      grows = grown false;
      outer = refl;
      free = λ f q m h. free q m f (one_name q (bytes_of c.text n) c (global_name (length c.globals) t) m h);
      no_functions = λ q i ps r h. no_function q i ps r (one_name q (bytes_of c.text n) c (global_name (length c.globals) t) (function_name i ps r) h);
      functions = refl;
      bodies = refl;
      globals = refl;
    }

-- with what it starts with
global_step : (w : World) (c e d : Context) (t : Ty) (i : Init) → Named w c e t → IsSized d.structs t → length c.globals < 4096 → Within true e d → Good w d → IsInit d.literals t i → Globals w c d (record { ty = t; init = i } ∷ [])
global_step w c e d t i k sized many v g h =
    let n = length-append c.globals (t ∷ []) in
    let same : d.globals ≡ c.globals ++ t ∷ [] = v.1.globals ∙ k.globals in
    record {
      good = g;
      grows = grows_further c e d k.grows v.0;
      outer = v.2.outer ∙ k.outer;
      free = λ f q m l. free_before e.inner d.inner v.2.inner q (λ m h. k.free f q m h) m l;
      no_functions = λ q j ps r l. k.no_functions q j ps r (function_before e.inner d.inner v.2.inner q j ps r l);
      functions = v.1.functions ∙ k.functions;
      bodies = v.1.bodies ∙ k.bodies;
      globals = same;
      few = λ f. subst (λ (ts : List Ty). length ts ≤ 4096) (sym same) (omega (arith, n, many));
      held = ((sized, h), tt);
    }

all_global : {A : Type 0} (P : GlobalVar → Type 0) (Q : Init → Type 0) (u : A) (t : Ty) (k : Judged Init) → OnTyped Q k → ((i : Init) → Q i → P (record { ty = t; init = i })) → OnTyped P (both {A = A × Ty} (typed (u, t)) k >>= λ p. typed (record { ty = p.0.1; init = p.1 }))
all_global P Q u t (typed i) h f = f i h
all_global P Q u t (faulty s ss) h f = tt

abbrev Fits : Context → Ty → Type 0
Fits d t = (length d.globals < 4096) × (d.plain + taken (size_in d.structs t) ≤ most_plain)

fits_well : (d : Context) (n : Name) (t : Ty) → OnTyped (λ u. Fits d t) (both (fresh d n) (both (within n.from 2 4096 (length d.globals)) (fits_plain d n.from (size_in d.structs t))))
fits_well d n t = by (not (is_double d n)) (nat_lt (length d.globals) 4096) (nat_le (d.plain + taken (size_in d.structs t)) most_plain) refl refl
  where
    by : (a b c : Bool) → nat_lt (length d.globals) 4096 ≡ b → nat_le (d.plain + taken (size_in d.structs t)) most_plain ≡ c
        → OnTyped (λ (u : Unit {0} × (Unit {0} × Unit {0})). Fits d t) (both (if a then typed (tt {0}) else refuse n.from DoubleName) (both (if b then typed (tt {0}) else refuse n.from (TooMany 2)) (if c then typed (tt {0}) else refuse n.from (TooMany 9))))
    by true true true h k = (below (length d.globals) 4096 h, at_most (d.plain + taken (size_in d.structs t)) most_plain k)
    by true true false h k = tt
    by true false true h k = tt
    by true false false h k = tt
    by false true true h k = tt
    by false true false h k = tt
    by false false true h k = tt
    by false false false h k = tt

global_made : (w : World) (c d : Context) → Good w d → Within true c d → (n : Name) (value : Option source.Expr) (f : Judged (Unit {0} × (Unit {0} × Unit {0}))) (t : Judged Ty) → ((s : Ty) → t ≡ typed s → OnTyped (λ u. Fits d s) f) → OnTyped (IsObject d.structs) t
    → OnTyped (λ g. Globals w c (judged_global_init n.from t value (with_global d n (or_int t))).1 (g ∷ []))
    (both (both f t) (judged_global_init n.from t value (with_global d n (or_int t))).0 >>= λ p. typed (record { ty = p.0.1; init = p.1 }))
global_made w c d g v n value f (faulty q qs) hf ht = none_of _ f q qs (judged_global_init n.from (faulty q qs) value (with_global d n (integer int))).0 (λ p. typed (record { ty = p.0.1; init = p.1 }))
global_made w c d g v n value (faulty q qs) (typed t) hf ht = unfit _ q qs t (judged_global_init n.from (typed t) value (with_global d n t)).0 (λ p. typed (record { ty = p.0.1; init = p.1 }))
global_made w c d g v n value (typed u) (typed t) hf ht =
    all_global (λ x. Globals w c (judged_global_init n.from (typed t) value (with_global d n t)).1 (x ∷ [])) (λ i. After w true (with_global d n t) (judged_global_init n.from (typed t) value (with_global d n t)).1 (λ e. Starts t e i)) u t
    (judged_global_init n.from (typed t) value (with_global d n t)).0
    ((init_keeps w n.from t value).keeps (with_global d n t) (global_good w d g n t ht (hf t refl).1))
    (λ i a.
    let last : Context = (judged_global_init n.from (typed t) value (with_global d n t)).1 in
    let k = name_step w d g n t ht (hf t refl).1 in
    globals_further w c d last [] (record { ty = t; init = i } ∷ []) (globals_still w c d g v)
    (global_step w d (with_global d n t) last t i k (sized_kept d.structs last.structs (extends_further d.structs (with_global d n t).structs last.structs k.grows.structs a.within.0.structs) t ht.0) (hf t refl).0 a.within a.good (a.fine (own w last) (over_own w last a.good))))

global_after : (w : World) (base : Judged Ty) → OnTyped (Ready w.structs) base → (x : source.InitDeclarator) (c : Context) → Good w c → OnTyped (λ g. Globals w c (judged_global base x c).1 (g ∷ [])) (judged_global base x c).0
global_after w base hb x c g = by base (on_weaker (Ready w.structs) (Ready c.structs) base hb (λ t r. ready_kept w.structs c.structs g.since t r)) (judged_declarator x.declarator c).1 (judged_declarator x.declarator c).0 ((declarator_keeps w x.declarator).keeps c g)
  where
    made : (d : Context) (t : Judged Ty) → Good w d → Within true c d → OnTyped (IsObject d.structs) t
        → OnTyped (λ g. Globals w c (judged_global_init (name_of x.declarator).from t x.value (with_global d (name_of x.declarator) (or_int t))).1 (g ∷ []))
        (both (both (both (fresh d (name_of x.declarator)) (both (within (name_of x.declarator).from 2 4096 (length d.globals)) (t >>= λ s. fits_plain d (name_of x.declarator).from (size_in d.structs s)))) t) (judged_global_init (name_of x.declarator).from t x.value (with_global d (name_of x.declarator) (or_int t))).0 >>= λ p. typed (record { ty = p.0.1; init = p.1 }))
    made d t k v h = global_made w c d k v (name_of x.declarator) x.value (both (fresh d (name_of x.declarator)) (both (within (name_of x.declarator).from 2 4096 (length d.globals)) (t >>= λ s. fits_plain d (name_of x.declarator).from (size_in d.structs s)))) t
        (λ s e. subst (λ (j : Judged Ty). OnTyped (λ (u : Unit {0} × (Unit {0} × Unit {0})). Fits d s) (both (fresh d (name_of x.declarator)) (both (within (name_of x.declarator).from 2 4096 (length d.globals)) (j >>= λ s. fits_plain d (name_of x.declarator).from (size_in d.structs s))))) (sym e) (fits_well d (name_of x.declarator) s)) h

    by : (b : Judged Ty) → OnTyped (Ready c.structs) b → (d : Context) (j : Judged Declarator) → OnTyped (λ y. After w true c d (λ e. ArePositive y.sizes)) j
        → OnTyped (λ g. Globals w c (judged_global_init (name_of x.declarator).from (both b j >>= λ p. object_declared d p.0 p.1) x.value (with_global d (name_of x.declarator) (or_int (both b j >>= λ p. object_declared d p.0 p.1)))).1 (g ∷ []))
        (both (both (both (fresh d (name_of x.declarator)) (both (within (name_of x.declarator).from 2 4096 (length d.globals)) ((both b j >>= λ p. object_declared d p.0 p.1) >>= λ s. fits_plain d (name_of x.declarator).from (size_in d.structs s)))) (both b j >>= λ p. object_declared d p.0 p.1)) (judged_global_init (name_of x.declarator).from (both b j >>= λ p. object_declared d p.0 p.1) x.value (with_global d (name_of x.declarator) (or_int (both b j >>= λ p. object_declared d p.0 p.1)))).0 >>= λ p. typed (record { ty = p.0.1; init = p.1 }))
    by (typed b) h d (typed y) a = made d (object_declared d b y) a.good a.within (object_well w d a.good b y (ready_kept c.structs d.structs a.within.0.structs b h) (a.fine (own w d) (over_own w d a.good)))
    by (typed b) h d (faulty q qs) a = none_of _ (both (fresh d (name_of x.declarator)) (both (within (name_of x.declarator).from 2 4096 (length d.globals)) (faulty q qs))) q qs (judged_global_init (name_of x.declarator).from (faulty q qs) x.value (with_global d (name_of x.declarator) (integer int))).0 _
    by (faulty q qs) h d (typed y) a = none_of _ (both (fresh d (name_of x.declarator)) (both (within (name_of x.declarator).from 2 4096 (length d.globals)) (faulty q qs))) q qs (judged_global_init (name_of x.declarator).from (faulty q qs) x.value (with_global d (name_of x.declarator) (integer int))).0 _
    by (faulty q qs) h d (faulty s ss) a = none_of _ (both (fresh d (name_of x.declarator)) (both (within (name_of x.declarator).from 2 4096 (length d.globals)) (faulty q (qs ++ s ∷ ss)))) q (qs ++ s ∷ ss) (judged_global_init (name_of x.declarator).from (faulty q (qs ++ s ∷ ss)) x.value (with_global d (name_of x.declarator) (integer int))).0 _

pub globals_after : (w : World) (base : Judged Ty) → OnTyped (Ready w.structs) base → (xs : List source.InitDeclarator) (c : Context) → Good w c → OnTyped (λ gs. Globals w c (judged_globals base xs c).1 gs) (judged_globals base xs c).0
globals_after w base h [] c g = globals_still w c c g (within_itself true c)
globals_after w base h (x ∷ xs) c g = by (judged_global base x c).1 (judged_global base x c).0 (global_after w base h x c g) (λ d k. globals_after w base h xs d k)
  where
    more : (d f : Context) (y : GlobalVar) (j : Judged (List GlobalVar)) → Globals w c d (y ∷ []) → OnTyped (λ gs. Globals w d f gs) j → OnTyped (λ gs. Globals w c f gs) (both (typed y) j >>= λ q. typed (q.0 ∷ q.1))
    more d f y (typed ys) a b = globals_further w c d f (y ∷ []) ys a b
    more d f y (faulty r rs) a b = tt

    none : (f : Context) (r : Refusal) (rs : List Refusal) (j : Judged (List GlobalVar)) → OnTyped (λ gs. Globals w c f gs) (both {A = GlobalVar} (faulty r rs) j >>= λ q. typed (q.0 ∷ q.1))
    none f r rs (typed xs) = tt
    none f r rs (faulty s ss) = tt

    by : (d : Context) (j : Judged GlobalVar) → OnTyped (λ y. Globals w c d (y ∷ [])) j → ((d : Context) → Good w d → OnTyped (λ gs. Globals w d (judged_globals base xs d).1 gs) (judged_globals base xs d).0) → OnTyped (λ gs. Globals w c (judged_globals base xs d).1 gs) (both j (judged_globals base xs d).0 >>= λ q. typed (q.0 ∷ q.1))
    by d (typed y) a f = more d (judged_globals base xs d).1 y (judged_globals base xs d).0 a (f d a.good)
    by d (faulty r rs) a f = none (judged_globals base xs d).1 r rs (judged_globals base xs d).0

-- once more structs are there
pub globals_since : (w : World) (t : List Layout) (c d : Context) (gs : List GlobalVar) → Extends t d.structs → Globals w c d gs → Globals (since w t) c d gs
globals_since w t c d gs f g = record {
  good = good_since w w.structs t d f g.good;
  grows = g.grows;
  outer = g.outer;
  free = g.free;
  no_functions = g.no_functions;
  functions = g.functions;
  bodies = g.bodies;
  globals = g.globals;
  few = g.few;
  held = g.held;
}
