-- The forms in which the code walks over nodes.
use Rattle.std.proofs.Common.{◌≡◌, ℕ, ◌-◌, ◌<◌, ◌≤◌, length, map, get_or, take, drop, arith, true, false, Bool, List, [], ◌∷◌, Option, Some, None, Result, Ok, Err, refl, ap, sym, subst, ◌∙◌}
use Rattle.std.proofs.lemmas.List.{take_all}
use Rattle.std.specs.Prelude.{Vec, Box}
use Rattle.std.specs.declared.alloc.Global.{Global}
use Rattle.c_lex.specs.declared.refusal.CompileFault.{CompileFault}
use Rattle.c_lex.specs.declared.refusal.CompileFault.TheVariants.{Refused, NoMemory}
use Rattle.c_tree.specs.declared.syntax.Name.{Name}
use Rattle.c_tree.specs.declared.syntax.PrefixOp.{PrefixOp}
use Rattle.c_tree.specs.declared.syntax.PrefixOp.TheVariants as prefixes
use Rattle.c_tree.specs.declared.typed.Expr.{Expr as CodeExpr}
use Rattle.c_tree.specs.Typed.{Ty, Expr}
use Rattle.c_tree.specs.TypedViews.{expr_view, boxed_expr_view}
use Rattle.c_typing.specs.Faults.{Judged, typed, Gives, ◌>>=◌}
use Rattle.c_typing.specs.Rules.{address}
use Rattle.c_typing.specs.Scope.{Context, with_tag, tag_number, is_begun, with_begun, Binding, global_name, local_name, function_name, enumerator_name, type_name, library_name, printf, malloc, calloc, realloc, free, memcpy, thrd_create, thrd_join, mtx_init, mtx_lock, mtx_unlock, mtx_destroy, atomic_store, atomic_load, atomic_add, atomic_sub, atomic_swap, atomic_compare, constant, atomic_type}
use Rattle.c_typing.specs.Judgement.{Judging, in_turn, ruled, valued, Part, begun_by, begun_or, starting_or, called_as, called_by, prefixed_by, prefixed, addressing, with_addressed, meaning_in, opened, closing, braced}
use Rattle.type_context.specs.declared.context.Context.{Context as CodeContext}
use Rattle.type_context.specs.ContextViews.{context_view}
use Rattle.type_context.proofs.Judging.{fails_part}
use Rattle.type_context.specs.inner.Outcomes.{joined}
use Rattle.type_rules.specs.SpecifierViews.{numbers_view}
use Rattle.type_context.specs.Telling.{Tells, lacks_memory}
use Rattle.type_context.proofs.Walks.{memory_tells, leaves_any, both_tell, joined_keeps, ok_tells, err_tells}
use Rattle.type_nodes.specs.Nodes.{Finishes, is_printf, is_thrd_create}

-- ---- rules on parts

-- a rule on one part
pub finishes : {A B C D : Type 0} (va : A → C) (vr : B → D) (J : Judging C) (rule : Context → C → Judged D) (c : Context) (n : CodeContext) (a : Result A CompileFault) (r : Result B CompileFault)
    → Tells va a n (J c) → Finishes vr a (λ x. rule (context_view n) (va x)) r → Tells vr r n (ruled J rule c)
finishes va vr J rule c n (Ok x) r h f = ok_tells va vr J rule c n (Ok x) x r h refl f
finishes va vr J rule c n (Err e) r h f = subst (λ q. Tells vr q n (ruled J rule c)) (sym f) (err_tells va vr J rule c n (Err e) e h refl)

-- what came in a box, without the box
pub unboxed_tells : (J : Judging Expr) (c : Context) (n : CodeContext) (a : Result (Box CodeExpr Global) CompileFault) (r : Result CodeExpr CompileFault)
    → Tells boxed_expr_view a n (J c) → Finishes expr_view a (λ x. typed (boxed_expr_view x)) r → Tells expr_view r n (J c)
unboxed_tells J c n (Ok x) r h f =
    record {
      gives = subst (λ j. Gives expr_view r j) (sym h.gives) f;
      leaves = leaves_any r n (J c).1 h.leaves;
    }
unboxed_tells J c n (Err NoMemory) r h f = subst (λ q. Tells expr_view q n (J c)) (sym f) (memory_tells expr_view n (J c))
unboxed_tells J c n (Err (Refused q)) r h f = subst (λ p. Tells expr_view p n (J c)) (sym f) (record { gives = h.gives; leaves = h.leaves })

-- on two parts, one behind the other
pub finishes_both : {A B C D R E : Type 0} (va : A → C) (vb : B → D) (vr : R → E) (J : Judging C) (K : Judging D) (rule : Context → C × D → Judged E)
    (c : Context) (n m : CodeContext) (a : Result A CompileFault) (b : Result B CompileFault) (r : Result R CompileFault)
    → Tells va a n (J c) → Tells vb b m (K (context_view n)) → Finishes vr (joined a b) (λ p. rule (context_view m) (va p.0, vb p.1)) r → Tells vr r m (ruled (in_turn J K) rule c)
finishes_both va vb vr J K rule c n m a b r h k f =
    finishes (λ p. (va p.0, vb p.1)) vr (in_turn J K) rule c m (joined a b) r (both_tell va vb J K c n m a b h k) f

-- on three
pub finishes_three : {A B F C D G R E : Type 0} (va : A → C) (vb : B → D) (vf : F → G) (vr : R → E) (J : Judging C) (K : Judging D) (L : Judging G) (rule : Context → C × (D × G) → Judged E)
    (c : Context) (n m o : CodeContext) (a : Result A CompileFault) (b : Result B CompileFault) (f : Result F CompileFault) (r : Result R CompileFault)
    → Tells va a n (J c) → Tells vb b m (K (context_view n)) → Tells vf f o (L (context_view m))
    → Finishes vr (joined a (joined b f)) (λ p. rule (context_view o) (va p.0, (vb p.1.0, vf p.1.1))) r → Tells vr r o (ruled (in_turn J (in_turn K L)) rule c)
finishes_three va vb vf vr J K L rule c n m o a b f r h k l g =
    finishes_both va (λ p. (vb p.0, vf p.1)) vr J (in_turn K L) rule c n o a (joined b f) r h (both_tell vb vf K L (context_view n) m o b f k l) g

-- what follows a part and lacks no memory has a part that lacks none
keeps : {A B D : Type 0} (vr : B → D) (rule : A → Judged D) (q : Result A CompileFault) (r : Result B CompileFault) → Finishes vr q rule r → lacks_memory r ≡ false → lacks_memory q ≡ false
keeps vr rule (Ok x) r f h = refl
keeps vr rule (Err (Refused s)) r f h = refl
keeps {B = B} vr rule (Err NoMemory) r f h = subst (λ (q : Result B CompileFault). lacks_memory q ≡ false) f h

pub keeps_second : {A B R E : Type 0} (vr : R → E) (rule : A × B → Judged E) (a : Result A CompileFault) (b : Result B CompileFault) (r : Result R CompileFault)
    → Finishes vr (joined a b) rule r → lacks_memory r ≡ false → lacks_memory b ≡ false
keeps_second vr rule a b r f h = (joined_keeps a b (keeps vr rule (joined a b) r f h)).1

-- ---- the braces of a struct

pub braces_tell : {A : Type 0} (t : Name) (M : Judging (List (List ℕ × Ty))) (c : Context) (n o p : CodeContext) (number : ℕ) (again : Bool) (fine : Result (Unit {0}) CompileFault) (v : A → Part) (r : Result A CompileFault)
    → context_view n ≡ with_tag c t → number ≡ tag_number (with_tag c t) t → again ≡ is_begun (context_view n) number → context_view o ≡ with_begun (context_view n) number
    → (number ≡ tag_number (context_view n) t → Gives (λ _. tt) fine (opened (context_view n) t))
    → ((j : Judged (Unit {0})) → Gives (λ _. tt) fine j → Tells v r p (closing t.from number j again M (context_view o)))
    → Tells v r p (braced t M c)
braces_tell t M c n o p number again fine v r is_n is_number is_again is_o fits told =
    let k = context_view n in
    let at_o = told (opened k t) (fits (is_number ∙ ap (λ d. tag_number d t) (sym is_n))) in
    let at_n = subst (λ d. Tells v r p (closing t.from number (opened k t) again M d)) is_o at_o in
    let once = subst (λ (b : Bool). Tells v r p (closing t.from number (opened k t) b M (with_begun k number))) is_again at_n in
    let at_c = subst (λ d. Tells v r p (closing t.from number (opened d t) (is_begun d number) M (with_begun d number))) is_n once in
    let d = with_tag c t in
    subst (λ (i : ℕ). Tells v r p (closing t.from i (opened d t) (is_begun d i) M (with_begun d i))) is_number at_c

-- ---- calls

pub call_printf : (m : Option Binding) (place : ℕ) (args : Judging (List Expr)) (print start : Judging Expr) (c : Context) → is_printf m ≡ true → print c ≡ called_by m place args print start c
call_printf None place args print start c h = cc
call_printf (Some (global_name n t)) place args print start c h = cc
call_printf (Some (local_name n t)) place args print start c h = cc
call_printf (Some (enumerator_name value)) place args print start c h = cc
call_printf (Some (type_name t)) place args print start c h = cc
call_printf (Some (function_name n ps r)) place args print start c h = cc
call_printf (Some (library_name printf)) place args print start c h = refl
call_printf (Some (library_name malloc)) place args print start c h = cc
call_printf (Some (library_name calloc)) place args print start c h = cc
call_printf (Some (library_name realloc)) place args print start c h = cc
call_printf (Some (library_name free)) place args print start c h = cc
call_printf (Some (library_name memcpy)) place args print start c h = cc
call_printf (Some (library_name thrd_create)) place args print start c h = cc
call_printf (Some (library_name thrd_join)) place args print start c h = cc
call_printf (Some (library_name mtx_init)) place args print start c h = cc
call_printf (Some (library_name mtx_lock)) place args print start c h = cc
call_printf (Some (library_name mtx_unlock)) place args print start c h = cc
call_printf (Some (library_name mtx_destroy)) place args print start c h = cc
call_printf (Some (library_name atomic_store)) place args print start c h = cc
call_printf (Some (library_name atomic_load)) place args print start c h = cc
call_printf (Some (library_name atomic_add)) place args print start c h = cc
call_printf (Some (library_name atomic_sub)) place args print start c h = cc
call_printf (Some (library_name atomic_swap)) place args print start c h = cc
call_printf (Some (library_name atomic_compare)) place args print start c h = cc
call_printf (Some (library_name (constant value))) place args print start c h = cc
call_printf (Some (library_name (atomic_type t))) place args print start c h = cc

pub call_thrd_create : (m : Option Binding) (place : ℕ) (args : Judging (List Expr)) (print start : Judging Expr) (c : Context) → is_thrd_create m ≡ true → start c ≡ called_by m place args print start c
call_thrd_create None place args print start c h = cc
call_thrd_create (Some (global_name n t)) place args print start c h = cc
call_thrd_create (Some (local_name n t)) place args print start c h = cc
call_thrd_create (Some (enumerator_name value)) place args print start c h = cc
call_thrd_create (Some (type_name t)) place args print start c h = cc
call_thrd_create (Some (function_name n ps r)) place args print start c h = cc
call_thrd_create (Some (library_name printf)) place args print start c h = cc
call_thrd_create (Some (library_name malloc)) place args print start c h = cc
call_thrd_create (Some (library_name calloc)) place args print start c h = cc
call_thrd_create (Some (library_name realloc)) place args print start c h = cc
call_thrd_create (Some (library_name free)) place args print start c h = cc
call_thrd_create (Some (library_name memcpy)) place args print start c h = cc
call_thrd_create (Some (library_name thrd_create)) place args print start c h = refl
call_thrd_create (Some (library_name thrd_join)) place args print start c h = cc
call_thrd_create (Some (library_name mtx_init)) place args print start c h = cc
call_thrd_create (Some (library_name mtx_lock)) place args print start c h = cc
call_thrd_create (Some (library_name mtx_unlock)) place args print start c h = cc
call_thrd_create (Some (library_name mtx_destroy)) place args print start c h = cc
call_thrd_create (Some (library_name atomic_store)) place args print start c h = cc
call_thrd_create (Some (library_name atomic_load)) place args print start c h = cc
call_thrd_create (Some (library_name atomic_add)) place args print start c h = cc
call_thrd_create (Some (library_name atomic_sub)) place args print start c h = cc
call_thrd_create (Some (library_name atomic_swap)) place args print start c h = cc
call_thrd_create (Some (library_name atomic_compare)) place args print start c h = cc
call_thrd_create (Some (library_name (constant value))) place args print start c h = cc
call_thrd_create (Some (library_name (atomic_type t))) place args print start c h = cc

pub call_other : (m : Option Binding) (place : ℕ) (args : Judging (List Expr)) (print start : Judging Expr) (c : Context) → is_printf m ≡ false → is_thrd_create m ≡ false
    → called_as m place args c ≡ called_by m place args print start c
call_other None place args print start c h k = refl
call_other (Some (global_name n t)) place args print start c h k = refl
call_other (Some (local_name n t)) place args print start c h k = refl
call_other (Some (enumerator_name value)) place args print start c h k = refl
call_other (Some (type_name t)) place args print start c h k = refl
call_other (Some (function_name n ps r)) place args print start c h k = refl
call_other (Some (library_name printf)) place args print start c h k = cc
call_other (Some (library_name malloc)) place args print start c h k = refl
call_other (Some (library_name calloc)) place args print start c h k = refl
call_other (Some (library_name realloc)) place args print start c h k = refl
call_other (Some (library_name free)) place args print start c h k = refl
call_other (Some (library_name memcpy)) place args print start c h k = refl
call_other (Some (library_name thrd_create)) place args print start c h k = cc
call_other (Some (library_name thrd_join)) place args print start c h k = refl
call_other (Some (library_name mtx_init)) place args print start c h k = refl
call_other (Some (library_name mtx_lock)) place args print start c h k = refl
call_other (Some (library_name mtx_unlock)) place args print start c h k = refl
call_other (Some (library_name mtx_destroy)) place args print start c h k = refl
call_other (Some (library_name atomic_store)) place args print start c h k = refl
call_other (Some (library_name atomic_load)) place args print start c h k = refl
call_other (Some (library_name atomic_add)) place args print start c h k = refl
call_other (Some (library_name atomic_sub)) place args print start c h k = refl
call_other (Some (library_name atomic_swap)) place args print start c h k = refl
call_other (Some (library_name atomic_compare)) place args print start c h k = refl
call_other (Some (library_name (constant value))) place args print start c h k = refl
call_other (Some (library_name (atomic_type t))) place args print start c h k = refl

-- ---- what a thread begins with

pub starting_found : (m : Option Binding) (e : Judging Expr) (c : Context) (f : Option ℕ) → begun_by m ≡ Some f → starting_or m e c ≡ (typed f, c)
starting_found m e c f h = ap (λ o. begun_or o e c) h

pub starting_sought : (m : Option Binding) (e : Judging Expr) (c : Context) → begun_by m ≡ None → starting_or m e c ≡ ruled e (λ d x. typed None) c
starting_sought m e c h = ap (λ o. begun_or o e c) h

-- ---- prefix operators

pub prefixed_value : (op : PrefixOp) (place : ℕ) (n : Option Name) (e : Judging Expr) (c : Context) → (op ≡ prefixes.AddressOf → ⊥) → ruled (valued e) (λ d x. prefixed_by place op x) c ≡ prefixed place op n e c
prefixed_value prefixes.Minus place n e c other = refl
prefixed_value prefixes.Plus place n e c other = refl
prefixed_value prefixes.Not place n e c other = refl
prefixed_value prefixes.Complement place n e c other = refl
prefixed_value prefixes.Deref place n e c other = refl
prefixed_value prefixes.AddressOf place n e c other = absurd (other refl)

-- the address of an operand, whose local is marked behind it
pub addressed_ok : (place : ℕ) (n : Option Name) (J : Judging Expr) (c : Context) (k m : CodeContext) (a : Result (Box CodeExpr Global) CompileFault) (x : Box CodeExpr Global) (r : Result (Box CodeExpr Global) CompileFault)
    → Tells boxed_expr_view a k (J c) → a ≡ Ok x → context_view m ≡ with_addressed (context_view k) (meaning_in (context_view k) n) → Gives boxed_expr_view r (address place (boxed_expr_view x))
    → Tells boxed_expr_view r m (addressing place n J c)
addressed_ok place n J c k m a x r h is l g =
    let here : Tells boxed_expr_view (Ok x) k (J c) = subst (λ b. Tells boxed_expr_view b k (J c)) is h in
    record {
      gives = subst (λ j. Gives boxed_expr_view r (j >>= address place)) (sym here.gives) g;
      leaves = leaves_any r m (with_addressed (J c).1 (meaning_in (J c).1 n)) (l ∙ ap (λ d. with_addressed d (meaning_in d n)) here.leaves);
    }

pub addressed_err : (place : ℕ) (n : Option Name) (J : Judging Expr) (c : Context) (k m : CodeContext) (a : Result (Box CodeExpr Global) CompileFault) (e : CompileFault)
    → Tells boxed_expr_view a k (J c) → a ≡ Err e → context_view m ≡ with_addressed (context_view k) (meaning_in (context_view k) n)
    → Tells boxed_expr_view (Err e) m (addressing place n J c)
addressed_err place n J c k m a NoMemory h is l = memory_tells boxed_expr_view m (addressing place n J c)
addressed_err place n J c k m a (Refused r) h is l =
    let here : Tells boxed_expr_view (Err (Refused r)) k (J c) = subst (λ b. Tells boxed_expr_view b k (J c)) is h in
    record {
      gives = fails_part (J c).0 (address place) (Refused r) here.gives;
      leaves = l ∙ ap (λ d. with_addressed d (meaning_in d n)) here.leaves;
    }

-- the address of an operand, or its fault
pub addressed_tells : (place : ℕ) (n : Option Name) (J : Judging Expr) (c : Context) (k m : CodeContext) (a r : Result (Box CodeExpr Global) CompileFault)
    → Tells boxed_expr_view a k (J c) → context_view m ≡ with_addressed (context_view k) (meaning_in (context_view k) n) → Finishes boxed_expr_view a (λ x. address place (boxed_expr_view x)) r
    → Tells boxed_expr_view r m (addressing place n J c)
addressed_tells place n J c k m (Ok x) r h l f = addressed_ok place n J c k m (Ok x) x r h refl l f
addressed_tells place n J c k m (Err e) r h l f = subst (λ q. Tells boxed_expr_view q m (addressing place n J c)) (sym f) (addressed_err place n J c k m (Err e) e h refl l)

-- ---- slices, and lists of numbers

-- the first of some, and the others
pub headed : {X Y : Type 0} (v : Y → X) (xs : List Y) (d : Y) → 1 ≤ length xs → v (get_or xs 0 d) ∷ map v (take (length xs - 1) (drop 1 xs)) ≡ map v xs
headed v [] d h = absurd (omega arith)
headed v (x ∷ xs) d h = ap (λ l. v x ∷ map v l) (take_all (length (x ∷ xs) - 1) xs (omega arith))

pub none : {X Y : Type 0} (v : Y → X) (xs : List Y) → length xs < 1 → [] ≡ map v xs
none v [] h = refl
none v (x ∷ xs) h = absurd (omega arith)

same_numbers : (ns : List ℕ) → map (λ n. n) ns ≡ ns
same_numbers [] = refl
same_numbers (n ∷ ns) = ap (λ l. n ∷ l) (same_numbers ns)

pub numbers_told : (r : Result (Vec ℕ Global) CompileFault) (n : CodeContext) (p : Judged (List ℕ) × Context) → Tells (λ (v : Vec ℕ Global). map (λ k. k) v.items) r n p → Tells numbers_view r n p
numbers_told (Ok v) n p h = record { gives = h.gives ∙ ap typed (same_numbers v.items); leaves = h.leaves }
numbers_told (Err e) n p h = record { gives = h.gives; leaves = h.leaves }
