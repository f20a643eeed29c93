-- Parameters, judged where they stand.
use Rattle.std.proofs.Common.{◌≡◌, ℕ, ◌<◌, ◌≤◌, Bool, true, false, ◌&&◌, not, refl, sym, ap, ◌∙◌, subst, arith, List, [], ◌∷◌, ◌++◌, length, map, Option, Some, None, nat_lt, if◌then◌else◌, append_assoc, append-nil}
use Rattle.std.specs.List.{AllByRecursion}
use Rattle.std.proofs.lemmas.List.{length-append}
use Rattle.c_lex.specs.declared.refusal.Refusal.{Refusal}
use Rattle.c_lex.specs.declared.refusal.Kind.TheVariants.{TooMany, BadSize, OutsideSubset}
use Rattle.c_tree.specs.declared.syntax.Name.{Name}
use Rattle.c_tree.specs.Syntax as source
use Rattle.c_tree.specs.Typed.{Ty, void, integer, atomic, mutex, pointer, array, structure}
use Rattle.c_tree.specs.TypedForm.{IsScalar}
use Rattle.c_tree.specs.TypedForm as form
use Rattle.c_typing.specs.Faults.{Judged, typed, faulty, refuse, unless, both, mapped, ◌>>=◌}
use Rattle.c_typing.specs.Types.{is_void, value_type, is_struct_or_mutex, has_size, behind_pointers, arrays_of}
use Rattle.c_typing.specs.Scope.{Context, within}
use Rattle.c_typing.specs.Judgement.{in_turn, ruled, valued, judged, judged_specs, dimension, object_type, plain_type, name_in}
use Rattle.c_typing.specs.Statements.{or_int, most_locals}
use Rattle.c_typing.specs.Numbering.{Param, passed_type}
use Rattle.c_typing.specs.Programs.{param_place, judged_size, known, judged_sizes, pointer_for, adjusted, param_type, fresh_if, with_param, judged_param, judged_params, is_bare, void_by, none_if, judged_param_list}
use Rattle.c_typing.proofs.Extending.{extends_itself, Ready, below}
use Rattle.c_typing.proofs.Elements.{get_before}
use Rattle.c_typing.proofs.Carried.{OnTyped, OnSome, on_bind, on_unless, World, IsObject, Good, Within, within_itself, within_further, looser, After, Keeps, keeps_lone, keeps_in_turn, keeps_ruled}
use Rattle.c_typing.proofs.RuledWell.{Fine}
use Rattle.c_typing.proofs.TypesWell.{ArePositive, dimension_well, object_type_well, behind_ready, plain_type_is}
use Rattle.c_typing.proofs.Own.{own, over_own}
use Rattle.c_typing.proofs.JudgedWell.{valued_keeps, judged_keeps, judged_specs_keeps}
use Rattle.c_typing.proofs.StatedWell.{with_type, type_good, local_good, local_within}

-- ---- sizes between brackets

abbrev IfPositive : form.InScope → Option ℕ → Type 0
IfPositive e o = OnSome (λ n. 0 < n) o

size_keeps : (w : World) (outermost : Bool) (d : source.ParamDim) (o : Option source.Expr) → Keeps w true (judged_size outermost d o) IfPositive
size_keeps w true d None = keeps_lone w true (typed None) IfPositive (λ e. tt)
size_keeps w false d None = keeps_lone w true (refuse d.place BadSize) IfPositive (λ e. tt)
size_keeps w outermost d (Some s) =
    keeps_ruled w true (ruled (valued (judged s)) (dimension s)) (λ x n. typed (Some n)) (λ e n. 0 < n) IfPositive
    (keeps_ruled w true (valued (judged s)) (dimension s) Fine (λ e n. 0 < n) (valued_keeps w (name_in s) (judged s) (judged_keeps w s)) (λ d e x g v h. dimension_well s d x)) (λ d e n g v h. h)

abbrev AreKnown : form.InScope → List (Option ℕ) → Type 0
AreKnown e os = ArePositive (known os)

known_more : (o : Option ℕ) (os : List (Option ℕ)) → OnSome (λ n. 0 < n) o → ArePositive (known os) → ArePositive (known (o ∷ os))
known_more None os h k = k
known_more (Some n) os h k = (h, k)

known_inner : (o : Option ℕ) (os : List (Option ℕ)) → ArePositive (known (o ∷ os)) → ArePositive (known os)
known_inner None os h = h
known_inner (Some n) os h = h.1

sizes_keeps : (w : World) (outermost : Bool) (ds : List source.ParamDim) → Keeps w true (judged_sizes outermost ds) AreKnown
sizes_keeps w outermost [] = keeps_lone w true (typed []) AreKnown (λ e. tt)
sizes_keeps w outermost (d ∷ ds) =
    keeps_ruled w true (in_turn (judged_size outermost d d.size) (judged_sizes false ds)) (λ x p. typed (p.0 ∷ p.1)) (λ e p. IfPositive e p.0 × AreKnown e p.1) AreKnown
    (keeps_in_turn w true (judged_size outermost d d.size) (judged_sizes false ds) IfPositive AreKnown (size_keeps w outermost d d.size) (sizes_keeps w false ds)) (λ d e p g v h. known_more p.0 p.1 h.0 h.1)

-- ---- the type of a parameter

abbrev NoArray : Ty → Type 0
NoArray (array t n) = ⊥
NoArray t = Unit {0}

abbrev CanAdjust : Context → Ty → Type 0
CanAdjust d t = Ready d.structs t × NoArray t

pointer_for_well : (d : Context) (t : Ty) → Ready d.structs t → CanAdjust d (pointer_for t)
pointer_for_well d void h = (tt, tt)
pointer_for_well d (integer t) h = (tt, tt)
pointer_for_well d (atomic t) h = (h, tt)
pointer_for_well d mutex h = (tt, tt)
pointer_for_well d (pointer t) h = (h, tt)
pointer_for_well d (array t n) h = (h.1, tt)
pointer_for_well d (structure n) h = (tt, tt)

adjusted_well : (w : World) (d : Context) → Good w d → (place : ℕ) (t : Ty) → Ready d.structs t → (os : List (Option ℕ)) → ArePositive (known os) → OnTyped (CanAdjust d) (adjusted d place t os)
adjusted_well w d g place t h [] p = plain_type_is (CanAdjust d) place (pointer_for t) (pointer_for_well d t h)
adjusted_well w d g place t h (o ∷ os) p =
    on_bind (IsObject d.structs) (CanAdjust d) (object_type d place (arrays_of t (known os))) (λ element. plain_type place (pointer element))
    (object_type_well w d g place t (known os) h (known_inner o os p)) (λ element k. plain_type_is (CanAdjust d) place (pointer element) (k.1, tt))

abbrev IsParam : Context → Ty → Type 0
IsParam d t = IsObject d.structs t × IsScalar (value_type t)

scalar_param : (d : Context) (t : Ty) → Ready d.structs t → NoArray t → has_size d.structs t ≡ true → not (is_struct_or_mutex t) ≡ true → IsParam d t
scalar_param d void r n h k = absurd cc
scalar_param d (integer t) r n h k = ((tt, tt), tt)
scalar_param d (atomic t) r n h k = ((tt, r), tt)
scalar_param d mutex r n h k = absurd cc
scalar_param d (pointer t) r n h k = ((tt, r), tt)
scalar_param d (array t i) r n h k = absurd n
scalar_param d (structure i) r n h k = absurd cc

param_type_well : (d : Context) (place : ℕ) (t : Ty) → CanAdjust d t → OnTyped (IsParam d) (param_type d place t)
param_type_well d place t c =
    on_bind (λ u. has_size d.structs t ≡ true) (IsParam d) (unless place BadSize (has_size d.structs t)) (λ u. unless place (OutsideSubset 13) (not (is_struct_or_mutex t)) >>= λ v. typed t) (on_unless place BadSize (has_size d.structs t))
    (λ u h. on_bind (λ v. not (is_struct_or_mutex t) ≡ true) (IsParam d) (unless place (OutsideSubset 13) (not (is_struct_or_mutex t))) (λ v. typed t) (on_unless place (OutsideSubset 13) (not (is_struct_or_mutex t)))
    (λ v k. scalar_param d t c.0 c.1 h k))

-- ---- parameters

pub record Params (w : World) (c d : Context) (ps : List Param) : Type 0 where
  pub good : Good w d
  pub within : Within false c d
  pub locals : d.locals ≡ c.locals ++ map (λ (p : Param). p.ty) ps
  pub few : length c.locals ≤ 16 → length d.locals ≤ 16
  pub scalar : AllByRecursion (λ (p : Param). IsScalar (passed_type p)) ps

type_within : (c : Context) (t : Ty) → Within false c (with_type c t)
type_within c t = (
  record { text = refl; structs = extends_itself c.structs; begun = λ n h. h; begun_kept = λ n l b h. h; count = omega arith; literals = λ n bs h. h; globals = λ n t h. h },
  record { globals = refl; functions = refl; bodies = refl; locals = λ m u h. get_before c.locals (t ∷ []) m u h; addressed = λ n h. h },
  tt,
)

param_good : (w : World) (d : Context) → Good w d → (o : Option Name) (t : Ty) → IsObject d.structs t → length d.locals < 1024 → Good w (with_param d o t)
param_good w d g None t o few = type_good w d g t o few
param_good w d g (Some n) t o few = local_good w d g n t o few

param_within : (d : Context) (o : Option Name) (t : Ty) → Within false d (with_param d o t)
param_within d None t = type_within d t
param_within d (Some n) t = local_within d n t

param_locals : (d : Context) (o : Option Name) (t : Ty) → (with_param d o t).locals ≡ d.locals ++ t ∷ []
param_locals d None t = refl
param_locals d (Some n) t = refl

no_type : {A B C : Type 0} (P : C → Type 0) (f : Judged A) (r : Refusal) (rs : List Refusal) (k : A × B → Judged C) → OnTyped P (both {B = B} f (faulty r rs) >>= k)
no_type P (typed u) r rs k = tt
no_type P (faulty s ss) r rs k = tt

fine_few : (place n : ℕ) (f : Judged (Unit {0})) → OnTyped (λ u. n < 16) (both f (both (within place 6 16 n) (within place 5 most_locals n)))
fine_few place n (typed u) = by (nat_lt n 16) (nat_lt n 1024) refl
  where
    by : (a b : Bool) → nat_lt n 16 ≡ a → OnTyped (λ (x : Unit {0} × (Unit {0} × Unit {0})). n < 16) (both (typed u) (both (if a then typed (tt {0}) else refuse place (TooMany 6)) (if b then typed (tt {0}) else refuse place (TooMany 5))))
    by true true h = below n 16 h
    by true false h = tt
    by false true h = tt
    by false false h = tt
fine_few place n (faulty r rs) = by (both (within place 6 16 n) (within place 5 most_locals n))
  where
    by : (j : Judged (Unit {0} × Unit {0})) → OnTyped (λ (x : Unit {0} × (Unit {0} × Unit {0})). n < 16) (both (faulty r rs) j)
    by (typed y) = tt
    by (faulty s ss) = tt

param_made : (w : World) (c d : Context) → Good w d → Within true c d → (place : ℕ) (name : Option Name) (f : Judged (Unit {0} × (Unit {0} × Unit {0}))) (t : Judged Ty) → OnTyped (λ u. length d.locals < 16) f → OnTyped (IsParam d) t
    → OnTyped (λ p. Params w c (with_param d name (or_int t)) (p ∷ [])) (both f t >>= λ x. typed (record { place = place; ty = x.1 }))
param_made w c d g v place name f (faulty r rs) hf ht = no_type _ f r rs (λ x. typed (record { place = place; ty = x.1 }))
param_made w c d g v place name (faulty r rs) (typed t) hf ht = tt
param_made w c d g v place name (typed u) (typed t) hf ht =
    let same : d.locals ≡ c.locals = v.2.locals in
    let k = param_locals d name t in
    let n = length-append d.locals (t ∷ []) in
    record {
      good = param_good w d g name t ht.0 (omega (arith, hf));
      within = within_further false c d (with_param d name t) (looser true c d v) (param_within d name t);
      locals = k ∙ ap (λ ls. ls ++ t ∷ []) same;
      few = λ h. subst (λ (ls : List Ty). length ls ≤ 16) (sym k) (omega (arith, n, hf));
      scalar = (ht.1, tt);
    }

param_after : (w : World) (c : Context) → Good w c → (p : source.Param) → OnTyped (λ x. Params w c (judged_param p c).1 (x ∷ [])) (judged_param p c).0
param_after w c g p = by (in_turn (judged_specs (source.specs_of p.specs)) (judged_sizes true p.dims) c).1 (in_turn (judged_specs (source.specs_of p.specs)) (judged_sizes true p.dims) c).0
    ((keeps_in_turn w true (judged_specs (source.specs_of p.specs)) (judged_sizes true p.dims) (λ e t. Ready e.structs t) AreKnown (judged_specs_keeps w (source.specs_of p.specs)) (sizes_keeps w true p.dims)).keeps c g)
  where
    by : (d : Context) (j : Judged (Ty × List (Option ℕ))) → OnTyped (λ x. After w true c d (λ e. Ready e.structs x.0 × ArePositive (known x.1))) j
        → OnTyped (λ x. Params w c (with_param d p.name (or_int (j >>= λ x. adjusted d (param_place p) (behind_pointers x.0 p.pointers) x.1 >>= param_type d (param_place p)))) (x ∷ []))
        (both (both (fresh_if d p.name) (both (within (param_place p) 6 16 (length d.locals)) (within (param_place p) 5 most_locals (length d.locals)))) (j >>= λ x. adjusted d (param_place p) (behind_pointers x.0 p.pointers) x.1 >>= param_type d (param_place p)) >>= λ x. typed (record { place = param_place p; ty = x.1 }))
    by d (faulty r rs) a = no_type _ (both (fresh_if d p.name) (both (within (param_place p) 6 16 (length d.locals)) (within (param_place p) 5 most_locals (length d.locals)))) r rs (λ x. typed (record { place = param_place p; ty = x.1 }))
    by d (typed x) a =
        let k = a.fine (own w d) (over_own w d a.good) in
        param_made w c d a.good a.within (param_place p) p.name (both (fresh_if d p.name) (both (within (param_place p) 6 16 (length d.locals)) (within (param_place p) 5 most_locals (length d.locals)))) (adjusted d (param_place p) (behind_pointers x.0 p.pointers) x.1 >>= param_type d (param_place p))
        (fine_few (param_place p) (length d.locals) (fresh_if d p.name))
        (on_bind (CanAdjust d) (IsParam d) (adjusted d (param_place p) (behind_pointers x.0 p.pointers) x.1) (param_type d (param_place p)) (adjusted_well w d a.good (param_place p) (behind_pointers x.0 p.pointers) (behind_ready d.structs x.0 p.pointers k.0) x.1 k.1) (λ t h. param_type_well d (param_place p) t h))

no_params : (w : World) (c : Context) → Good w c → Params w c c []
no_params w c g = record { good = g; within = within_itself false c; locals = sym (append-nil c.locals); few = λ h. h; scalar = tt }

params_after : (w : World) (ps : List source.Param) (c : Context) → Good w c → OnTyped (λ xs. Params w c (judged_params ps c).1 xs) (judged_params ps c).0
params_after w [] c g = no_params w c g
params_after w (p ∷ ps) c g = by (judged_param p c).1 (judged_param p c).0 (param_after w c g p) (λ d k. params_after w ps d k)
  where
    more : (d f : Context) (x : Param) (j : Judged (List Param)) → Params w c d (x ∷ []) → OnTyped (λ xs. Params w d f xs) j → OnTyped (λ xs. Params w c f xs) (both (typed x) j >>= λ q. typed (q.0 ∷ q.1))
    more d f x (typed xs) a b = record {
      good = b.good;
      within = within_further false c d f a.within b.within;
      locals = b.locals ∙ ap (λ ls. ls ++ map (λ (q : Param). q.ty) xs) a.locals ∙ append_assoc c.locals (x.ty ∷ []) (map (λ (q : Param). q.ty) xs);
      few = λ h. b.few (a.few h);
      scalar = (a.scalar.0, b.scalar);
    }
    more d f x (faulty r rs) a b = tt

    none : (f : Context) (r : Refusal) (rs : List Refusal) (j : Judged (List Param)) → OnTyped (λ xs. Params w c f xs) (both {A = Param} (faulty r rs) j >>= λ q. typed (q.0 ∷ q.1))
    none f r rs (typed xs) = tt
    none f r rs (faulty s ss) = tt

    by : (d : Context) (j : Judged Param) → OnTyped (λ x. Params w c d (x ∷ [])) j → ((d : Context) → Good w d → OnTyped (λ xs. Params w d (judged_params ps d).1 xs) (judged_params ps d).0) → OnTyped (λ xs. Params w c (judged_params ps d).1 xs) (both j (judged_params ps d).0 >>= λ q. typed (q.0 ∷ q.1))
    by d (typed x) a f = more d (judged_params ps d).1 x (judged_params ps d).0 a (f d a.good)
    by d (faulty r rs) a f = none (judged_params ps d).1 r rs (judged_params ps d).0

-- a parameter that is none
bare_after : (w : World) (c : Context) → Good w c → (p : source.Param) → OnTyped (λ xs. Params w c (judged_param_list (p ∷ []) c).1 xs) (judged_param_list (p ∷ []) c).0
bare_after w c g p = by (is_bare p) (judged_specs (source.specs_of p.specs) c).0 ((judged_specs_keeps w (source.specs_of p.specs)).keeps c g)
  where
    bare : (b v : Bool) → (v ≡ true → Params w c (judged_specs (source.specs_of p.specs) c).1 []) → OnTyped (λ xs. Params w c (none_if c p (b && v) (judged_params (p ∷ [])) c).1 xs) (none_if c p (b && v) (judged_params (p ∷ [])) c).0
    bare true true h = h refl
    bare true false h = params_after w (p ∷ []) c g
    bare false v h = params_after w (p ∷ []) c g

    by : (b : Bool) (j : Judged Ty) → OnTyped (λ t. After w true c (judged_specs (source.specs_of p.specs) c).1 (λ e. Ready e.structs t)) j
        → OnTyped (λ xs. Params w c (none_if c p (b && void_by (mapped (λ t. behind_pointers t p.pointers) j)) (judged_params (p ∷ [])) c).1 xs) (none_if c p (b && void_by (mapped (λ t. behind_pointers t p.pointers) j)) (judged_params (p ∷ [])) c).0
    by b (typed t) a = bare b (is_void (behind_pointers t p.pointers)) (λ h. record {
      good = a.good;
      within = looser true c (judged_specs (source.specs_of p.specs) c).1 a.within;
      locals = a.within.2.locals ∙ sym (append-nil c.locals);
      few = λ k. subst (λ (ls : List Ty). length ls ≤ 16) (sym a.within.2.locals) k;
      scalar = tt;
    })
    by b (faulty r rs) a = bare b false (λ h. absurd cc)

pub param_list_after : (w : World) (ps : List source.Param) (c : Context) → Good w c → OnTyped (λ xs. Params w c (judged_param_list ps c).1 xs) (judged_param_list ps c).0
param_list_after w [] c g = no_params w c g
param_list_after w (p ∷ []) c g = bare_after w c g p
param_list_after w (p ∷ q ∷ ps) c g = params_after w (p ∷ q ∷ ps) c g
