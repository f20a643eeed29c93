-- A function of its parameters, locals and body is well formed.
use Rattle.std.proofs.Common.{◌≡◌, ◌≢◌, ℕ, zero, suc, ◌+◌, ◌-◌, ◌<◌, ◌≤◌, Bool, true, false, ◌||◌, refl, sym, ap, ◌∙◌, subst, arith, List, [], ◌∷◌, ◌++◌, length, map, drop, take, Option, Some, None, slice_get, nat_lt, ◌==◌, if◌then◌else◌, length-drop, append_assoc}
use Rattle.std.specs.List.{AllByRecursion}
use Rattle.std.proofs.Math.Seq.{take-append_seam}
use Rattle.std.specs.Option.{option_map}
use Rattle.std.proofs.lemmas.Bool.Decides.{nat_tests}
use Rattle.std.proofs.lemmas.List.{length-append}
use Rattle.std.proofs.lemmas.Option.{slice_get-map}
use Rattle.c_tree.specs.Typed.{Ty, void, integer, atomic, mutex, pointer, array, structure, Layout, Local, Stmts}
use Rattle.c_tree.specs.TypedLayout.{IsSized}
use Rattle.c_tree.specs.TypedForm.{in_function, IsScalar, Fits, IsNth, Inside, AreWell, IsLocal, signature_of}
use Rattle.c_tree.specs.TypedForm as form
use Rattle.c_typing.specs.Types.{value_type}
use Rattle.c_typing.specs.Numbering.{renumbered_stmts, Param, passed_type, is_in, addressed_params, place_among, or_number, number_of, is_block, locals_from, copies, func_of}
use Rattle.c_typing.proofs.Elements.{nothing_at, get_before}
use Rattle.c_typing.proofs.Own.{as_local, local_at, local_is}
use Rattle.c_typing.proofs.RenumberedWell.{Carries, with_locals, Rises, stmts_too}

-- ---- elements

pub get_of : {X : Type 0} (xs : List X) (n : ℕ) → n < length xs → (x : X) × (slice_get xs n ≡ Some x)
get_of [] n h = absurd (omega arith)
get_of (x ∷ xs) zero h = (x, refl)
get_of (x ∷ xs) (suc n) h = get_of xs n (omega arith)

get_right : {X : Type 0} (xs ys : List X) (i : ℕ) → slice_get (xs ++ ys) (length xs + i) ≡ slice_get ys i
get_right [] ys i = let e : 0 + i ≡ i = omega arith in ap (slice_get ys) e
get_right (x ∷ xs) ys i = let e : suc (length xs) + i ≡ suc (length xs + i) = omega arith in ap (slice_get (x ∷ xs ++ ys)) e ∙ get_right xs ys i

get_drop : {X : Type 0} (k : ℕ) (xs : List X) (i : ℕ) → slice_get (drop k xs) i ≡ slice_get xs (k + i)
get_drop zero xs i = let e : i ≡ 0 + i = omega arith in ap (slice_get xs) e
get_drop (suc k) [] i = refl
get_drop (suc k) (x ∷ xs) i = let e : suc (k + i) ≡ suc k + i = omega arith in get_drop k xs i ∙ ap (slice_get (x ∷ xs)) e

length_map : {X Y : Type 0} (f : X → Y) (xs : List X) → length (map f xs) ≡ length xs
length_map f [] = refl
length_map f (x ∷ xs) = ap suc (length_map f xs)

-- ---- the parameters that are in memory

same : (n : ℕ) → (n == n) ≡ true
same n = grind (arith, nat_tests)

other : (n k : ℕ) → n ≢ k → (n == k) ≡ false
other n k h = grind (arith, nat_tests)

-- where a parameter stands among them
abbrev Placed : ℕ → Param → List (ℕ × Param) → Type 0
Placed n p all = (j : ℕ) × (place_among n all ≡ Some j) × (slice_get all j ≡ Some (n, p))

placed_first : (n : ℕ) (p : Param) (all : List (ℕ × Param)) → Placed n p ((n, p) ∷ all)
placed_first n p all = (zero, ap (λ b. if b then Some 0 else option_map (λ i. 1 + i) (place_among n all)) (same n), refl)

placed_later : (n k : ℕ) (p q : Param) (all : List (ℕ × Param)) → n ≢ k → Placed n p all → Placed n p ((k, q) ∷ all)
placed_later n k p q all h s =
    let e : 1 + s.0 ≡ suc s.0 = omega arith in
    (suc s.0, ap (λ b. if b then Some 0 else option_map (λ i. 1 + i) (place_among n all)) (other n k h) ∙ ap (option_map (λ i. 1 + i)) s.1 ∙ ap Some e, s.2)

-- a parameter of this number is in memory
abbrev moved : Param → ℕ → List ℕ → Bool
moved p n addressed = is_block p.ty || is_in n addressed

further_at : (k : ℕ) (ps : List Param) (addressed : List ℕ) (i : ℕ) (p : Param) → slice_get ps i ≡ Some p → moved p (k + i) addressed ≡ true → Placed (k + i) p (addressed_params k ps addressed)
further_at k [] addressed i p h a = absurd (nothing_at i p h)
further_at k (q ∷ ps) addressed zero p h a =
    let e : q ≡ p = cc in
    let f : k ≡ k + 0 = omega arith in
    let b : moved q k addressed ≡ true = ap (λ m. moved q m addressed) f ∙ ap (λ r. moved r (k + 0) addressed) e ∙ a in
    subst (λ m. Placed m p (addressed_params k (q ∷ ps) addressed)) f
    (subst (λ c. Placed k p (if c then (k, q) ∷ addressed_params (1 + k) ps addressed else addressed_params (1 + k) ps addressed)) (sym b)
    (subst (λ r. Placed k p ((k, r) ∷ addressed_params (1 + k) ps addressed)) (sym e) (placed_first k p (addressed_params (1 + k) ps addressed))))
further_at k (q ∷ ps) addressed (suc i) p h a = by (moved q k addressed) (subst (λ m. Placed m p (addressed_params (1 + k) ps addressed)) f (further_at (1 + k) ps addressed i p h (ap (λ m. moved p m addressed) f ∙ a)))
  where
    f : (1 + k) + i ≡ k + suc i
    f = omega arith

    apart : k + suc i ≢ k
    apart e = omega arith

    by : (c : Bool) → Placed (k + suc i) p (addressed_params (1 + k) ps addressed) → Placed (k + suc i) p (if c then (k, q) ∷ addressed_params (1 + k) ps addressed else addressed_params (1 + k) ps addressed)
    by true s = placed_later (k + suc i) k p q (addressed_params (1 + k) ps addressed) apart s
    by false s = s

not_among : (k : ℕ) (ps : List Param) (addressed : List ℕ) (n : ℕ) → ((i : ℕ) (p : Param) → i < length ps → slice_get ps i ≡ Some p → n ≡ k + i → moved p n addressed ≡ true → ⊥) → place_among n (addressed_params k ps addressed) ≡ None
not_among k [] addressed n h = refl
not_among k (p ∷ ps) addressed n h = by (moved p k addressed) refl (not_among (1 + k) ps addressed n (λ i q l g e a. h (suc i) q (omega (arith, l)) g (omega (arith, e)) a))
  where
    differs : moved p k addressed ≡ true → n ≢ k
    differs a e = h 0 p (omega arith) refl (omega (arith, e)) (ap (λ m. moved p m addressed) e ∙ a)

    by : (c : Bool) → moved p k addressed ≡ c → place_among n (addressed_params (1 + k) ps addressed) ≡ None
        → place_among n (if c then (k, p) ∷ addressed_params (1 + k) ps addressed else addressed_params (1 + k) ps addressed) ≡ None
    by true a s = ap (λ b. if b then Some 0 else option_map (λ i. 1 + i) (place_among n (addressed_params (1 + k) ps addressed))) (other n k (differs a)) ∙ ap (option_map (λ i. 1 + i)) s
    by false a s = s

further_is : (k : ℕ) (ps : List Param) (addressed : List ℕ) (j : ℕ) (x : ℕ × Param) → slice_get (addressed_params k ps addressed) j ≡ Some x → (i : ℕ) × (x.0 ≡ k + i) × (slice_get ps i ≡ Some x.1)
further_is k [] addressed j x h = absurd (nothing_at j x h)
further_is k (p ∷ ps) addressed j x h = by (moved p k addressed) j h (λ j h. further_is (1 + k) ps addressed j x h)
  where
    later : (i : ℕ) × (x.0 ≡ (1 + k) + i) × (slice_get ps i ≡ Some x.1) → (i : ℕ) × (x.0 ≡ k + i) × (slice_get (p ∷ ps) i ≡ Some x.1)
    later r = let e = r.1 in (suc r.0, omega (arith, e), r.2)

    by : (c : Bool) (j : ℕ) → slice_get (if c then (k, p) ∷ addressed_params (1 + k) ps addressed else addressed_params (1 + k) ps addressed) j ≡ Some x
        → ((j : ℕ) → slice_get (addressed_params (1 + k) ps addressed) j ≡ Some x → (i : ℕ) × (x.0 ≡ (1 + k) + i) × (slice_get ps i ≡ Some x.1)) → (i : ℕ) × (x.0 ≡ k + i) × (slice_get (p ∷ ps) i ≡ Some x.1)
    by true zero h f =
        let e : (k, p) ≡ x = cc in
        let a : k ≡ k + 0 = omega arith in
        (zero, sym (ap (λ (y : ℕ × Param). y.0) e) ∙ a, ap (λ (y : ℕ × Param). Some y.1) e)
    by true (suc j) h f = later (f j h)
    by false j h f = later (f j h)

few_further : (k : ℕ) (ps : List Param) (addressed : List ℕ) → length (addressed_params k ps addressed) ≤ length ps
few_further k [] addressed = omega arith
few_further k (p ∷ ps) addressed = by (moved p k addressed) (few_further (1 + k) ps addressed)
  where
    by : (c : Bool) → length (addressed_params (1 + k) ps addressed) ≤ length ps → length (if c then (k, p) ∷ addressed_params (1 + k) ps addressed else addressed_params (1 + k) ps addressed) ≤ suc (length ps)
    by true h = omega (arith, h)
    by false h = omega (arith, h)

-- ---- the locals of a function

abbrev as_param : Param → Local
as_param p = record { ty = passed_type p; in_memory = false }

abbrev as_further : (ℕ × Param) → Local
as_further x = record { ty = x.1.ty; in_memory = true }

abbrev pub all_locals : List Param → List Ty → List ℕ → List Local
all_locals ps ts addressed = map as_param ps ++ (map as_further (addressed_params 0 ps addressed) ++ locals_from (length ps) addressed (drop (length ps) ts))

-- the parameters stand first, and numbers and pointers are passed for them
pub record AreFirst (ps : List Param) (ts : List Ty) : Type 0 where
  pub first : (i : ℕ) (p : Param) → slice_get ps i ≡ Some p → slice_get ts i ≡ Some p.ty
  pub scalar : (i : ℕ) (p : Param) → slice_get ps i ≡ Some p → IsScalar (passed_type p)
  pub within : length ps ≤ length ts

param_at : (ps : List Param) (ts : List Ty) (addressed : List ℕ) (i : ℕ) (p : Param) → slice_get ps i ≡ Some p → slice_get (all_locals ps ts addressed) i ≡ Some (as_param p)
param_at ps ts addressed i p h = get_before (map as_param ps) (map as_further (addressed_params 0 ps addressed) ++ locals_from (length ps) addressed (drop (length ps) ts)) i (as_param p) (slice_get-map as_param ps i ∙ ap (option_map as_param) h)

further_local : (ps : List Param) (ts : List Ty) (addressed : List ℕ) (j : ℕ) (x : ℕ × Param) → slice_get (addressed_params 0 ps addressed) j ≡ Some x → slice_get (all_locals ps ts addressed) (length ps + j) ≡ Some (as_further x)
further_local ps ts addressed j x h =
    let e : length ps + j ≡ length (map as_param ps) + j = ap (λ k. k + j) (sym (length_map as_param ps)) in
    ap (slice_get (all_locals ps ts addressed)) e
    ∙ get_right (map as_param ps) (map as_further (addressed_params 0 ps addressed) ++ locals_from (length ps) addressed (drop (length ps) ts)) j
    ∙ get_before (map as_further (addressed_params 0 ps addressed)) (locals_from (length ps) addressed (drop (length ps) ts)) j (as_further x) (slice_get-map as_further (addressed_params 0 ps addressed) j ∙ ap (option_map as_further) h)

rest_local : (ps : List Param) (ts : List Ty) (addressed : List ℕ) (n : ℕ) (t : Ty) → length ps ≤ n → slice_get ts n ≡ Some t → slice_get (all_locals ps ts addressed) (n + length (addressed_params 0 ps addressed)) ≡ Some (as_local addressed n t)
rest_local ps ts addressed n t h g =
    let m = length_map as_param ps in
    let k = length_map as_further (addressed_params 0 ps addressed) in
    let e : n + length (addressed_params 0 ps addressed) ≡ length (map as_param ps) + (length (map as_further (addressed_params 0 ps addressed)) + (n - length ps)) = omega (arith, m, k, h) in
    let f : length ps + (n - length ps) ≡ n = omega (arith, h) in
    ap (slice_get (all_locals ps ts addressed)) e
    ∙ get_right (map as_param ps) (map as_further (addressed_params 0 ps addressed) ++ locals_from (length ps) addressed (drop (length ps) ts)) (length (map as_further (addressed_params 0 ps addressed)) + (n - length ps))
    ∙ get_right (map as_further (addressed_params 0 ps addressed)) (locals_from (length ps) addressed (drop (length ps) ts)) (n - length ps)
    ∙ local_at (length ps) addressed (drop (length ps) ts) (n - length ps) t (get_drop (length ps) ts (n - length ps) ∙ ap (slice_get ts) f ∙ g)
    ∙ ap (λ i. Some (as_local addressed i t)) f

passed_itself : (t : Ty) → is_block t ≡ false → value_type t ≡ t
passed_itself (integer t) h = refl
passed_itself (pointer t) h = refl
passed_itself void h = refl
passed_itself (atomic t) h = absurd cc
passed_itself mutex h = refl
passed_itself (array t n) h = refl
passed_itself (structure n) h = refl

neither : (a b : Bool) → (a || b) ≡ false → (a ≡ false) × (b ≡ false)
neither true b h = absurd cc
neither false b h = (refl, h)

-- the new number of a local carries it
abbrev Carried : List Local → ℕ → Local → Type 0
Carried ls n l = IsNth ls n (λ (m : Local). (m.ty ≡ l.ty) × (l.in_memory ≡ true → m.in_memory ≡ true))

pub carries : (ps : List Param) (ts : List Ty) (addressed : List ℕ) → AreFirst ps ts → Carries (number_of (length ps) (addressed_params 0 ps addressed)) (locals_from 0 addressed ts) (all_locals ps ts addressed)
carries ps ts addressed f n l h = by (local_is 0 addressed ts n l h) (nat_lt n (length ps)) refl
  where
    small : (t : Ty) (l : Local) → l ≡ as_local addressed (0 + n) t → (p : Param) → slice_get ps n ≡ Some p → t ≡ p.ty → n < length ps → (a : Bool) → moved p n addressed ≡ a
        → Carried (all_locals ps ts addressed) (or_number (length ps) (length (addressed_params 0 ps addressed)) n (place_among n (addressed_params 0 ps addressed))) l
    small t l e p g q lt true a =
        let z : 0 + n ≡ n = omega arith in
        let s = subst (λ k. Placed k p (addressed_params 0 ps addressed)) z (further_at 0 ps addressed n p g (ap (λ k. moved p k addressed) z ∙ a)) in
        subst (λ o. Carried (all_locals ps ts addressed) (or_number (length ps) (length (addressed_params 0 ps addressed)) n o) l) (sym s.1)
        (as_further (n, p), further_local ps ts addressed s.0 (n, p) s.2, (sym q ∙ sym (ap (λ (x : Local). x.ty) e), λ m. refl))
    small t l e p g q lt false a =
        let none = not_among 0 ps addressed n (λ i r k s i_is b. absurd (apart i r s i_is b)) in
        let parts = neither (is_block p.ty) (is_in n addressed) a in
        let b : nat_lt n (length ps) ≡ true = test in
        subst (λ o. Carried (all_locals ps ts addressed) (or_number (length ps) (length (addressed_params 0 ps addressed)) n o) l) (sym none)
        (subst (λ c. Carried (all_locals ps ts addressed) (if c then n else n + length (addressed_params 0 ps addressed)) l) (sym b)
        (as_param p, param_at ps ts addressed n p g, (passed_itself p.ty parts.0 ∙ sym q ∙ sym (ap (λ (x : Local). x.ty) e), λ m. absurd (in_none m))))
      where
        apart : (i : ℕ) (r : Param) → slice_get ps i ≡ Some r → n ≡ 0 + i → moved r n addressed ≡ true → ⊥
        apart i r s i_is b =
            let z : i ≡ n = omega (arith, i_is) in
            let both : Some r ≡ Some p = sym s ∙ ap (slice_get ps) z ∙ g in
            let u : p ≡ r = cc in
            let v : moved p n addressed ≡ true = ap (λ x. moved x n addressed) u ∙ b in
            absurd cc

        test : nat_lt n (length ps) ≡ true
        test = grind (arith, nat_tests, lt)

        in_none : l.in_memory ≡ true → ⊥
        in_none m =
            let z : 0 + n ≡ n = omega arith in
            let i : l.in_memory ≡ (is_block t || is_in (0 + n) addressed) = ap (λ (x : Local). x.in_memory) e in
            let h = neither (is_block p.ty) (is_in n addressed) a in
            let j : is_block t ≡ false = ap is_block q ∙ h.0 in
            let k : is_in (0 + n) addressed ≡ false = ap (λ k. is_in k addressed) z ∙ h.1 in
            let o : (is_block t || is_in (0 + n) addressed) ≡ false = ap (λ b. b || is_in (0 + n) addressed) j ∙ k in
            cc

    large : (t : Ty) (l : Local) → l ≡ as_local addressed (0 + n) t → slice_get ts n ≡ Some t → length ps ≤ n
        → Carried (all_locals ps ts addressed) (or_number (length ps) (length (addressed_params 0 ps addressed)) n (place_among n (addressed_params 0 ps addressed))) l
    large t l e g le =
        let none = not_among 0 ps addressed n (λ i p k s r b. omega (arith, k, r, le)) in
        let b : nat_lt n (length ps) ≡ false = test in
        let z : 0 + n ≡ n = omega arith in
        subst (λ o. Carried (all_locals ps ts addressed) (or_number (length ps) (length (addressed_params 0 ps addressed)) n o) l) (sym none)
        (subst (λ c. Carried (all_locals ps ts addressed) (if c then n else n + length (addressed_params 0 ps addressed)) l) (sym b)
        (as_local addressed n t, rest_local ps ts addressed n t le g, (sym (ap (λ (x : Local). x.ty) e), λ m. sym (ap (λ k. is_block t || is_in k addressed) z) ∙ sym (ap (λ (x : Local). x.in_memory) e) ∙ m)))
      where
        test : nat_lt n (length ps) ≡ false
        test = grind (arith, nat_tests, le)

    past : nat_lt n (length ps) ≡ false → length ps ≤ n
    past h = grind (arith, nat_tests)

    before : nat_lt n (length ps) ≡ true → n < length ps
    before h = grind (arith, nat_tests)

    by : (r : (t : Ty) × (slice_get ts n ≡ Some t) × (l ≡ as_local addressed (0 + n) t)) → (b : Bool) → nat_lt n (length ps) ≡ b
        → Carried (all_locals ps ts addressed) (or_number (length ps) (length (addressed_params 0 ps addressed)) n (place_among n (addressed_params 0 ps addressed))) l
    by r true b =
        let p = get_of ps n (before b) in
        let e : Some r.0 ≡ Some p.0.ty = sym r.1 ∙ f.first n p.0 p.1 in
        let q : r.0 ≡ p.0.ty = cc in
        small r.0 l r.2 p.0 p.1 q (before b) (moved p.0 n addressed) refl
    by r false b = large r.0 l r.2 r.1 (past b)

pub rises : (ps : List Param) (addressed : List ℕ) → Rises (number_of (length ps) (addressed_params 0 ps addressed)) (length ps)
rises ps addressed n h = by (place_among n (addressed_params 0 ps addressed))
  where
    test : (b : Bool) → length ps ≤ (if b then n else n + length (addressed_params 0 ps addressed))
    test true = h
    test false = omega (arith, h)

    by : (o : Option ℕ) → length ps ≤ or_number (length ps) (length (addressed_params 0 ps addressed)) n o
    by (Some i) = omega arith
    by None = test (nat_lt n (length ps))

-- ---- the declarations of further locals

fits_passed : (t : Ty) → IsScalar (value_type t) → Fits (value_type t) t
fits_passed (integer t) h = refl
fits_passed (atomic t) h = refl
fits_passed (pointer t) h = tt
fits_passed void h = absurd h
fits_passed mutex h = absurd h
fits_passed (array t n) h = absurd h
fits_passed (structure n) h = absurd h

abbrev IsCopied : form.InScope → ℕ → (ℕ × Param) → Type 0
IsCopied e n x = IsNth e.locals n (λ (l : Local). l.ty ≡ x.1.ty) × IsNth e.locals x.0 (λ (l : Local). l.ty ≡ passed_type x.1) × IsScalar (passed_type x.1)

abbrev Inner : form.InScope → ℕ → Ty → Inside
Inner e k r = record { context = e; params = k; result = r }

copies_well : (e : form.InScope) (k : ℕ) (r : Ty) (i : ℕ) (xs : List (ℕ × Param)) (body : Stmts) → ((j : ℕ) (x : ℕ × Param) → slice_get xs j ≡ Some x → IsCopied e (k + (i + j)) x) → AreWell (Inner e k r) in_function body → AreWell (Inner e k r) in_function (copies k i xs body)
copies_well e k r i [] body f h = h
copies_well e k r i (x ∷ xs) body f h =
    let z : k + (i + 0) ≡ k + i = omega arith in
    let c = subst (λ n. IsCopied e n x) z (f 0 x refl) in (
      (omega arith, (c.0.0, c.0.1, (c.1, (subst (Fits (passed_type x.1)) (sym c.0.2) (fits_passed x.1.ty c.2), c.2)))),
      copies_well e k r (1 + i) xs body (λ j y g. subst (λ n. IsCopied e n y) (shift j) (f (suc j) y g)) h,
    )
  where
    shift : (j : ℕ) → k + (i + suc j) ≡ k + ((1 + i) + j)
    shift j = omega arith

pub body_well : (e : form.InScope) (ps : List Param) (ts : List Ty) (addressed : List ℕ) (r : Ty) (body : Stmts) → AreFirst ps ts
    → AreWell (Inner (with_locals e (locals_from 0 addressed ts)) (length ps) r) in_function body → AreWell (Inner (with_locals e (all_locals ps ts addressed)) (length ps) r) in_function (func_of ps ts addressed r body).body
body_well e ps ts addressed r body f h =
    copies_well (with_locals e (all_locals ps ts addressed)) (length ps) r 0 (addressed_params 0 ps addressed) (renumbered_stmts (number_of (length ps) (addressed_params 0 ps addressed)) body)
    (λ j x g. copied j x g (further_is 0 ps addressed j x g))
    (stmts_too (number_of (length ps) (addressed_params 0 ps addressed)) (with_locals e (locals_from 0 addressed ts)) (all_locals ps ts addressed) (carries ps ts addressed f) (length ps) r (rises ps addressed) in_function body h)
  where
    copied : (j : ℕ) (x : ℕ × Param) → slice_get (addressed_params 0 ps addressed) j ≡ Some x → (i : ℕ) × (x.0 ≡ 0 + i) × (slice_get ps i ≡ Some x.1) → IsCopied (with_locals e (all_locals ps ts addressed)) (length ps + (0 + j)) x
    copied j x g w =
        let a : length ps + j ≡ length ps + (0 + j) = omega arith in
        let b = w.1 in
        let c : w.0 ≡ x.0 = omega (arith, b) in (
          (as_further x, sym (ap (slice_get (all_locals ps ts addressed)) a) ∙ further_local ps ts addressed j x g, refl),
          (as_param x.1, sym (ap (slice_get (all_locals ps ts addressed)) c) ∙ param_at ps ts addressed w.0 x.1 w.2, refl),
          f.scalar w.0 x.1 w.2,
        )

-- ---- what else is asked of a function

all_append : {X : Type 0} (P : X → Type 0) (a b : List X) → AllByRecursion P a → AllByRecursion P b → AllByRecursion P (a ++ b)
all_append P [] b h k = k
all_append P (x ∷ a) b h k = (h.0, all_append P a b h.1 k)

all_map : {X Y : Type 0} (P : Y → Type 0) (f : X → Y) (xs : List X) → ((n : ℕ) (x : X) → slice_get xs n ≡ Some x → P (f x)) → AllByRecursion P (map f xs)
all_map P f [] h = tt
all_map P f (x ∷ xs) h = (h 0 x refl, all_map P f xs (λ n y g. h (suc n) y g))

scalar_sized : (s : List Layout) (t : Ty) → IsScalar (value_type t) → IsSized s t × IsSized s (value_type t)
scalar_sized s (integer t) h = (tt, tt)
scalar_sized s (atomic t) h = (tt, tt)
scalar_sized s (pointer t) h = (tt, tt)
scalar_sized s void h = absurd h
scalar_sized s mutex h = absurd h
scalar_sized s (array t n) h = absurd h
scalar_sized s (structure n) h = absurd h

sized_scalar : (s : List Layout) (t : Ty) → IsSized s t → is_block t ≡ false → IsScalar t
sized_scalar s (integer t) h k = tt
sized_scalar s (pointer t) h k = tt
sized_scalar s void h k = absurd h
sized_scalar s (atomic t) h k = absurd cc
sized_scalar s mutex h k = absurd cc
sized_scalar s (array t n) h k = absurd cc
sized_scalar s (structure n) h k = absurd cc

or_false : (a b : Bool) → (a || b) ≡ false → a ≡ false
or_false true b h = h
or_false false b h = refl

rest_locals : (s : List Layout) (k : ℕ) (addressed : List ℕ) (ts : List Ty) → ((n : ℕ) (t : Ty) → slice_get ts n ≡ Some t → IsSized s t) → AllByRecursion (IsLocal s) (locals_from k addressed ts)
rest_locals s k addressed [] h = tt
rest_locals s k addressed (t ∷ ts) h =
    (record { sized = h 0 t refl; scalar = λ m. sized_scalar s t (h 0 t refl) (or_false (is_block t) (is_in k addressed) m) }, rest_locals s (1 + k) addressed ts (λ n u g. h (suc n) u g))

pub locals_well : (s : List Layout) (ps : List Param) (ts : List Ty) (addressed : List ℕ) → AreFirst ps ts → ((n : ℕ) (t : Ty) → slice_get ts n ≡ Some t → IsSized s t) → AllByRecursion (IsLocal s) (all_locals ps ts addressed)
locals_well s ps ts addressed f h =
    all_append (IsLocal s) (map as_param ps) (map as_further (addressed_params 0 ps addressed) ++ locals_from (length ps) addressed (drop (length ps) ts))
    (all_map (IsLocal s) as_param ps (λ n p g. record { sized = (scalar_sized s p.ty (f.scalar n p g)).1; scalar = λ m. f.scalar n p g }))
    (all_append (IsLocal s) (map as_further (addressed_params 0 ps addressed)) (locals_from (length ps) addressed (drop (length ps) ts))
    (all_map (IsLocal s) as_further (addressed_params 0 ps addressed) (λ n x g. let w = further_is 0 ps addressed n x g in record { sized = (scalar_sized s x.1.ty (f.scalar w.0 x.1 w.2)).0; scalar = λ m. absurd cc }))
    (rest_locals s (length ps) addressed (drop (length ps) ts) (λ n t g. h (length ps + n) t (sym (get_drop (length ps) ts n) ∙ g))))

length_locals : (k : ℕ) (addressed : List ℕ) (ts : List Ty) → length (locals_from k addressed ts) ≡ length ts
length_locals k addressed [] = refl
length_locals k addressed (t ∷ ts) = ap suc (length_locals (1 + k) addressed ts)

pub few_locals : (ps : List Param) (ts : List Ty) (addressed : List ℕ) → AreFirst ps ts → length ps ≤ 16 → length ts ≤ 1024 → length (all_locals ps ts addressed) ≤ 1040
few_locals ps ts addressed f few many =
    let a = length-append (map as_param ps) (map as_further (addressed_params 0 ps addressed) ++ locals_from (length ps) addressed (drop (length ps) ts)) in
    let b = length-append (map as_further (addressed_params 0 ps addressed)) (locals_from (length ps) addressed (drop (length ps) ts)) in
    let c = length_map as_param ps in
    let d = length_map as_further (addressed_params 0 ps addressed) in
    let e = length_locals (length ps) addressed (drop (length ps) ts) in
    let g = length-drop (length ps) ts in
    let h = few_further 0 ps addressed in
    let w = f.within in
    omega (arith, a, b, c, d, e, g, h, w, few, many)

pub params_within : (ps : List Param) (ts : List Ty) (addressed : List ℕ) → length ps ≤ length (all_locals ps ts addressed)
params_within ps ts addressed =
    let a = length-append (map as_param ps) (map as_further (addressed_params 0 ps addressed) ++ locals_from (length ps) addressed (drop (length ps) ts)) in
    let c = length_map as_param ps in
    omega (arith, a, c)

pub params_first : (ps : List Param) (ts : List Ty) (addressed : List ℕ) → take (length ps) (all_locals ps ts addressed) ≡ map as_param ps
params_first ps ts addressed =
    ap (λ k. take k (all_locals ps ts addressed)) (sym (length_map as_param ps)) ∙ take-append_seam (map as_param ps) (map as_further (addressed_params 0 ps addressed) ++ locals_from (length ps) addressed (drop (length ps) ts))

all_params : (ps : List Param) → AllByRecursion (λ (l : Local). l.in_memory ≡ false) (map as_param ps)
all_params ps = all_map (λ (l : Local). l.in_memory ≡ false) as_param ps (λ n p g. refl)

pub in_registers : (ps : List Param) (ts : List Ty) (addressed : List ℕ) → AllByRecursion (λ (l : Local). l.in_memory ≡ false) (take (length ps) (all_locals ps ts addressed))
in_registers ps ts addressed = subst (AllByRecursion (λ (l : Local). l.in_memory ≡ false)) (sym (params_first ps ts addressed)) (all_params ps)

types_map : (ps : List Param) → map (λ (l : Local). l.ty) (map as_param ps) ≡ map passed_type ps
types_map [] = refl
types_map (p ∷ ps) = ap (λ ts. passed_type p ∷ ts) (types_map ps)

-- ---- the same of the function's own list

pub same_locals : (ps : List Param) (ts : List Ty) (addressed : List ℕ) (r : Ty) (body : Stmts) → all_locals ps ts addressed ≡ (func_of ps ts addressed r body).locals
same_locals ps ts addressed r body = sym (append_assoc (map as_param ps) (map as_further (addressed_params 0 ps addressed)) (locals_from (length ps) addressed (drop (length ps) ts)))

pub signature_is : (ps : List Param) (ts : List Ty) (addressed : List ℕ) (r : Ty) (body : Stmts) → signature_of (func_of ps ts addressed r body) ≡ record { params = map passed_type ps; result = r }
signature_is ps ts addressed r body =
    ap (λ us. record { params = us; result = r }) (ap (λ ls. map (λ (l : Local). l.ty) (take (length ps) ls)) (sym (same_locals ps ts addressed r body)) ∙ ap (map (λ (l : Local). l.ty)) (params_first ps ts addressed) ∙ types_map ps)
