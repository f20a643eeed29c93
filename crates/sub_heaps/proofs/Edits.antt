-- What an edit of the list gives where the place of the object in it is known.
use Rattle.std.proofs.Common.{◌≡◌, ◌≢◌, ℕ, ◌<◌, ◌≤◌, true, false, cond, eqb, ltb, not, List, [], ◌∷◌, ◌++◌, Some, None, refl, ap, inl, inr, arith}
use Rattle.std.specs.List.{AllByRecursion as Each, find}
use Rattle.std.specs.Bool.{nat_le}
use Rattle.std.proofs.lemmas.Bool.{cases_eq, eq-eqb, ne_eqb, eqb-true, eqb-false}
use Rattle.std.proofs.lemmas.Bool.Decides.{nat_tests}
use Rattle.sub_heaps.specs.declared.objects.Object.{Object}
use Rattle.sub_heaps.specs.ByPlace.{object_at, with_object, without}

-- ---- the object at a place

-- none is found among objects that start above it
pub object_at-above : (at : ℕ) (ys : List Object) → Each (λ y. at < y.at) ys → object_at at ys ≡ None
object_at-above at [] above = refl
object_at-above at (y ∷ ys) above = grind (arith, nat_tests, above.0, object_at-above at ys above.1)

-- it is not among objects that start lower
pub object_at-skip : (at : ℕ) (xs ys : List Object) → Each (λ x. x.at < at) xs → object_at at (xs ++ ys) ≡ object_at at ys
object_at-skip at [] ys below = refl
object_at-skip at (x ∷ xs) ys below = grind (arith, nat_tests, below.0, object_at-skip at xs ys below.1)

-- nor among objects that start higher
pub object_at-front : (at : ℕ) (xs ys : List Object) → Each (λ y. at < y.at) ys → object_at at (xs ++ ys) ≡ object_at at xs
object_at-front at [] ys above = object_at-above at ys above
object_at-front at (x ∷ xs) ys above = grind (arith, nat_tests, object_at-front at xs ys above)

-- the object at a place is found, where those before it start lower
pub object_at-split : (at : ℕ) (xs : List Object) (o : Object) (ys : List Object) → Each (λ x. x.at < at) xs → o.at ≡ at → object_at at (xs ++ o ∷ ys) ≡ Some o
object_at-split at [] o ys below is = grind (arith, nat_tests)
object_at-split at (x ∷ xs) o ys below is = grind (arith, nat_tests, below.0, object_at-split at xs o ys below.1 is)

-- ---- the list without the object at a place

-- without one that is not there the list is the same
pub without-above : (at : ℕ) (ys : List Object) → Each (λ x. at < x.at) ys → without at ys ≡ ys
without-above at [] above = refl
without-above at (y ∷ ys) above = grind (arith, nat_tests, above.0, without-above at ys above.1)

pub without-skip : (at : ℕ) (xs ys : List Object) → Each (λ x. x.at < at) xs → without at (xs ++ ys) ≡ xs ++ without at ys
without-skip at [] ys below = refl
without-skip at (x ∷ xs) ys below = grind (arith, nat_tests, below.0, without-skip at xs ys below.1)

pub without-front : (at : ℕ) (xs ys : List Object) → Each (λ y. at < y.at) ys → without at (xs ++ ys) ≡ without at xs ++ ys
without-front at [] ys above = without-above at ys above
without-front at (x ∷ xs) ys above = grind (arith, nat_tests, without-front at xs ys above)

pub without-split : (at : ℕ) (xs : List Object) (o : Object) (ys : List Object) → Each (λ x. x.at < at) xs → o.at ≡ at → Each (λ x. at < x.at) ys → without at (xs ++ o ∷ ys) ≡ xs ++ ys
without-split at [] o ys below is above = grind (arith, nat_tests, without-above at ys above)
without-split at (x ∷ xs) o ys below is above = grind (arith, nat_tests, below.0, without-split at xs o ys below.1 is above)

-- ---- the list with one object more

pub with_object-skip : (new : Object) (xs ys : List Object) → Each (λ x. x.at ≤ new.at) xs → with_object new (xs ++ ys) ≡ xs ++ with_object new ys
with_object-skip new [] ys below = refl
with_object-skip new (x ∷ xs) ys below = grind (arith, nat_tests, below.0, with_object-skip new xs ys below.1)

-- it stands before an object that starts higher
pub with_object-front : (new : Object) (xs : List Object) (o : Object) (ys : List Object) → new.at < o.at → with_object new (xs ++ o ∷ ys) ≡ with_object new xs ++ o ∷ ys
with_object-front new [] o ys above = grind (arith, nat_tests)
with_object-front new (x ∷ xs) o ys above = grind (arith, nat_tests, with_object-front new xs o ys above)

pub with_object-split : (new : Object) (xs ys : List Object) → Each (λ x. x.at ≤ new.at) xs → Each (λ x. new.at < x.at) ys → with_object new (xs ++ ys) ≡ xs ++ new ∷ ys
with_object-split new [] [] below above = refl
with_object-split new [] (y ∷ ys) below above = grind (arith, nat_tests, above.0)
with_object-split new (x ∷ xs) ys below above = grind (arith, nat_tests, below.0, with_object-split new xs ys below.1 above)

-- ---- the first object at or above a place

pub first_from-skip : (from : ℕ) (xs ys : List Object) → Each (λ x. x.at < from) xs → find (λ o. nat_le from o.at) (xs ++ ys) ≡ find (λ o. nat_le from o.at) ys
first_from-skip from [] ys below = refl
first_from-skip from (x ∷ xs) ys below = grind (arith, nat_tests, below.0, first_from-skip from xs ys below.1)

-- ---- the object at a place, after an edit

pub object_at-without_same : (at : ℕ) (xs : List Object) → object_at at (without at xs) ≡ None
object_at-without_same at [] = refl
object_at-without_same at (x ∷ xs) = elim (cases_eq x.at at) [
  | inl here ↦ let gone : eqb x.at at ≡ true = eq-eqb x.at at here in rw gone (object_at-without_same at xs)
  | inr kept ↦ let stays : eqb x.at at ≡ false = ne_eqb x.at at kept in rw (stays, stays) (object_at-without_same at xs)
]

pub object_at-with_object : (f : ℕ) (new : Object) (xs : List Object) → new.at ≢ f → object_at f (with_object new xs) ≡ object_at f xs
object_at-with_object f new [] other = let skipped : eqb new.at f ≡ false = ne_eqb new.at f other in rw skipped refl
object_at-with_object f new (x ∷ xs) other =
    let skipped : eqb new.at f ≡ false = ne_eqb new.at f other in
    elim (ltb new.at x.at) as (λ t. object_at f (cond t (new ∷ x ∷ xs) (x ∷ with_object new xs)) ≡ object_at f (x ∷ xs)) [
      | true ↦ rw skipped refl
      | false ↦ ap (cond (eqb x.at f) (Some x)) (object_at-with_object f new xs other)
    ]

-- ---- what holds of each object

pub Each-with_object : (P : Object → Type 0) (new : Object) (xs : List Object) → P new → Each P xs → Each P (with_object new xs)
Each-with_object P new [] holds each = (holds, tt)
Each-with_object P new (x ∷ xs) holds each =
    elim (ltb new.at x.at) as (λ t. Each P (cond t (new ∷ x ∷ xs) (x ∷ with_object new xs))) [
      | true ↦ (holds, each)
      | false ↦ (each.0, Each-with_object P new xs holds each.1)
    ]

pub with_object-Each : (P : Object → Type 0) (new : Object) (xs : List Object) → Each P (with_object new xs) → P new × Each P xs
with_object-Each P new [] each = (each.0, tt)
with_object-Each P new (x ∷ xs) each =
    elim (ltb new.at x.at) as (λ t. Each P (cond t (new ∷ x ∷ xs) (x ∷ with_object new xs)) → P new × Each P (x ∷ xs)) [
      | true ↦ λ each. (each.0, each.1)
      | false ↦ λ each. let rest = with_object-Each P new xs each.1 in (rest.0, (each.0, rest.1))
    ] each

pub Each-without : (P : Object → Type 0) (at : ℕ) (xs : List Object) → Each (λ o. o.at ≢ at → P o) xs → Each P (without at xs)
Each-without P at [] each = tt
Each-without P at (x ∷ xs) each =
    elim (eqb x.at at) as (λ t. eqb x.at at ≡ t → Each P (cond (not t) (x ∷ without at xs) (without at xs))) [
      | true ↦ λ is. Each-without P at xs each.1
      | false ↦ λ is. (each.0 (eqb-false x.at at is), Each-without P at xs each.1)
    ] refl

pub without-Each : (P : Object → Type 0) (at : ℕ) (xs : List Object) → Each P (without at xs) → Each (λ o. o.at ≢ at → P o) xs
without-Each P at [] each = tt
without-Each P at (x ∷ xs) each =
    elim (eqb x.at at) as (λ t. eqb x.at at ≡ t → Each P (cond (not t) (x ∷ without at xs) (without at xs)) → Each (λ o. o.at ≢ at → P o) (x ∷ xs)) [
      | true ↦ λ is each. (λ other. absurd (other (eqb-true x.at at is)), without-Each P at xs each)
      | false ↦ λ is each. (λ other. each.0, without-Each P at xs each.1)
    ] refl each
