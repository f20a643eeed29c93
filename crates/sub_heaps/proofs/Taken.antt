-- One object taken out: those that are left stand in order, are found at their places, and are one fewer; and what is found at a place was there.
use Rattle.std.proofs.Common.{◌≡◌, ◌≢◌, ℕ, ◌+◌, ◌<◌, ◌≤◌, eqb, cond, Bool, true, false, List, [], ◌∷◌, length, Some, IsSome, is_some, refl, sym, ap, subst, ◌∙◌, inl, inr, arith}
use Rattle.std.specs.Bool.{nat_le}
use Rattle.std.specs.List.{AllByRecursion as Each, find}
use Rattle.std.proofs.lemmas.Bool.{cases_eq, eq-eqb, ne_eqb, eqb-true, false≢true}
use Rattle.std.proofs.lemmas.Bool.Decides.{nat_tests}
use Rattle.sub_heaps.specs.declared.objects.Object.{Object}
use Rattle.sub_heaps.specs.ByPlace.{end_of, object_at, without}
use Rattle.sub_heaps.specs.SubHeaps.{StandFrom}
use Rattle.sub_heaps.specs.inner.Order.{InOrder}
use Rattle.sub_heaps.proofs.Edits.{without-above}
use Rattle.sub_heaps.proofs.Order.{all_above}
use Rattle.sub_heaps.proofs.Standing.{Each-weaker, StandFrom-weaker}

-- ---- what is found at a place

pub found_at : (at : ℕ) (xs : List Object) (o : Object) → object_at at xs ≡ Some o → o.at ≡ at
found_at at [] o found = absurd cc
found_at at (x ∷ xs) o found =
    elim (eqb x.at at) as (λ t. eqb x.at at ≡ t → cond t (Some x) (object_at at xs) ≡ Some o → o.at ≡ at) [
      | true ↦ λ is found. let same : x ≡ o = cc in subst (λ (y : Object). y.at ≡ at) same (eqb-true x.at at is)
      | false ↦ λ is found. found_at at xs o found
    ] refl found

pub found_each : (P : Object → Type 0) (at : ℕ) (xs : List Object) (o : Object) → object_at at xs ≡ Some o → Each P xs → P o
found_each P at [] o found each = absurd cc
found_each P at (x ∷ xs) o found each =
    elim (eqb x.at at) as (λ t. cond t (Some x) (object_at at xs) ≡ Some o → P o) [
      | true ↦ λ found. let same : x ≡ o = cc in subst P same each.0
      | false ↦ λ found. found_each P at xs o found each.1
    ] found

-- ---- without the object at a place

pub object_at-without_other : (f at : ℕ) (xs : List Object) → f ≢ at → object_at f (without at xs) ≡ object_at f xs
object_at-without_other f at [] other = refl
object_at-without_other f at (x ∷ xs) other = elim (cases_eq x.at at) [
  | inl here ↦
      let gone : eqb x.at at ≡ true = eq-eqb x.at at here in
      let skipped : eqb x.at f ≡ false = ne_eqb x.at f (λ same. other (sym same ∙ here)) in
      rw (gone, skipped) (object_at-without_other f at xs other)
  | inr kept ↦
      let stays : eqb x.at at ≡ false = ne_eqb x.at at kept in
      rw stays (ap (cond (eqb x.at f) (Some x)) (object_at-without_other f at xs other))
]

pub StandFrom-without : (at count size from : ℕ) (xs : List Object) → StandFrom count size from xs → StandFrom count size from (without at xs)
StandFrom-without at count size from [] stand = tt
StandFrom-without at count size from (x ∷ xs) stand = elim (cases_eq x.at at) [
  | inl here ↦
      let is : without at (x ∷ xs) ≡ without at xs = grind (arith, nat_tests) in
      rw is (StandFrom-weaker count size from (end_of x) (without at xs) (omega (arith, stand.0)) (StandFrom-without at count size (end_of x) xs stand.3))
  | inr other ↦
      let is : without at (x ∷ xs) ≡ x ∷ without at xs = grind (arith, nat_tests) in
      rw is (stand.0, stand.1, stand.2, StandFrom-without at count size (end_of x) xs stand.3)
]

pub length-without : (at from : ℕ) (xs : List Object) → InOrder from xs → IsSome (object_at at xs) → length (without at xs) + 1 ≡ length xs
length-without at from [] order found = absurd (false≢true found)
length-without at from (x ∷ xs) order found = elim (cases_eq x.at at) [
  | inl here ↦
      let rest = Each-weaker (λ y. end_of x ≤ y.at) (λ y. at < y.at) (λ y above. omega (arith, above, order.1, here)) xs (all_above (end_of x) xs order.2) in
      let first : without at (x ∷ xs) ≡ without at xs = grind (arith, nat_tests) in
      omega (arith, ap (λ (ys : List Object). length ys) (first ∙ without-above at xs rest))
  | inr other ↦
      let is : without at (x ∷ xs) ≡ x ∷ without at xs = grind (arith, nat_tests) in
      let skip : object_at at (x ∷ xs) ≡ object_at at xs = grind (arith, nat_tests) in
      omega (arith, ap (λ (ys : List Object). length ys) is, length-without at (end_of x) xs order.2 (rw skip at found))
]

-- ---- what a walk finds is there

pub element_found : (xs : List Object) → Each (λ o. is_some (object_at o.at xs) ≡ true) xs
element_found [] = tt
element_found (x ∷ xs) =
    let here : eqb x.at x.at ≡ true = eq-eqb x.at x.at refl in
    (rw here refl, Each-weaker (λ o. is_some (object_at o.at xs) ≡ true) (λ o. is_some (object_at o.at (x ∷ xs)) ≡ true) found_behind xs (element_found xs))
  where
    found_behind : (o : Object) → is_some (object_at o.at xs) ≡ true → is_some (object_at o.at (x ∷ xs)) ≡ true
    found_behind o there = elim (eqb x.at o.at) as (λ t. is_some (cond t (Some x) (object_at o.at xs)) ≡ true) [ true ↦ refl | false ↦ there ]

pub find_each : {X : Type 0} (P : X → Type 0) (p : X → Bool) (xs : List X) (o : X) → find p xs ≡ Some o → Each P xs → P o
find_each P p [] o found each = absurd cc
find_each P p (x ∷ xs) o found each =
    elim (p x) as (λ t. cond t (Some x) (find p xs) ≡ Some o → P o) [
      | true ↦ λ found. let same : x ≡ o = cc in subst P same each.0
      | false ↦ λ found. find_each P p xs o found each.1
    ] found

pub next_found : (from : ℕ) (xs : List Object) (o : Object) → Some o ≡ find (λ o. nat_le from o.at) xs → IsSome (object_at o.at xs)
next_found from xs o found = find_each (λ o. is_some (object_at o.at xs) ≡ true) (λ o. nat_le from o.at) xs o (sym found) (element_found xs)
