-- A walk over the objects that passes one target after the other.
use Rattle.std.proofs.Common.{◌≡◌, ℕ, ◌<◌, ◌≤◌, ◌⊎◌, true, false, cond, leb, List, [], ◌∷◌, Some, refl, subst, inl, inr, arith}
use Rattle.std.specs.List.{AllByRecursion as Each, find}
use Rattle.std.proofs.lemmas.Bool.{leb-false}
use Rattle.sub_heaps.specs.declared.objects.Object.{Object}
use Rattle.sub_heaps.specs.ByPlace.{end_of}
use Rattle.sub_heaps.specs.SubHeaps.{StandFrom}
use Rattle.sub_heaps.proofs.Standing.{Each-weaker, start_above}
use Rattle.move_plan.proofs.Rest.{rest_from}

-- what holds of the objects below a place holds of all where it holds of those that are left
pub clear_rest : (from : ℕ) (P : Object → Type 0) (xs : List Object) → Each (λ o. (from ≤ o.at) ⊎ P o) xs → Each P (rest_from from xs) → Each P xs
clear_rest from P [] below each = tt
clear_rest from P (x ∷ xs) below each =
    elim (leb from x.at) as (λ t. leb from x.at ≡ t → Each P (cond t (x ∷ xs) (rest_from from xs)) → Each P (x ∷ xs)) [
      | true ↦ λ is each. each
      | false ↦ λ is each. (passed (leb-false from x.at is) below.0, clear_rest from P xs below.1 each)
    ] refl each
  where
    passed : x.at < from → (from ≤ x.at) ⊎ P x → P x
    passed lower (inl high) = absurd (omega arith)
    passed lower (inr holds) = holds

pub rest_clear : (from : ℕ) (P : Object → Type 0) (xs : List Object) → Each P xs → Each P (rest_from from xs)
rest_clear from P [] each = tt
rest_clear from P (x ∷ xs) each =
    elim (leb from x.at) as (λ t. Each P (cond t (x ∷ xs) (rest_from from xs))) [
      | true ↦ each
      | false ↦ rest_clear from P xs each.1
    ]

found_first : (P : Object → Type 0) (from : ℕ) (xs : List Object) (o : Object) → find (λ o. leb from o.at) xs ≡ Some o → Each P xs → P o
found_first P from [] o found each = absurd cc
found_first P from (x ∷ xs) o found each =
    elim (leb from x.at) as (λ t. cond t (Some x) (find (λ o. leb from o.at) xs) ≡ Some o → P o) [
      | true ↦ λ found. let same : x ≡ o = cc in subst P same each.0
      | false ↦ λ found. found_first P from xs o found each.1
    ] found

-- each object ends no higher than the one that the walk finds, or starts above it
pub beside_first : (count size low from : ℕ) (xs : List Object) (o : Object) → StandFrom count size low xs → find (λ o. leb from o.at) xs ≡ Some o → Each (λ other. (end_of o ≤ other.at) ⊎ (end_of other ≤ end_of o)) xs
beside_first count size low from [] o stand found = tt
beside_first count size low from (x ∷ xs) o stand found =
    elim (leb from x.at) as (λ t. cond t (Some x) (find (λ o. leb from o.at) xs) ≡ Some o → Each (λ other. (end_of o ≤ other.at) ⊎ (end_of other ≤ end_of o)) (x ∷ xs)) [
      | true ↦ λ found.
          let same : x ≡ o = cc in
          subst (λ (y : Object). Each (λ other. (end_of y ≤ other.at) ⊎ (end_of other ≤ end_of y)) (x ∷ xs)) same (inr (omega arith), Each-weaker (λ other. end_of x ≤ other.at) _ (λ other above. inl above) xs (start_above count size (end_of x) xs stand.3))
      | false ↦ λ found.
          let above : end_of x ≤ o.at = found_first (λ other. end_of x ≤ other.at) from xs o found (start_above count size (end_of x) xs stand.3) in
          (inr (omega (arith, above)), beside_first count size (end_of x) from xs o stand.3 found)
    ] found
