-- What is left of objects in order from a place on, as a walk by `next_object` passes it.
use Rattle.std.proofs.Common.{◌≡◌, ℕ, ◌*◌, ◌<◌, ◌≤◌, true, false, cond, leb, List, [], ◌∷◌, Some, None, refl, sym, subst, arith}
use Rattle.std.specs.List.{find}
use Rattle.std.proofs.lemmas.Bool.{leb-true, leb-false, le-leb, lt-leb}
use Rattle.sub_heaps.specs.declared.objects.Object.{Object}
use Rattle.sub_heaps.specs.ByPlace.{end_of}
use Rattle.sub_heaps.specs.SubHeaps.{SubHeaps, LiesInOne, IsRounded, StandFrom, IsSound}
use Rattle.sub_heaps.proofs.Blocks.{end_inside}

-- the objects from the first on that does not start below a place
abbrev pub rest_from : ℕ → List Object → List Object
rest_from from [] = []
rest_from from (o ∷ os) = cond (leb from o.at) (o ∷ os) (rest_from from os)

pub rest_none : (from : ℕ) (xs : List Object) → find (λ o. leb from o.at) xs ≡ None → rest_from from xs ≡ []
rest_none from [] none = refl
rest_none from (x ∷ xs) none =
    elim (leb from x.at) as (λ t. cond t (Some x) (find (λ o. leb from o.at) xs) ≡ None → cond t (x ∷ xs) (rest_from from xs) ≡ []) [
      | true ↦ λ is. cc
      | false ↦ λ is. rest_none from xs is
    ] none

-- all start at or above place 0
pub rest_zero : (xs : List Object) → rest_from 0 xs ≡ xs
rest_zero [] = refl
rest_zero (x ∷ xs) = let above : leb 0 x.at ≡ true = le-leb 0 x.at (omega arith) in rw above refl

module _ (count size : ℕ) where
  -- where all objects start at or above the place, all are left
  pub rest_all : (from low : ℕ) (xs : List Object) → from ≤ low → StandFrom count size low xs → rest_from from xs ≡ xs
  rest_all from low [] le stand = refl
  rest_all from low (x ∷ xs) le stand = let above : leb from x.at ≡ true = le-leb from x.at (omega arith) in rw above refl

  -- the object that a walk finds is the first that is left, and the walk goes on at its end
  pub record Goes (from : ℕ) (xs : List Object) (o : Object) : Type 0 where
    pub left : rest_from from xs ≡ o ∷ rest_from (end_of o) xs
    pub above : from ≤ o.at

  goes_first : (from : ℕ) (x : Object) (xs : List Object) → from ≤ x.at → IsRounded x.size → StandFrom count size (end_of x) xs → Goes from (x ∷ xs) x
  goes_first from x xs le rounded stand =
      let here : leb from x.at ≡ true = le-leb from x.at le in
      let passed : leb (end_of x) x.at ≡ false = lt-leb (end_of x) x.at (omega (arith, rounded)) in
      record { left = rw (here, passed, rest_all (end_of x) (end_of x) xs (omega arith) stand) refl; above = le }

  goes_on : (from : ℕ) (x : Object) (xs : List Object) (o : Object) → x.at < from → Goes from xs o → Goes from (x ∷ xs) o
  goes_on from x xs o below later =
      let skipped : leb from x.at ≡ false = lt-leb from x.at below in
      let passed : leb (end_of o) x.at ≡ false = lt-leb (end_of o) x.at (omega (arith, later.above)) in
      record { left = rw (skipped, passed) later.left; above = later.above }

  pub rest_more : (from low : ℕ) (xs : List Object) (o : Object) → StandFrom count size low xs → find (λ o. leb from o.at) xs ≡ Some o → Goes from xs o
  rest_more from low [] o stand found = absurd cc
  rest_more from low (x ∷ xs) o stand found =
      elim (leb from x.at) as (λ t. leb from x.at ≡ t → cond t (Some x) (find (λ o. leb from o.at) xs) ≡ Some o → Goes from (x ∷ xs) o) [
        | true ↦ λ is found. let same : x ≡ o = cc in subst (λ y. Goes from (x ∷ xs) y) same (goes_first from x xs (leb-true from x.at is) stand.2 stand.3)
        | false ↦ λ is found. goes_on from x xs o (leb-false from x.at is) (rest_more from (end_of x) xs o stand.3 found)
      ] refl found

  pub stand_rest : (from low : ℕ) (xs : List Object) → StandFrom count size low xs → StandFrom count size from (rest_from from xs)
  stand_rest from low [] stand = tt
  stand_rest from low (x ∷ xs) stand =
      elim (leb from x.at) as (λ t. leb from x.at ≡ t → StandFrom count size from (cond t (x ∷ xs) (rest_from from xs))) [
        | true ↦ λ is. (leb-true from x.at is, stand.1, stand.2, stand.3)
        | false ↦ λ is. stand_rest from (end_of x) xs stand.3
      ] refl

-- a step of a walk by `next_object` over sound sub-heaps
pub record IsStep (h : SubHeaps) (from : ℕ) (o : Object) : Type 0 where
  pub left : rest_from from h.objects ≡ o ∷ rest_from (end_of o) h.objects
  pub above : from ≤ o.at
  pub lies : LiesInOne h.count h.size o.size o.at
  pub rounded : IsRounded o.size
  pub within : end_of o ≤ h.count * h.size

pub IsStep-found : (h : SubHeaps) → IsSound h → (from : ℕ) (o : Object) → Some o ≡ find (λ o. leb from o.at) h.objects → IsStep h from o
IsStep-found h sound from o found =
    let goes = rest_more h.count h.size from 0 h.objects o sound.stand (sym found) in
    let stand : StandFrom h.count h.size from (o ∷ rest_from (end_of o) h.objects) = rw goes.left at (stand_rest h.count h.size from 0 h.objects sound.stand) in
    record {
      left = goes.left;
      above = goes.above;
      lies = stand.1;
      rounded = stand.2;
      within = end_inside h.size (omega (arith, sound.shape.size_least)) h.count o.size o.at stand.1;
    }

-- the same step where one who reads the objects finds it
pub IsStep-read : (h : SubHeaps) → IsSound h → (from : ℕ) (o : Object) (objects : List Object) → objects ≡ h.objects → Some o ≡ find (λ o. leb from o.at) objects → IsStep h from o
IsStep-read h sound from o objects same found = IsStep-found h sound from o (subst (λ (os : List Object). Some o ≡ find (λ o. leb from o.at) os) same found)

pub rest_none-read : (from : ℕ) (objects xs : List Object) → objects ≡ xs → None ≡ find (λ o. leb from o.at) objects → rest_from from xs ≡ []
rest_none-read from objects xs same none = subst (λ (os : List Object). rest_from from os ≡ []) same (rest_none from objects (sym none))
