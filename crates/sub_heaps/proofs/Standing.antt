-- Objects that stand in order: what a part of the list keeps, and when a list stands again after it was put together.
use Rattle.std.proofs.Common.{ℕ, suc, zero, ◌<◌, ◌≤◌, List, [], ◌∷◌, ◌++◌, length, get_or, take, arith}
use Rattle.std.specs.List.{AllByRecursion as Each}
use Rattle.sub_heaps.specs.declared.objects.Object.{Object}
use Rattle.sub_heaps.specs.ByPlace.{end_of}
use Rattle.sub_heaps.specs.SubHeaps.{LiesInOne, IsRounded, StandFrom}
pub use Rattle.sub_heaps.specs.inner.Order.{last_end}

-- ---- what holds of each element, by recursion on the list

pub Each-weaker : {X : Type 0} (P Q : X → Type 0) → ((x : X) → P x → Q x) → (xs : List X) → Each P xs → Each Q xs
Each-weaker P Q f [] h = tt
Each-weaker P Q f (x ∷ xs) h = (f x h.0, Each-weaker P Q f xs h.1)

pub Each-both : {X : Type 0} (P Q R : X → Type 0) → ((x : X) → P x → Q x → R x) → (xs : List X) → Each P xs → Each Q xs → Each R xs
Each-both P Q R f [] h k = tt
Each-both P Q R f (x ∷ xs) h k = (f x h.0 k.0, Each-both P Q R f xs h.1 k.1)

pub Each-append : {X : Type 0} (P : X → Type 0) (xs ys : List X) → Each P xs → Each P ys → Each P (xs ++ ys)
Each-append P [] ys h k = k
Each-append P (x ∷ xs) ys h k = (h.0, Each-append P xs ys h.1 k)

pub Each-left : {X : Type 0} (P : X → Type 0) (xs ys : List X) → Each P (xs ++ ys) → Each P xs
Each-left P [] ys h = tt
Each-left P (x ∷ xs) ys h = (h.0, Each-left P xs ys h.1)

pub Each-right : {X : Type 0} (P : X → Type 0) (xs ys : List X) → Each P (xs ++ ys) → Each P ys
Each-right P [] ys h = h
Each-right P (x ∷ xs) ys h = Each-right P xs ys h.1

pub each_at : {X : Type 0} (P : X → Type 0) (xs : List X) (k : ℕ) (d : X) → Each P xs → k < length xs → P (get_or xs k d)
each_at P [] k d each within = absurd (omega arith)
each_at P (x ∷ xs) zero d each within = each.0
each_at P (x ∷ xs) (suc k) d each within = each_at P xs k d each.1 (omega arith)

-- ---- objects in order

module _ (count size : ℕ) where
  pub StandFrom-weaker : (low from : ℕ) (xs : List Object) → low ≤ from → StandFrom count size from xs → StandFrom count size low xs
  StandFrom-weaker low from [] le stand = tt
  StandFrom-weaker low from (o ∷ os) le stand = (omega arith, stand.1, stand.2, stand.3)

  pub StandFrom-tail : (from : ℕ) (o : Object) (os : List Object) → StandFrom count size from (o ∷ os) → StandFrom count size from os
  StandFrom-tail from o os stand = StandFrom-weaker from (end_of o) os (omega arith) stand.3

  -- each starts at or above the place, and has a byte
  pub start_above : (from : ℕ) (xs : List Object) → StandFrom count size from xs → Each (λ o. from ≤ o.at) xs
  start_above from [] stand = tt
  start_above from (o ∷ os) stand = (stand.0, start_above from os (StandFrom-tail from o os stand))

  pub each_rounded : (from : ℕ) (xs : List Object) → StandFrom count size from xs → Each (λ o. IsRounded o.size) xs
  each_rounded from [] stand = tt
  each_rounded from (o ∷ os) stand = (stand.2, each_rounded (end_of o) os stand.3)

  pub each_inside : (from : ℕ) (xs : List Object) → StandFrom count size from xs → Each (λ o. LiesInOne count size o.size o.at) xs
  each_inside from [] stand = tt
  each_inside from (o ∷ os) stand = (stand.1, each_inside (end_of o) os stand.3)

  -- the last end is above the place and above each end
  pub le-last_end : (from : ℕ) (xs : List Object) → StandFrom count size from xs → from ≤ last_end from xs
  le-last_end from [] stand = omega arith
  le-last_end from (o ∷ os) stand = omega (arith, le-last_end (end_of o) os stand.3)

  pub end_below : (from : ℕ) (xs : List Object) → StandFrom count size from xs → Each (λ o. end_of o ≤ last_end from xs) xs
  end_below from [] stand = tt
  end_below from (o ∷ os) stand = (le-last_end (end_of o) os stand.3, end_below (end_of o) os stand.3)

  -- the last end is at most a bound of each end
  pub last_end-le : (from top : ℕ) (xs : List Object) → from ≤ top → Each (λ o. end_of o ≤ top) xs → last_end from xs ≤ top
  last_end-le from top [] le ends = le
  last_end-le from top (o ∷ os) le ends = last_end-le (end_of o) top os ends.0 ends.1

  pub StandFrom-take : (from : ℕ) (xs : List Object) (i : ℕ) → StandFrom count size from xs → StandFrom count size from (take i xs)
  StandFrom-take from xs zero stand = tt
  StandFrom-take from [] (suc i) stand = tt
  StandFrom-take from (o ∷ os) (suc i) stand = (stand.0, stand.1, stand.2, StandFrom-take (end_of o) os i stand.3)

  pub StandFrom-append : (from : ℕ) (xs ys : List Object) → StandFrom count size from xs → StandFrom count size (last_end from xs) ys → StandFrom count size from (xs ++ ys)
  StandFrom-append from [] ys left right = right
  StandFrom-append from (o ∷ os) ys left right = (left.0, left.1, left.2, StandFrom-append (end_of o) os ys left.3 right)

  -- what stands above a place, and starts above a higher one, stands above that
  pub StandFrom-raise : (from high : ℕ) (xs : List Object) → Each (λ o. high ≤ o.at) xs → StandFrom count size from xs → StandFrom count size high xs
  StandFrom-raise from high [] above stand = tt
  StandFrom-raise from high (o ∷ os) above stand = (above.0, stand.1, stand.2, stand.3)

  -- ---- by index

  -- an object ends at or below the last end of any longer front of the list
  pub end_before : (from : ℕ) (xs : List Object) → StandFrom count size from xs → (k i : ℕ) (d : Object) → k < i → i ≤ length xs → end_of (get_or xs k d) ≤ last_end from (take i xs)
  end_before from xs stand k zero d lt within = absurd (omega arith)
  end_before from [] stand k (suc i) d lt within = absurd (omega arith)
  end_before from (o ∷ os) stand zero (suc i) d lt within = le-last_end (end_of o) (take i os) (StandFrom-take (end_of o) os i stand.3)
  end_before from (o ∷ os) stand (suc k) (suc i) d lt within = end_before (end_of o) os stand.3 k i d (omega arith) (omega arith)

  -- and starts at or above that of the front before it
  pub start_after : (from : ℕ) (xs : List Object) → StandFrom count size from xs → (i : ℕ) (d : Object) → i < length xs → last_end from (take i xs) ≤ (get_or xs i d).at
  start_after from [] stand i d within = absurd (omega arith)
  start_after from (o ∷ os) stand zero d within = stand.0
  start_after from (o ∷ os) stand (suc i) d within = start_after (end_of o) os stand.3 i d (omega arith)
