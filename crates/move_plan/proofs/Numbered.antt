-- The objects of one sub-heap, as a part of the objects in order.
use Rattle.std.proofs.Common.{◌≡◌, ℕ, zero, suc, ◌+◌, ◌*◌, ◌/◌, ◌%◌, ◌<◌, ◌≤◌, ◌≢◌, ◌⊎◌, max, Bool, true, false, cond, leb, eqb, List, [], ◌∷◌, Some, None, refl, sym, ap, ◌∙◌, subst, inl, inr, arith}
use Rattle.std.specs.List.{filter, find, fold, AllByRecursion as Each, range_with_len}
use Rattle.std.proofs.lemmas.Bool.{eqb-true, eqb-false, ne_eqb, leb-true, cases_eq, cases_lt, false≢true}
use Rattle.std.proofs.lemmas.Nat.{mul-le}
use Rattle.sub_heaps.specs.declared.objects.Object.{Object}
use Rattle.sub_heaps.specs.ByPlace.{end_of}
use Rattle.sub_heaps.specs.SubHeaps.{SubHeaps, LiesInOne, StandFrom, IsSound, objects_in}
use Rattle.sub_heaps.proofs.Blocks.{place_parts, mod_below, number_is}
use Rattle.sub_heaps.proofs.Standing.{Each-weaker, Each-both, StandFrom-weaker, StandFrom-raise, each_inside}
use Rattle.sub_heaps.proofs.Taken.{find_each}
use Rattle.move_plan.specs.Stretches.{room_in}
use Rattle.move_plan.proofs.Rest.{rest_from, rest_more}
use Rattle.move_plan.proofs.Sweep.{room_from, stretches-room_from}

-- ---- what passes a test

pub Each-filter : {X : Type 0} (P : X → Type 0) (p : X → Bool) (xs : List X) → Each P xs → Each P (filter p xs)
Each-filter P p [] each = tt
Each-filter P p (x ∷ xs) each = elim (p x) as (λ t. Each P (cond t (x ∷ filter p xs) (filter p xs))) [ true ↦ (each.0, Each-filter P p xs each.1) | false ↦ Each-filter P p xs each.1 ]

pub filter-Each : {X : Type 0} (P : X → Type 0) (p : X → Bool) (xs : List X) → Each P (filter p xs) → Each (λ x. p x ≡ true → P x) xs
filter-Each P p [] each = tt
filter-Each P p (x ∷ xs) each =
    elim (p x) as (λ t. p x ≡ t → Each P (cond t (x ∷ filter p xs) (filter p xs)) → Each (λ x. p x ≡ true → P x) (x ∷ xs)) [
      | true ↦ λ is each. (λ _. each.0, filter-Each P p xs each.1)
      | false ↦ λ is each. (λ passes. absurd (false≢true (sym is ∙ passes)), filter-Each P p xs each)
    ] refl each

pub filter_passing : {X : Type 0} (p : X → Bool) (xs : List X) → Each (λ x. p x ≡ true) (filter p xs)
filter_passing p [] = tt
filter_passing p (x ∷ xs) = elim (p x) as (λ t. p x ≡ t → Each (λ x. p x ≡ true) (cond t (x ∷ filter p xs) (filter p xs))) [ true ↦ λ is. (is, filter_passing p xs) | false ↦ λ is. filter_passing p xs ] refl

module _ (count size : ℕ) where
  pub stand_filter : (p : Object → Bool) (low : ℕ) (xs : List Object) → StandFrom count size low xs → StandFrom count size low (filter p xs)
  stand_filter p low [] stand = tt
  stand_filter p low (x ∷ xs) stand =
      elim (p x) as (λ t. StandFrom count size low (cond t (x ∷ filter p xs) (filter p xs))) [
        | true ↦ (stand.0, stand.1, stand.2, stand_filter p (end_of x) xs stand.3)
        | false ↦ StandFrom-weaker count size low (end_of x) (filter p xs) (omega (arith, stand.0)) (stand_filter p (end_of x) xs stand.3)
      ]

-- ---- the objects of a sub-heap

module _ (h : SubHeaps) (sound : IsSound h) where
  pub has_bytes : 0 < h.size
  has_bytes = omega (arith, sound.shape.size_least)

  -- they stand in it in order
  pub number_of_each : (k : ℕ) → Each (λ o. o.at / h.size ≡ k) (objects_in h k)
  number_of_each k = Each-weaker (λ o. eqb (o.at / h.size) k ≡ true) _ (λ o is. eqb-true (o.at / h.size) k is) (objects_in h k) (filter_passing (λ o. eqb (o.at / h.size) k) h.objects)

  pub start_of_each : (k : ℕ) → Each (λ o. k * h.size ≤ o.at) (objects_in h k)
  start_of_each k = Each-weaker (λ o. o.at / h.size ≡ k) _ (λ o is. let parts : k * h.size + o.at % h.size ≡ o.at = rw is at (place_parts h.size has_bytes o.at) in omega (arith, parts)) (objects_in h k) (number_of_each k)

  pub end_of_each : (k : ℕ) → Each (λ o. end_of o ≤ k * h.size + h.size) (objects_in h k)
  end_of_each k =
      Each-both (λ o. o.at / h.size ≡ k) (λ o. LiesInOne h.count h.size o.size o.at) _
      (λ o is lies. let parts : k * h.size + o.at % h.size ≡ o.at = rw is at (place_parts h.size has_bytes o.at) in omega (arith, parts, lies.1))
      (objects_in h k) (number_of_each k) (Each-filter (λ o. LiesInOne h.count h.size o.size o.at) (λ o. eqb (o.at / h.size) k) h.objects (each_inside h.count h.size 0 h.objects sound.stand))

  pub stand_in : (k : ℕ) → StandFrom h.count h.size (k * h.size) (objects_in h k)
  stand_in k = StandFrom-raise h.count h.size 0 (k * h.size) (objects_in h k) (start_of_each k) (stand_filter h.count h.size (λ o. eqb (o.at / h.size) k) 0 h.objects sound.stand)

  pub end_bounded : (k : ℕ) → k < h.count → k * h.size + h.size ≤ 268435456
  end_bounded k lt = omega (arith, mul-le (k + 1) h.size h.count h.size (omega arith) (omega arith), sound.shape.whole_bounded)

  -- the room of the sub-heap by the walk
  pub room_in-room_from : (pinned : ℕ → Bool) (k : ℕ) → room_in pinned h k ≡ room_from pinned (k * h.size) 0 (k * h.size + h.size) 0 (objects_in h k)
  room_in-room_from pinned k =
      let starts : Each (λ o. o.at < k * h.size + h.size) (objects_in h k) =
      Each-weaker (λ o. o.at / h.size ≡ k) _ (λ o is. let parts : k * h.size + o.at % h.size ≡ o.at = rw is at (place_parts h.size has_bytes o.at) in omega (arith, parts, mod_below h.size has_bytes o.at)) (objects_in h k) (number_of_each k) in
      stretches-room_from pinned h.count h.size (k * h.size + h.size) (k * h.size) 0 0 (k * h.size) [] (objects_in h k) (omega arith) (stand_in k) tt starts refl

-- ---- the greatest of numbers

abbrev pub greatest_from : (ℕ → ℕ) → (best low n : ℕ) → ℕ
greatest_from f best low n = fold (λ best k. max best (f k)) best (range_with_len low n)

pub best-le-greatest : (f : ℕ → ℕ) (best low n : ℕ) → best ≤ greatest_from f best low n
best-le-greatest f best low zero = omega arith
best-le-greatest f best low (suc n) = omega (arith, best-le-greatest f (max best (f low)) (low + 1) n)

pub each-le-greatest : (f : ℕ → ℕ) (best low n k : ℕ) → low ≤ k → k < low + n → f k ≤ greatest_from f best low n
each-le-greatest f best low zero k le lt = absurd (omega arith)
each-le-greatest f best low (suc n) k le lt = elim (cases_eq low k) [
  | inl here ↦ let first : f k ≤ max best (f low) = rw here (omega arith) in omega (arith, first, best-le-greatest f (max best (f low)) (low + 1) n)
  | inr later ↦ each-le-greatest f (max best (f low)) (low + 1) n k (omega arith) (omega arith)
]

-- it is one of them, or what it began with
pub greatest_is : (f : ℕ → ℕ) (best low n : ℕ) → (greatest_from f best low n ≡ best) ⊎ ((k : ℕ) × (k < low + n) × (greatest_from f best low n ≡ f k))
greatest_is f best low zero = inl refl
greatest_is f best low (suc n) = from_rest (greatest_is f (max best (f low)) (low + 1) n)
  where
    from_rest : (greatest_from f (max best (f low)) (low + 1) n ≡ max best (f low)) ⊎ ((k : ℕ) × (k < low + 1 + n) × (greatest_from f (max best (f low)) (low + 1) n ≡ f k)) → (greatest_from f best low (suc n) ≡ best) ⊎ ((k : ℕ) × (k < low + suc n) × (greatest_from f best low (suc n) ≡ f k))
    from_rest (inr later) = inr (later.0, omega (arith, later.1), later.2)
    from_rest (inl first) = elim (cases_lt best (f low)) [
      | inl above ↦ inr (low, omega arith, omega (arith, first))
      | inr below ↦ inl (omega (arith, first))
    ]

pub greatest-same : (f g : ℕ → ℕ) → ((k : ℕ) → f k ≡ g k) → (best low n : ℕ) → greatest_from f best low n ≡ greatest_from g best low n
greatest-same f g same best low zero = refl
greatest-same f g same best low (suc n) = ap (λ m. greatest_from f (max best m) (low + 1) n) (same low) ∙ greatest-same f g same (max best (g low)) (low + 1) n

-- a step of a walk over the objects of a sub-heap
pub record IsStepIn (h : SubHeaps) (k from : ℕ) (o : Object) : Type 0 where
  pub left : rest_from from (objects_in h k) ≡ o ∷ rest_from (end_of o) (objects_in h k)
  pub above : from ≤ o.at
  pub within : end_of o ≤ k * h.size + h.size

pub IsStepIn-found : (h : SubHeaps) → IsSound h → (k from : ℕ) (o : Object) → Some o ≡ find (λ o. leb from o.at) (objects_in h k) → IsStepIn h k from o
IsStepIn-found h sound k from o found =
    let goes = rest_more h.count h.size from (k * h.size) (objects_in h k) o (stand_in h sound k) (sym found) in
    record { left = goes.left; above = goes.above; within = find_each (λ o. end_of o ≤ k * h.size + h.size) (λ o. leb from o.at) (objects_in h k) o (sym found) (end_of_each h sound k) }

-- ---- the next object of a sub-heap

module _ (count size : ℕ) (some : 0 < size) (k from : ℕ) (le : k * size ≤ from) where
  -- where an object above the place lies in another sub-heap, so do all above it
  pub none_above : (low : ℕ) (xs : List Object) → StandFrom count size low xs → k * size + size ≤ low → filter (λ o. eqb (o.at / size) k) xs ≡ []
  none_above low [] stand high = refl
  none_above low (x ∷ xs) stand high =
      let other : eqb (x.at / size) k ≡ false = ne_eqb (x.at / size) k (λ same. absurd (let parts : k * size + x.at % size ≡ x.at = rw same at (place_parts size some x.at) in omega (arith, parts, mod_below size some x.at, stand.0))) in
      rw other (none_above (end_of x) xs stand.3 (omega (arith, stand.0)))

  -- a place in no lower sub-heap than k, and not in k, lies above k
  above_number : (at : ℕ) → from ≤ at → at / size ≢ k → k * size + size ≤ at
  above_number at high other = elim (cases_lt at (k * size + size)) [
    | inl lt ↦ absurd (other (number_is size some k at (omega arith) lt))
    | inr ge ↦ ge
  ]

  -- the first object above the place is of the sub-heap, or none is
  at_first : (x : Object) (xs : List Object) → leb from x.at ≡ true → StandFrom count size (end_of x) xs → find (λ o. leb from o.at) (filter (λ o. eqb (o.at / size) k) (x ∷ xs)) ≡ cond (eqb (x.at / size) k) (Some x) None
  at_first x xs is stand =
      elim (eqb (x.at / size) k) as (λ t. eqb (x.at / size) k ≡ t → find (λ o. leb from o.at) (cond t (x ∷ filter (λ o. eqb (o.at / size) k) xs) (filter (λ o. eqb (o.at / size) k) xs)) ≡ cond t (Some x) None) [
        | true ↦ λ here. rw is refl
        | false ↦ λ other. rw (none_above (end_of x) xs stand (omega (arith, above_number x.at (leb-true from x.at is) (eqb-false (x.at / size) k other)))) refl
      ] refl

  pub find-none_in : (xs : List Object) → find (λ o. leb from o.at) xs ≡ None → find (λ o. leb from o.at) (filter (λ o. eqb (o.at / size) k) xs) ≡ None
  find-none_in [] none = refl
  find-none_in (x ∷ xs) none =
      elim (leb from x.at) as (λ t. leb from x.at ≡ t → cond t (Some x) (find (λ o. leb from o.at) xs) ≡ None → find (λ o. leb from o.at) (filter (λ o. eqb (o.at / size) k) (x ∷ xs)) ≡ None) [
        | true ↦ λ is none. absurd cc
        | false ↦ λ is none. elim (eqb (x.at / size) k) as (λ t. find (λ o. leb from o.at) (cond t (x ∷ filter (λ o. eqb (o.at / size) k) xs) (filter (λ o. eqb (o.at / size) k) xs)) ≡ None) [
          | true ↦ rw is (find-none_in xs none)
          | false ↦ find-none_in xs none
        ]
      ] refl none

  pub find-some_in : (low : ℕ) (xs : List Object) (o : Object) → StandFrom count size low xs → find (λ o. leb from o.at) xs ≡ Some o → find (λ o. leb from o.at) (filter (λ o. eqb (o.at / size) k) xs) ≡ cond (eqb (o.at / size) k) (Some o) None
  find-some_in low [] o stand found = absurd cc
  find-some_in low (x ∷ xs) o stand found =
      elim (leb from x.at) as (λ t. leb from x.at ≡ t → cond t (Some x) (find (λ o. leb from o.at) xs) ≡ Some o → find (λ o. leb from o.at) (filter (λ o. eqb (o.at / size) k) (x ∷ xs)) ≡ cond (eqb (o.at / size) k) (Some o) None) [
        | true ↦ λ is found. let same : x ≡ o = cc in subst (λ (y : Object). find (λ o. leb from o.at) (filter (λ o. eqb (o.at / size) k) (x ∷ xs)) ≡ cond (eqb (y.at / size) k) (Some y) None) same (at_first x xs is stand.3)
        | false ↦ λ is found. elim (eqb (x.at / size) k) as (λ t. find (λ o. leb from o.at) (cond t (x ∷ filter (λ o. eqb (o.at / size) k) xs) (filter (λ o. eqb (o.at / size) k) xs)) ≡ cond (eqb (o.at / size) k) (Some o) None) [
          | true ↦ rw is (find-some_in (end_of x) xs o stand.3 found)
          | false ↦ find-some_in (end_of x) xs o stand.3 found
        ]
      ] refl found
