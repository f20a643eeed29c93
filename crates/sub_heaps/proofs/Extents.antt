-- The extent of objects in order: each adds what it reaches above the end of the one before it, or above its own sub-heap's start.
use Rattle.std.proofs.Common.{◌≡◌, ℕ, zero, suc, ◌+◌, ◌-◌, ◌*◌, ◌/◌, ◌%◌, ◌<◌, ◌≤◌, ◌≢◌, max, true, false, cond, eqb, List, [], ◌∷◌, refl, sym, inl, inr, ◌⊎◌, arith}
use Rattle.std.specs.List.{filter, fold, sum_by, range_with_len}
use Rattle.std.proofs.Math.Nat.{div-lt_iff_lt-mul}
use Rattle.std.proofs.lemmas.Bool.{cases_eq, eq-eqb, ne_eqb, cases_lt}
use Rattle.std.proofs.lemmas.List.Sums.{sum_by-cons}
use Rattle.std.proofs.lemmas.Nat.{mul-le}
use Rattle.sub_heaps.specs.declared.objects.Object.{Object}
use Rattle.sub_heaps.specs.ByPlace.{end_of}
use Rattle.sub_heaps.specs.SubHeaps.{SubHeaps, LiesInOne, StandFrom, IsSound, extent_of}
use Rattle.sub_heaps.specs.inner.Summaries.{extent_from}
use Rattle.sub_heaps.proofs.Blocks.{place_parts}

-- ---- sums over the numbers from `low` on

abbrev pub sum_from : (ℕ → ℕ) → ℕ → ℕ → ℕ
sum_from f low n = sum_by f (range_with_len low n)

pub sum_from-same : (f g : ℕ → ℕ) → ((k : ℕ) → f k ≡ g k) → (low n : ℕ) → sum_from f low n ≡ sum_from g low n
sum_from-same f g same low zero = refl
sum_from-same f g same low (suc n) =
    omega (arith, sum_by-cons f low (range_with_len (low + 1) n), sum_by-cons g low (range_with_len (low + 1) n), same low, sum_from-same f g same (low + 1) n)

pub sum_from-zero : (low n : ℕ) → sum_from (λ _. 0) low n ≡ 0
sum_from-zero low zero = refl
sum_from-zero low (suc n) = omega (arith, sum_by-cons (λ _. 0) low (range_with_len (low + 1) n), sum_from-zero (low + 1) n)

-- a function that differs at numbers below `low` only has the same sum
pub sum_from-above : (f g : ℕ → ℕ) (k : ℕ) → ((j : ℕ) → j ≢ k → g j ≡ f j) → (low n : ℕ) → k < low → sum_from g low n ≡ sum_from f low n
sum_from-above f g k others low zero below = refl
sum_from-above f g k others low (suc n) below =
    omega (arith, sum_by-cons f low (range_with_len (low + 1) n), sum_by-cons g low (range_with_len (low + 1) n), others low (omega arith), sum_from-above f g k others (low + 1) n (omega arith))

-- one that is greater at one number has a sum as much greater
pub sum_from-raise : (f g : ℕ → ℕ) (k more : ℕ) → g k ≡ f k + more → ((j : ℕ) → j ≢ k → g j ≡ f j) → (low n : ℕ) → low ≤ k → k < low + n → sum_from g low n ≡ sum_from f low n + more
sum_from-raise f g k more at others low zero le lt = absurd (omega arith)
sum_from-raise f g k more at others low (suc n) le lt = elim (cases_eq low k) [
  | inl here ↦
      let raised : g low ≡ f low + more = rw here at_low in
      omega (arith, sum_by-cons f low (range_with_len (low + 1) n), sum_by-cons g low (range_with_len (low + 1) n), raised, sum_from-above f g k others (low + 1) n (omega arith))
  | inr later ↦
      omega (arith, sum_by-cons f low (range_with_len (low + 1) n), sum_by-cons g low (range_with_len (low + 1) n), others low later, sum_from-raise f g k more at others (low + 1) n (omega arith) (omega arith))
]
  where
    at_low : g k ≡ f k + more
    at_low = at

-- ---- the extent by one walk

-- the distance that sub-heap k's objects reach, from what was reached so far
abbrev pub reach_from : (size best k : ℕ) → List Object → ℕ
reach_from size best k xs = fold (λ best o. max best (end_of o - k * size)) best (filter (λ o. eqb (o.at / size) k) xs)

-- what is reached in each sub-heap, after one object more
abbrev pub with_reach : (size : ℕ) → Object → (ℕ → ℕ) → ℕ → ℕ
with_reach size o best k = cond (eqb (o.at / size) k) (max (best k) (end_of o - k * size)) (best k)

-- in the sub-heap of the last end and in those above it, the distance reached is that of the last end
abbrev pub Reaches : (size end : ℕ) → (ℕ → ℕ) → Type 0
Reaches size end best = (k : ℕ) → end ≤ k * size + size → k * size + best k ≡ max (k * size) end

reach_from-cons : (size : ℕ) (o : Object) (os : List Object) (best : ℕ → ℕ) (k : ℕ) → reach_from size (best k) k (o ∷ os) ≡ reach_from size (with_reach size o best k) k os
reach_from-cons size o os best k =
    elim (eqb (o.at / size) k) as (λ t. fold (λ best o. max best (end_of o - k * size)) (best k) (cond t (o ∷ filter (λ o. eqb (o.at / size) k) os) (filter (λ o. eqb (o.at / size) k) os)) ≡ fold (λ best o. max best (end_of o - k * size)) (cond t (max (best k) (end_of o - k * size)) (best k)) (filter (λ o. eqb (o.at / size) k) os)) [
      | true ↦ refl
      | false ↦ refl
    ]

module _ (count size : ℕ) (some : 0 < size) where
  -- one object more reaches as far above its sub-heap's start or the last end as the walk adds
  with_reach-at : (o : Object) (end : ℕ) (best : ℕ → ℕ) → end ≤ o.at → 0 < o.size → LiesInOne count size o.size o.at → Reaches size end best → with_reach size o best (o.at / size) ≡ best (o.at / size) + (end_of o - max (o.at - o.at % size) end)
  with_reach-at o end best le has lies reaches =
      let k = o.at / size in
      let same : eqb (o.at / size) k ≡ true = eq-eqb (o.at / size) k refl in
      rw same (omega (arith, reaches k (omega (arith, place_parts size some o.at, lies.1)), place_parts size some o.at, lies.1))

  with_reach-other : (o : Object) (best : ℕ → ℕ) (k : ℕ) → k ≢ o.at / size → with_reach size o best k ≡ best k
  with_reach-other o best k other =
      let differs : eqb (o.at / size) k ≡ false = ne_eqb (o.at / size) k (λ same. other (sym same)) in
      rw differs refl

  with_reach-Reaches : (o : Object) (end : ℕ) (best : ℕ → ℕ) → end ≤ o.at → 0 < o.size → LiesInOne count size o.size o.at → Reaches size end best → Reaches size (end_of o) (with_reach size o best)
  with_reach-Reaches o end best le has lies reaches k above = elim (cases_eq k (o.at / size)) [
    | inl here ↦
        let same : eqb (o.at / size) k ≡ true = eq-eqb (o.at / size) k (sym here) in
        let start : k * size + o.at % size ≡ o.at = rw here (place_parts size some o.at) in
        rw same (omega (arith, reaches k (omega arith), start))
    | inr other ↦ rw (with_reach-other o best k other) (elsewhere (cases_lt k (o.at / size)) other)
  ]
    where
      elsewhere : (k < o.at / size) ⊎ (o.at / size ≤ k) → k ≢ o.at / size → k * size + best k ≡ max (k * size) (end_of o)
      elsewhere (inl lower) other = absurd (omega (arith, mul-le (k + 1) size (o.at / size) size (omega arith) (omega arith), place_parts size some o.at))
      elsewhere (inr higher) other = omega (arith, mul-le (o.at / size + 1) size k size (omega arith) (omega arith), place_parts size some o.at, lies.1, reaches k (omega arith))

  -- what is reached in all sub-heaps together, from what was reached so far
  reach_from-extent_from : (end : ℕ) (xs : List Object) → StandFrom count size end xs → (best : ℕ → ℕ) → Reaches size end best → sum_from (λ k. reach_from size (best k) k xs) 0 count ≡ sum_from best 0 count + extent_from size end xs
  reach_from-extent_from end [] stand best reaches = omega arith
  reach_from-extent_from end (o ∷ os) stand best reaches =
      let has : 0 < o.size = omega (arith, stand.2) in
      let number : o.at / size < count = (div-lt_iff_lt-mul some).1 stand.1.0 in
      let first = sum_from-same (λ k. reach_from size (best k) k (o ∷ os)) (λ k. reach_from size (with_reach size o best k) k os) (reach_from-cons size o os best) 0 count in
      let rest = reach_from-extent_from (end_of o) os stand.3 (with_reach size o best) (with_reach-Reaches o end best stand.0 has stand.1 reaches) in
      let raised = sum_from-raise best (with_reach size o best) (o.at / size) (end_of o - max (o.at - o.at % size) end) (with_reach-at o end best stand.0 has stand.1 reaches) (with_reach-other o best) 0 count (omega arith) (omega arith) in
      omega (arith, first, rest, raised)

pub extent_from-extent_of : (h : SubHeaps) → IsSound h → extent_from h.size 0 h.objects ≡ extent_of h
extent_from-extent_of h sound =
    let whole = reach_from-extent_from h.count h.size (omega (arith, sound.shape.size_least)) 0 h.objects sound.stand (λ _. 0) (λ k above. omega arith) in
    omega (arith, whole, sum_from-zero 0 h.count)
