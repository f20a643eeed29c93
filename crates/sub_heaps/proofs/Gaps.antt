-- The search for the lowest gap: what lies in a gap is no longer than the longest one, and the gaps of a node are those of its left side, the one before its object, and those of its right side.
use Rattle.std.proofs.Common.{◌≡◌, ℕ, ◌+◌, ◌-◌, ◌/◌, ◌%◌, ◌<◌, ◌≤◌, max, min, List, [], ◌∷◌, ◌++◌, ◌⊎◌, inl, inr, refl, arith}
use Rattle.std.proofs.lemmas.Bool.{cases_lt}
use Rattle.std.proofs.lemmas.Bool.Decides.{nat_tests}
use Rattle.sub_heaps.specs.declared.objects.Object.{Object}
use Rattle.sub_heaps.specs.ByPlace.{end_of}
use Rattle.sub_heaps.specs.inner.Order.{InOrder, last_end}
use Rattle.sub_heaps.specs.inner.Gaps.{sub_heap_end, widest, longest_from, longest_among, LiesBefore, IsGapBefore, IsLowestBefore}
use Rattle.sub_heaps.specs.inner.Summaries.{first_start}
use Rattle.sub_heaps.proofs.Blocks.{place_parts, number_is}
use Rattle.sub_heaps.proofs.Order.{IsCons, InOrder-left, InOrder-right, from-le-last}

widest_low : (size from to : ℕ) → to ≤ sub_heap_end size from → widest size from to ≡ to - from
widest_low size from to low = grind (arith, nat_tests)

widest_high : (size from to : ℕ) → sub_heap_end size from < to → widest size from to ≡ max (sub_heap_end size from - from) (min size (to - sub_heap_end size from))
widest_high size from to high = grind (arith, nat_tests)

-- what starts below the end of a sub-heap, at or above a place in it, and lies in one, ends there
ends_within : (size from bytes at : ℕ) → 0 < size → from ≤ at → at % size + bytes ≤ size → at < sub_heap_end size from → at + bytes ≤ sub_heap_end size from
ends_within size from bytes at some low inside below =
    let parts = place_parts size some from in
    let same : at / size ≡ from / size = number_is size some (from / size) at (omega (arith, parts)) (omega (arith, parts)) in
    omega (arith, parts, rw same at (place_parts size some at))

-- what lies in one sub-heap between two places is no longer than the most that do
pub widest_bounds : (size from to bytes at : ℕ) → 0 < size → from ≤ at → at + bytes ≤ to → at % size + bytes ≤ size → bytes ≤ widest size from to
widest_bounds size from to bytes at some low fits inside = elim (cases_lt (sub_heap_end size from) to) [
  | inl high ↦ elim (cases_lt at (sub_heap_end size from)) [
    | inl below ↦ omega (arith, widest_high size from to high, ends_within size from bytes at some low inside below)
    | inr above ↦ omega (arith, widest_high size from to high)
  ]
  | inr within ↦ omega (arith, widest_low size from to within)
]

pub gap_bounded : (size bytes from : ℕ) (xs : List Object) (at : ℕ) → 0 < size → at % size + bytes ≤ size → LiesBefore bytes from xs at → bytes ≤ longest_from size from xs
gap_bounded size bytes from [] at some inside lies = absurd lies
gap_bounded size bytes from (o ∷ os) at some inside (inl here) = omega (arith, widest_bounds size from o.at bytes at some here.0 here.1 inside)
gap_bounded size bytes from (o ∷ os) at some inside (inr later) = omega (arith, gap_bounded size bytes (end_of o) os at some inside later)

pub longest_known : (size from : ℕ) (xs : List Object) → IsCons xs → longest_from size from xs ≡ max (widest size from (first_start xs)) (longest_among size xs)
longest_known size from [] has = absurd has
longest_known size from (o ∷ os) has = refl

-- ---- gaps of two lists, one behind the other

pub LiesBefore-left : (bytes from : ℕ) (xs ys : List Object) (at : ℕ) → LiesBefore bytes from xs at → LiesBefore bytes from (xs ++ ys) at
LiesBefore-left bytes from [] ys at lies = absurd lies
LiesBefore-left bytes from (o ∷ os) ys at (inl here) = inl here
LiesBefore-left bytes from (o ∷ os) ys at (inr later) = inr (LiesBefore-left bytes (end_of o) os ys at later)

pub LiesBefore-right : (bytes from : ℕ) (xs ys : List Object) (at : ℕ) → LiesBefore bytes (last_end from xs) ys at → LiesBefore bytes from (xs ++ ys) at
LiesBefore-right bytes from [] ys at lies = lies
LiesBefore-right bytes from (o ∷ os) ys at lies = inr (LiesBefore-right bytes (end_of o) os ys at lies)

pub LiesBefore-split : (bytes from : ℕ) (xs ys : List Object) (at : ℕ) → LiesBefore bytes from (xs ++ ys) at → LiesBefore bytes from xs at ⊎ LiesBefore bytes (last_end from xs) ys at
LiesBefore-split bytes from [] ys at lies = inr lies
LiesBefore-split bytes from (o ∷ os) ys at (inl here) = inl (inl here)
LiesBefore-split bytes from (o ∷ os) ys at (inr later) = elim (LiesBefore-split bytes (end_of o) os ys at later) [
  | inl left ↦ inl (inr left)
  | inr right ↦ inr right
]

-- a gap lies above the place where the list begins, and below its last end
pub gap_above : (bytes from : ℕ) (xs : List Object) (at : ℕ) → InOrder from xs → LiesBefore bytes from xs at → from ≤ at
gap_above bytes from [] at order lies = absurd lies
gap_above bytes from (o ∷ os) at order (inl here) = here.0
gap_above bytes from (o ∷ os) at order (inr later) = omega (arith, order.0, order.1, gap_above bytes (end_of o) os at order.2 later)

pub gap_below : (bytes from : ℕ) (xs : List Object) (at : ℕ) → InOrder from xs → LiesBefore bytes from xs at → at + bytes ≤ last_end from xs
gap_below bytes from [] at order lies = absurd lies
gap_below bytes from (o ∷ os) at order (inl here) = omega (arith, here.1, order.1, from-le-last (end_of o) os order.2)
gap_below bytes from (o ∷ os) at order (inr later) = gap_below bytes (end_of o) os at order.2 later

-- ---- the gaps of a node

-- the lowest place at or above another that lies in one sub-heap
pub record IsFirstInside (size bytes from at : ℕ) : Type 0 where
  pub above : from ≤ at
  pub inside : at % size + bytes ≤ size
  pub lowest : (other : ℕ) → from ≤ other → other % size + bytes ≤ size → at ≤ other

module _ (size bytes from : ℕ) (xs : List Object) (o : Object) (ys : List Object) (order : InOrder from (xs ++ o ∷ ys)) where
  right_order : InOrder (last_end from xs) (o ∷ ys)
  right_order = InOrder-right from xs (o ∷ ys) order

  pub left_lowest : (at : ℕ) → IsLowestBefore size bytes from xs at → IsLowestBefore size bytes from (xs ++ o ∷ ys) at
  left_lowest at is = record {
    gap = (is.gap.0, LiesBefore-left bytes from xs (o ∷ ys) at is.gap.1);
    lowest = λ other gap. elim (LiesBefore-split bytes from xs (o ∷ ys) other gap.1) [
      | inl left ↦ is.lowest other (gap.0, left)
      | inr right ↦ omega (arith, gap_below bytes from xs at (InOrder-left from xs (o ∷ ys) order) is.gap.1, gap_above bytes (last_end from xs) (o ∷ ys) other right_order right)
    ];
  }

  module _ (none : (at : ℕ) → IsGapBefore size bytes from xs at → ⊥) (at : ℕ) (first : IsFirstInside size bytes (last_end from xs) at) where
    pub own_lowest : at + bytes ≤ o.at → IsLowestBefore size bytes from (xs ++ o ∷ ys) at
    own_lowest fits = record {
      gap = (first.inside, LiesBefore-right bytes from xs (o ∷ ys) at (inl (first.above, fits)));
      lowest = λ other gap. elim (LiesBefore-split bytes from xs (o ∷ ys) other gap.1) [
        | inl left ↦ absurd (none other (gap.0, left))
        | inr right ↦ first.lowest other (gap_above bytes (last_end from xs) (o ∷ ys) other right_order right) gap.0
      ];
    }

    -- where it isn't in the gap before the object, it is one of the right side
    later : o.at < at + bytes → (other : ℕ) → IsGapBefore size bytes from (xs ++ o ∷ ys) other → IsGapBefore size bytes (end_of o) ys other
    later over other gap = elim (LiesBefore-split bytes from xs (o ∷ ys) other gap.1) [
      | inl left ↦ absurd (none other (gap.0, left))
      | inr right ↦ elim right [
        | inl own ↦ absurd (omega (arith, first.lowest other own.0 gap.0, own.1))
        | inr behind ↦ (gap.0, behind)
      ]
    ]

    pub right_lowest : o.at < at + bytes → (best : ℕ) → IsLowestBefore size bytes (end_of o) ys best → IsLowestBefore size bytes from (xs ++ o ∷ ys) best
    right_lowest over best is = record {
      gap = (is.gap.0, LiesBefore-right bytes from xs (o ∷ ys) best (inr is.gap.1));
      lowest = λ other gap. is.lowest other (later over other gap);
    }

    pub right_none : o.at < at + bytes → ((other : ℕ) → IsGapBefore size bytes (end_of o) ys other → ⊥) → (other : ℕ) → IsGapBefore size bytes from (xs ++ o ∷ ys) other → ⊥
    right_none over nothing other gap = nothing other (later over other gap)
