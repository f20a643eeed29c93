-- Where an object fits: in a gap before an object, or above all of them.
use Rattle.std.proofs.Common.{ℕ, ◌+◌, ◌*◌, ◌<◌, ◌≤◌, List, [], ◌∷◌, ◌⊎◌, inl, inr, arith}
use Rattle.std.specs.List.{AllByRecursion as Each}
use Rattle.std.proofs.lemmas.List.Elements.{recursion_from_All}
use Rattle.sub_heaps.specs.declared.objects.Object.{Object}
use Rattle.sub_heaps.specs.ByPlace.{end_of}
use Rattle.sub_heaps.specs.SubHeaps.{SubHeaps, LiesInOne, IsApartFrom, StandFrom, FitsAt, IsLowestFit, IsSound}
use Rattle.sub_heaps.specs.inner.Order.{InOrder, last_end}
use Rattle.sub_heaps.specs.inner.Gaps.{LiesBefore, IsGapBefore, IsLowestBefore}
use Rattle.sub_heaps.proofs.Blocks.{end_inside}
use Rattle.sub_heaps.proofs.Gaps.{IsFirstInside, gap_above, gap_below}
use Rattle.sub_heaps.proofs.Standing.{Each-weaker, each_at, end_below, last_end-le, each_inside}

-- objects that stand in sub-heaps are in order
pub stand_in_order : (count size from : ℕ) (xs : List Object) → 0 < size → count * size ≤ 268435456 → from ≤ count * size → StandFrom count size from xs → InOrder from xs
stand_in_order count size from [] some bounded low stand = omega arith
stand_in_order count size from (o ∷ os) some bounded low stand =
    (stand.0, omega (arith, stand.2), stand_in_order count size (end_of o) os some bounded (end_inside size some count o.size o.at stand.1) stand.3)

-- what is apart from each object lies in a gap before one, or above the last end
apart_lies : (bytes from : ℕ) (xs : List Object) (at : ℕ) → from ≤ at → Each (IsApartFrom bytes at) xs → LiesBefore bytes from xs at ⊎ (last_end from xs ≤ at)
apart_lies bytes from [] at low apart = inr low
apart_lies bytes from (o ∷ os) at low apart = elim apart.0 [
  | inl beneath ↦ elim (apart_lies bytes (end_of o) os at beneath apart.1) [ inl gap ↦ inl (inr gap) | inr above ↦ inr above ]
  | inr over ↦ inl (inl (low, over))
]

-- and what lies in a gap is apart from each object
gap_apart : (bytes from : ℕ) (xs : List Object) (at : ℕ) → InOrder from xs → LiesBefore bytes from xs at → Each (IsApartFrom bytes at) xs
gap_apart bytes from [] at order lies = absurd lies
gap_apart bytes from (o ∷ os) at order (inl here) = (inr here.1, Each-weaker (λ y. end_of o ≤ y.at) (IsApartFrom bytes at) (λ y above. inr (omega (arith, here.1, above, order.1))) os (starts (end_of o) os order.2))
  where
    starts : (from : ℕ) (ys : List Object) → InOrder from ys → Each (λ y. from ≤ y.at) ys
    starts from ys order = Rattle.sub_heaps.proofs.Order.all_above from ys order
gap_apart bytes from (o ∷ os) at order (inr later) = (inl (gap_above bytes (end_of o) os at order.2 later), gap_apart bytes (end_of o) os at order.2 later)

module _ (h : SubHeaps) (sound : IsSound h) where
  some : 0 < h.size
  some = omega (arith, sound.shape.size_least)

  pub objects_in_order : InOrder 0 h.objects
  objects_in_order = stand_in_order h.count h.size 0 h.objects some sound.shape.whole_bounded (omega arith) sound.stand

  -- all objects end within the whole
  pub last_inside : last_end 0 h.objects ≤ h.count * h.size
  last_inside = last_end-le h.count h.size 0 (h.count * h.size) h.objects (omega arith)
      (Each-weaker (λ o. LiesInOne h.count h.size o.size o.at) (λ o. end_of o ≤ h.count * h.size) (λ o lies. end_inside h.size some h.count o.size o.at lies) h.objects (each_inside h.count h.size 0 h.objects sound.stand))

  module _ (bytes : ℕ) (has : 0 < bytes) where
    fits_somewhere : (at : ℕ) → FitsAt h bytes at → IsGapBefore h.size bytes 0 h.objects at ⊎ (last_end 0 h.objects ≤ at)
    fits_somewhere at fits = elim (apart_lies bytes 0 h.objects at (omega arith) (recursion_from_All (IsApartFrom bytes at) h.objects fits.clear)) [
      | inl gap ↦ inl (fits.inside.1, gap)
      | inr above ↦ inr above
    ]

    -- the lowest gap before an object is the lowest fit
    pub gap_is_lowest : (at : ℕ) → IsLowestBefore h.size bytes 0 h.objects at → IsLowestFit h bytes at
    gap_is_lowest at is =
        let below = gap_below bytes 0 h.objects at objects_in_order is.gap.1 in
        record {
          fits = record {
            inside = (omega (arith, below, last_inside), is.gap.0);
            clear = λ k d within. each_at (IsApartFrom bytes at) h.objects k d (gap_apart bytes 0 h.objects at objects_in_order is.gap.1) within;
          };
          lowest = λ other fits. elim (fits_somewhere other fits) [
            | inl gap ↦ is.lowest other gap
            | inr above ↦ omega (arith, below, above)
          ];
        }

    module _ (none : (at : ℕ) → IsGapBefore h.size bytes 0 h.objects at → ⊥) (at : ℕ) (first : IsFirstInside h.size bytes (last_end 0 h.objects) at) where
      -- where there is none, the first place above all objects is
      pub above_is_lowest : at + bytes ≤ h.count * h.size → IsLowestFit h bytes at
      above_is_lowest within = record {
        fits = record {
          inside = (omega (arith, within), first.inside);
          clear = λ k d inside. inl (omega (arith, first.above, each_at (λ o. end_of o ≤ last_end 0 h.objects) h.objects k d (end_below h.count h.size 0 h.objects sound.stand) inside));
        };
        lowest = λ other fits. elim (fits_somewhere other fits) [
          | inl gap ↦ absurd (none other gap)
          | inr above ↦ first.lowest other above fits.inside.1
        ];
      }

      -- unless it lies too high
      pub fits_nowhere : h.count * h.size < at + bytes → (other : ℕ) → FitsAt h bytes other → ⊥
      fits_nowhere over other fits = elim (fits_somewhere other fits) [
        | inl gap ↦ none other gap
        | inr above ↦ omega (arith, first.lowest other above fits.inside.1, end_inside h.size some h.count bytes other fits.inside, over)
      ]
