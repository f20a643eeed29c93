use Rattle.std.proofs.Common.{◌≡◌, sym, ap, subst, arith}
use Rattle.sub_heaps.specs.SubHeaps.{SubHeaps, FitsAt, IsLowestFit}
use Rattle.sub_heaps.specs.inner.Order.{last_end}
use Rattle.sub_heaps.specs.inner.Pools.{heaps_of}
use Rattle.sub_heaps.specs.inner.Trees.{objects_of}
use Rattle.sub_heaps.proofs.Fits.{objects_in_order, last_inside, gap_is_lowest, above_is_lowest, fits_nowhere}
use Rattle.sub_heaps.proofs.Gaps.{IsFirstInside}
use Rattle.sub_heaps.proofs.Kept.{tree_ordered}
use Rattle.sub_heaps.proofs.placement.Heaps.lowest_fit.Goals as goal
use Rattle.sub_heaps.proofs.placement.Heaps.lowest_fit.Goals.{After-first_inside-at}

pub lowest_before-requires-clause-order : goal.lowest_before-requires-clause-order
lowest_before-requires-clause-order c = objects_in_order (heaps_of c.self.inside.count c.self.inside.size c.self.inside.most c.self.inside.tree) c.self.invariant.sound

pub returns-in-Some-clause-lowest : goal.returns-in-Some-clause-lowest
returns-in-Some-clause-lowest c =
    subst (λ h. IsLowestFit h c.args.bytes c.in-Some.at) c.self.view_is (gap_is_lowest (heaps_of c.self.inside.count c.self.inside.size c.self.inside.most c.self.inside.tree) c.self.invariant.sound c.args.bytes (omega arith) c.in-Some.at c.in-Some.ensures.lowest)

-- ---- above all objects

pub first_inside-at-requires-clause-bound : goal.first_inside-at-requires-clause-bound
first_inside-at-requires-clause-bound c =
    let end = c.end.ensures c.self.inside.size c.self.invariant.balanced in
    let ordered = tree_ordered c.self.inside.count c.self.inside.size c.self.inside.most c.self.inside.tree _ _ c.self.invariant in
    omega (arith, end, last_inside (heaps_of c.self.inside.count c.self.inside.size c.self.inside.most c.self.inside.tree) c.self.invariant.sound, c.self.invariant.sound.shape.whole_bounded, ordered.bounded)

pub overflow_add-at : goal.overflow_add-at
overflow_add-at c =
    let end = c.end.ensures c.self.inside.size c.self.invariant.balanced in
    let ordered = tree_ordered c.self.inside.count c.self.inside.size c.self.inside.most c.self.inside.tree _ _ c.self.invariant in
    let size : c.self.inside.size ≡ c.args.self.now.size = ap (λ (h : SubHeaps). h.size) c.self.view_is in
    omega (arith, end, size, last_inside (heaps_of c.self.inside.count c.self.inside.size c.self.inside.most c.self.inside.tree) c.self.invariant.sound, c.self.invariant.sound.shape.whole_bounded, ordered.bounded, c.first_inside-at.ensures.bound, c.requires.within)

first_inside : (c : After-first_inside-at) → IsFirstInside c.self.inside.size c.args.bytes (last_end 0 (objects_of c.self.inside.tree)) c.first_inside-at.result
first_inside c =
    let end = c.end.ensures c.self.inside.size c.self.invariant.balanced in
    record {
      above = omega (arith, end, c.first_inside-at.ensures.above);
      inside = c.first_inside-at.ensures.inside;
      lowest = λ other above inside. c.first_inside-at.ensures.lowest other (omega (arith, end, above)) inside;
    }

pub returns-then-at-bytes-clause-lowest : goal.returns-then-at-bytes-clause-lowest
returns-then-at-bytes-clause-lowest c =
    subst (λ h. IsLowestFit h c.args.bytes c.first_inside-at.result) c.self.view_is
    (above_is_lowest (heaps_of c.self.inside.count c.self.inside.size c.self.inside.most c.self.inside.tree) c.self.invariant.sound c.args.bytes (omega arith) c.in_default.ensures.none c.first_inside-at.result (first_inside (goal.at.returns-then-at-bytes-clause-lowest c).After-first_inside-at) (omega (arith, c.if-at-bytes.true)))

pub returns-else-at-bytes-clause-none : goal.returns-else-at-bytes-clause-none
returns-else-at-bytes-clause-none c = λ at fits.
    fits_nowhere (heaps_of c.self.inside.count c.self.inside.size c.self.inside.most c.self.inside.tree) c.self.invariant.sound c.args.bytes (omega arith) c.in_default.ensures.none c.first_inside-at.result (first_inside (goal.at.returns-else-at-bytes-clause-none c).After-first_inside-at) (omega (arith, c.if-at-bytes.false)) at
    (subst (λ h. FitsAt h c.args.bytes at) (sym c.self.view_is) fits)
