use Rattle.std.proofs.Common.{◌≡◌, ◌<◌, ◌≤◌, ◌∷◌, length, refl, subst, arith}
use Rattle.sub_heaps.specs.declared.tree.Tree.TheVariants.{Fork}
use Rattle.sub_heaps.specs.inner.Trees.{objects_of, height_of}
use Rattle.sub_heaps.proofs.Halves.{left_ordered, lowest_gone_sides, left_smaller}
use Rattle.sub_heaps.proofs.changes.+take_lowest.Goals as goal

pub take_lowest-lowest-requires : goal.take_lowest-lowest-requires
take_lowest-lowest-requires t c =
    let left : c.args.top.value.left ≡ Fork c.in-Fork.below = cc (c.parts-left.ensures.left, c.in-Fork.is) in
    let smaller = subst (λ t. length (objects_of t) < length (objects_of (Fork c.args.top))) left (left_smaller (Fork c.args.top) c.args.top refl) in
    let start : length (objects_of (Fork c.args.top)) ≡ t = c.decreases in
    let falls : length (objects_of (Fork c.in-Fork.below)) < t = omega (arith, start, smaller) in
    (falls, rw left at (left_ordered c.args.size c.args.top c.requires.ordered))

pub balance-requires-clause-sides : goal.balance-requires-clause-sides
balance-requires-clause-sides t c =
    let left : c.args.top.value.left ≡ Fork c.in-Fork.below = cc (c.parts-left.ensures.left, c.in-Fork.is) in
    let is : objects_of c.args.top.value.left ≡ c.take_lowest-lowest.result.0.value.object ∷ objects_of c.take_lowest-lowest.result.1 = rw left c.take_lowest-lowest.ensures.objects in
    let low : height_of c.take_lowest-lowest.result.1 ≤ height_of c.args.top.value.left = rw left c.take_lowest-lowest.ensures.height.0 in
    rw (c.parts-left.ensures.object, c.parts-left.ensures.right)
    (lowest_gone_sides c.args.size c.args.top c.requires.ordered c.take_lowest-lowest.result.1 c.take_lowest-lowest.result.0.value.object is c.take_lowest-lowest.ensures.tree low)
