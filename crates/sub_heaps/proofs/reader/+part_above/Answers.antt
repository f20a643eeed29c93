use Rattle.std.proofs.Common.{◌≡◌, ◌≤◌, ap, subst, arith}
use Rattle.sub_heaps.specs.inner.Order.{InOrder}
use Rattle.sub_heaps.specs.inner.Parts.{IsPart}
use Rattle.sub_heaps.specs.inner.Trees.{objects_of}
use Rattle.sub_heaps.proofs.Halves.{InOrder-behind, left_smaller, right_smaller}
use Rattle.sub_heaps.proofs.Order.{InOrder-left}
use Rattle.sub_heaps.proofs.Parts.{IsPart-itself, IsPart-left, IsPart-right}
use Rattle.sub_heaps.proofs.reader.+part_above.Goals as goal

pub returns-in_default : goal.returns-in_default
returns-in_default t c = IsPart-itself c.args.low c.args.tree.now

pub part_above-requires : goal.part_above-requires
part_above-requires t c =
    let order = subst (λ t. InOrder 0 (objects_of t)) c.in-Fork.is c.requires in
    let right : c.deref-then-deref-low.result.now.right ≡ c.in-Fork.node.value.right = cc in
    (rw right (omega (arith, c.decreases, right_smaller c.args.tree.now c.in-Fork.node c.in-Fork.is)), rw right (InOrder-behind (objects_of c.in-Fork.node.value.left) c.in-Fork.node.value.object (objects_of c.in-Fork.node.value.right) order))

pub part_above-requires-else-deref-low : goal.part_above-requires-else-deref-low
part_above-requires-else-deref-low t c =
    let order = subst (λ t. InOrder 0 (objects_of t)) c.in-Fork.is c.requires in
    let left : c.deref-else-deref-low.result.now.left ≡ c.in-Fork.node.value.left = cc in
    (rw left (omega (arith, c.decreases, left_smaller c.args.tree.now c.in-Fork.node c.in-Fork.is)), rw left (InOrder-left 0 (objects_of c.in-Fork.node.value.left) _ order))

pub returns-then-deref-low : goal.returns-then-deref-low
returns-then-deref-low t c =
    let right : c.deref-then-deref-low.result.now.right ≡ c.in-Fork.node.value.right = cc in
    let at : c.deref-else-deref-le-LOW_HEIGHT.result.now.object.at ≡ c.in-Fork.node.value.object.at = cc in
    let le : c.in-Fork.node.value.object.at ≤ c.args.low = omega (arith, c.if-deref-low.true, at) in
    IsPart-right c.args.low c.part_above.result.now c.in-Fork.node.value.right c.args.tree.now (objects_of c.in-Fork.node.value.left) c.in-Fork.node.value.object c.requires (ap objects_of c.in-Fork.is) le (subst (λ t. IsPart c.args.low c.part_above.result.now t) right c.part_above.ensures)
