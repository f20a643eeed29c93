use Rattle.std.proofs.Common.{subst}
use Rattle.sub_heaps.specs.inner.Trees.{AreSides}
use Rattle.sub_heaps.proofs.Sides.{inner_right, inner_left, own_left}
use Rattle.sub_heaps.proofs.balance.lean_right.Goals as goal

pub fork-high-requires-clause-sides : goal.fork-high-requires-clause-sides
fork-high-requires-clause-sides c =
    let sides = subst (λ t. AreSides c.args.size t c.args.node.value.object c.args.right) c.in-Fork.is c.requires.sides in
    rw c.parts-low.ensures.right (inner_right c.args.size c.in-Fork.top c.args.node.value.object c.args.right sides)

pub fork-low-requires-clause-sides : goal.fork-low-requires-clause-sides
fork-low-requires-clause-sides c =
    let sides = subst (λ t. AreSides c.args.size t c.args.node.value.object c.args.right) c.in-Fork.is c.requires.sides in
    let own = own_left c.args.size c.in-Fork.top c.args.node.value.object c.args.right sides in
    let split = rw (← c.parts-low.ensures.right, c.in-Fork-middle.is) at own in
    rw (c.parts-low.ensures.left, c.parts-low.ensures.object, c.parts-under.ensures.left) (inner_left c.args.size c.in-Fork.top.value.left c.in-Fork.top.value.object c.in-Fork-middle.split split)

pub fork-high-requires-2-clause-sides : goal.fork-high-requires-2-clause-sides
fork-high-requires-2-clause-sides c =
    let sides = subst (λ t. AreSides c.args.size t c.args.node.value.object c.args.right) c.in-Fork.is c.requires.sides in
    let middle = inner_right c.args.size c.in-Fork.top c.args.node.value.object c.args.right sides in
    let split = rw (← c.parts-low.ensures.right, c.in-Fork-middle.is) at middle in
    rw c.parts-under.ensures.right (inner_right c.args.size c.in-Fork-middle.split c.args.node.value.object c.args.right split)
