use Rattle.std.proofs.Common.{subst}
use Rattle.sub_heaps.specs.inner.Trees.{AreSides}
use Rattle.sub_heaps.proofs.Sides.{inner_right, inner_left, own_right}
use Rattle.sub_heaps.proofs.balance.lean_left.Goals as goal

pub fork-low-requires-clause-sides : goal.fork-low-requires-clause-sides
fork-low-requires-clause-sides c =
    let sides = subst (λ t. AreSides c.args.size c.args.left c.args.node.value.object t) c.in-Fork.is c.requires.sides in
    rw c.parts-middle.ensures.left (inner_left c.args.size c.args.left c.args.node.value.object c.in-Fork.top sides)

pub fork-low-requires-2-clause-sides : goal.fork-low-requires-2-clause-sides
fork-low-requires-2-clause-sides c =
    let sides = subst (λ t. AreSides c.args.size c.args.left c.args.node.value.object t) c.in-Fork.is c.requires.sides in
    let middle = inner_left c.args.size c.args.left c.args.node.value.object c.in-Fork.top sides in
    let split = rw (← c.parts-middle.ensures.left, c.in-Fork-middle.is) at middle in
    rw c.parts-under.ensures.left (inner_left c.args.size c.args.left c.args.node.value.object c.in-Fork-middle.split split)

pub fork-high-requires-clause-sides : goal.fork-high-requires-clause-sides
fork-high-requires-clause-sides c =
    let sides = subst (λ t. AreSides c.args.size c.args.left c.args.node.value.object t) c.in-Fork.is c.requires.sides in
    let own = own_right c.args.size c.args.left c.args.node.value.object c.in-Fork.top sides in
    let split = rw (← c.parts-middle.ensures.left, c.in-Fork-middle.is) at own in
    rw (c.parts-under.ensures.right, c.parts-middle.ensures.object, c.parts-middle.ensures.right) (inner_right c.args.size c.in-Fork-middle.split c.in-Fork.top.value.object c.in-Fork.top.value.right split)
