use Rattle.std.proofs.Common.{◌≡◌, ◌∷◌, [], arith}
use Rattle.sub_heaps.specs.inner.Trees.{objects_of}
use Rattle.sub_heaps.proofs.Knowing.{joins_low}
use Rattle.sub_heaps.proofs.Order.{InOrder-right}
use Rattle.sub_heaps.proofs.tree.low_summary.Goals as goal

pub of-own-requires-clause-end : goal.of-own-requires-clause-end
of-own-requires-clause-end c =
    let right = InOrder-right 0 (objects_of c.args.left.now) (c.args.object ∷ []) c.requires.order in
    omega (arith, right.2)

pub joined-requires-clause-order : goal.joined-requires-clause-order
joined-requires-clause-order c =
    let known : c.deref.result.now.under ≡ c.in-Fork.node.value.under = cc in
    rw (known, c.of-own.ensures) (joins_low c.args.size c.args.left.now c.args.object c.in-Fork.node c.in-Fork.is c.requires.left c.requires.order).order

pub returns-in-Fork : goal.returns-in-Fork
returns-in-Fork c =
    let joins = joins_low c.args.size c.args.left.now c.args.object c.in-Fork.node c.in-Fork.is c.requires.left c.requires.order in
    cc (joins.is, c.joined.ensures, c.of-own.ensures)
