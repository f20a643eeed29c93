use Rattle.std.proofs.Common.{◌≡◌, ◌∷◌, ◌++◌, [], append_assoc}
use Rattle.sub_heaps.specs.inner.Trees.{objects_of}
use Rattle.sub_heaps.proofs.Knowing.{joins_high}
use Rattle.sub_heaps.proofs.Order.{InOrder-left}
use Rattle.sub_heaps.proofs.tree.summary.Goals as goal

pub low_summary-low-requires-clause-order : goal.low_summary-low-requires-clause-order
low_summary-low-requires-clause-order c =
    InOrder-left 0 (objects_of c.args.left.now ++ c.args.object ∷ []) (objects_of c.args.right.now) (rw (append_assoc (objects_of c.args.left.now) (c.args.object ∷ []) (objects_of c.args.right.now)) c.requires.order)

pub joined-requires-clause-order : goal.joined-requires-clause-order
joined-requires-clause-order c =
    let known : c.deref.result.now.under ≡ c.in-Fork.node.value.under = cc in
    rw (known, c.low_summary-low.ensures) (joins_high c.args.size (objects_of c.args.left.now) c.args.object c.args.right.now c.in-Fork.node c.in-Fork.is c.requires.right c.requires.order).order

pub returns-in-Fork : goal.returns-in-Fork
returns-in-Fork c =
    let joins = joins_high c.args.size (objects_of c.args.left.now) c.args.object c.args.right.now c.in-Fork.node c.in-Fork.is c.requires.right c.requires.order in
    cc (joins.is, c.joined.ensures, c.low_summary-low.ensures)
