use Rattle.std.proofs.Common.{arith}
use Rattle.emit_code.proofs.Views.{if_size, loop_size, if_long, loop_long, size_back}
use Rattle.emit_code.proofs.lengths.+longs.Goals as goal

pub long_of-long_of_node-requires : goal.long_of-long_of_node-requires
long_of-long_of_node-requires t c =
    let h = size_back c.args.nodes.now c.row.left.now c.row.invariant.0 c.node-item.result c.in-len1-up.len_at_least c.node-item.is c.row.invariant.1 in
    (omega (arith, h), tt)

pub long_of_node-long_of-requires : goal.long_of_node-long_of-requires
long_of_node-long_of-requires t c =
    let e = if_size c.args.node.now _ _ _ c.in-If.is in
    rw c.deref.ensures.value (omega (arith, e), tt)

pub long_of_node-long_of-requires-in-If : goal.long_of_node-long_of-requires-in-If
long_of_node-long_of-requires-in-If t c =
    let e = if_size c.args.node.now _ _ _ c.in-If.is in
    rw c.deref-in-If.ensures.value (omega (arith, e), tt)

pub long_of_node-long_of-requires-in-Loop : goal.long_of_node-long_of-requires-in-Loop
long_of_node-long_of-requires-in-Loop t c =
    let e = loop_size c.args.node.now _ _ c.in-Loop.is in
    rw c.deref-in-Loop.ensures.value (omega (arith, e), tt)

pub long_of_node-long_of-requires-in-Loop-2 : goal.long_of_node-long_of-requires-in-Loop-2
long_of_node-long_of-requires-in-Loop-2 t c =
    let e = loop_size c.args.node.now _ _ c.in-Loop.is in
    rw c.deref-in-Loop-2.ensures.value (omega (arith, e), tt)

pub long_of_node-returns-in_ok-checked_add-in-If : goal.long_of_node-returns-in_ok-checked_add-in-If
long_of_node-returns-in_ok-checked_add-in-If t c =
    let e = if_long c.args.node.now _ _ _ c.in-If.is in
    rw e (grind arith)

pub long_of_node-returns-in_ok-checked_add-in-Loop : goal.long_of_node-returns-in_ok-checked_add-in-Loop
long_of_node-returns-in_ok-checked_add-in-Loop t c =
    let e = loop_long c.args.node.now _ _ c.in-Loop.is in
    rw e (grind arith)
