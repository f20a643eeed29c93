use Rattle.std.proofs.Common.{arith, sym, ◌∙◌}
use Rattle.std.proofs.lemmas.List.{map-set, length-map}
use Rattle.struct_ir.specs.InstrViews.{instr_view}
use Rattle.struct_ir.specs.Views.{nodes_view}
use Rattle.struct_ir.proofs.Views.{if_is, loop_is}
use Rattle.emit_code.proofs.Views.{if_size, loop_size, if_long, loop_long, size_back, long_back}
use Rattle.emit_code.proofs.Patch.{looped}
use Rattle.emit_code.proofs.emitting.+emits.Goals as goal

pub emit_row-emit_one-requires : goal.emit_row-emit_one-requires
emit_row-emit_one-requires t c =
    let h = size_back c.args.nodes.now c.row.left.now c.row.invariant.0 c.node-item.result c.in-len1-up.len_at_least c.node-item.is c.row.invariant.1 in
    let l = long_back c.args.nodes.now c.row.left.now c.row.invariant.0 c.node-item.result c.in-len1-up.len_at_least c.node-item.is c.row.invariant.1 in
    (omega (arith, h, c.decreases), omega (arith, l, c.row.invariant.2, c.requires))

pub emit_loop-returns-clause-code : goal.emit_loop-returns-clause-code
emit_loop-returns-clause-code t c =
    let n = c.len-round.ensures ∙ c.args.code.now.ok.0 ∙ sym (length-map c.args.code.now.items instr_view) in
    map-set instr_view c.emit_row-2.new.code.items c.len-round.result _
    ∙ looped _ _ _ _ c.args.place (nodes_view c.args.body.now) (nodes_view c.args.step.now) _ _ c.args.end c.in_ok-step_at.step_at c.in_ok-at.at c.requires c.in_ok-put.ensures c.in_ok-step_at.ensures.code c.in_ok-at.ensures.code n c.in_ok-step_at.ensures.index c.in_ok-at.ensures.index

pub emit_one-emit_if-requires : goal.emit_one-emit_if-requires
emit_one-emit_if-requires t c =
    let e = if_size c.args.node.now _ _ _ c.in-If.is in
    let f = if_long c.args.node.now _ _ _ c.in-If.is in
    rw (c.deref.ensures.value, c.deref-in-If.ensures.value) (omega (arith, e, c.decreases), omega (arith, f, c.requires))

pub emit_one-emit_loop-requires : goal.emit_one-emit_loop-requires
emit_one-emit_loop-requires t c =
    let e = loop_size c.args.node.now _ _ c.in-Loop.is in
    let f = loop_long c.args.node.now _ _ c.in-Loop.is in
    rw (c.deref-in-Loop.ensures.value, c.deref-in-Loop-2.ensures.value) (omega (arith, e, c.decreases), omega (arith, f, c.requires))

pub emit_one-returns-in-If-clause-index : goal.emit_one-returns-in-If-clause-index
emit_one-returns-in-If-clause-index t c = rw (if_is c.args.node.now _ _ _ c.in-If.is) (rw (c.deref.ensures.value, c.deref-in-If.ensures.value) at c.emit_if.ensures.index)

pub emit_one-returns-in-If-clause-code : goal.emit_one-returns-in-If-clause-code
emit_one-returns-in-If-clause-code t c = rw (if_is c.args.node.now _ _ _ c.in-If.is) (rw (c.deref.ensures.value, c.deref-in-If.ensures.value) at c.emit_if.ensures.code)

pub emit_one-returns-in-Loop-clause-index : goal.emit_one-returns-in-Loop-clause-index
emit_one-returns-in-Loop-clause-index t c = rw (loop_is c.args.node.now _ _ c.in-Loop.is) (rw (c.deref-in-Loop.ensures.value, c.deref-in-Loop-2.ensures.value) at c.emit_loop.ensures.index)

pub emit_one-returns-in-Loop-clause-code : goal.emit_one-returns-in-Loop-clause-code
emit_one-returns-in-Loop-clause-code t c = rw (loop_is c.args.node.now _ _ c.in-Loop.is) (rw (c.deref-in-Loop.ensures.value, c.deref-in-Loop-2.ensures.value) at c.emit_loop.ensures.code)
