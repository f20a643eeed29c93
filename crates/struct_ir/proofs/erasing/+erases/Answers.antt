use Rattle.std.proofs.Common.{ap, ◌∙◌}
use Rattle.struct_ir.specs.Erased.{erased}
use Rattle.struct_ir.specs.Views.{nodes_view}
use Rattle.struct_ir.proofs.ErasedRows.{row_erased, if_erased, loop_erased}
use Rattle.struct_ir.proofs.erasing.+erases.Goals as goal

pub erase_row-returns : goal.erase_row-returns
erase_row-returns t c = row_erased c.args.nodes.now c.loop-n.n-index c.loop-n.out.items _ c.loop-n-test.false c.loop-n.invariant

pub erase_node-returns-in_ok-no-in-If : goal.erase_node-returns-in_ok-no-in-If
erase_node-returns-in_ok-no-in-If t c =
    if_erased c.args.n.now c.branches.result c.in-If.temp c.in-If.one c.in-If.other c.in_ok-yes-in-If.yes c.in_ok-no-in-If.no c.in-If.is c.branches.ensures
    (c.in_ok-yes-in-If.ensures ∙ ap (λ l. erased (nodes_view l)) c.deref.ensures.value)
    (c.in_ok-no-in-If.ensures ∙ ap (λ l. erased (nodes_view l)) c.deref-in-If.ensures.value)

pub erase_node-returns-in_ok-second-in-Loop : goal.erase_node-returns-in_ok-second-in-Loop
erase_node-returns-in_ok-second-in-Loop t c =
    loop_erased c.args.n.now c.rounds.result c.in-Loop.body c.in-Loop.step c.in_ok-first-in-Loop.first c.in_ok-second-in-Loop.second c.in-Loop.is c.rounds.ensures
    (c.in_ok-first-in-Loop.ensures ∙ ap (λ l. erased (nodes_view l)) c.deref-in-Loop.ensures.value)
    (c.in_ok-second-in-Loop.ensures ∙ ap (λ l. erased (nodes_view l)) c.deref-in-Loop-2.ensures.value)
