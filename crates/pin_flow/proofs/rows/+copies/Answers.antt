use Rattle.std.proofs.Common.{ap, ◌∙◌}
use Rattle.struct_ir.specs.Views.{nodes_view}
use Rattle.pin_flow.proofs.CopiedRows.{row_copied, if_copied, loop_copied}
use Rattle.pin_flow.proofs.rows.+copies.Goals as goal

pub copy_row-returns : goal.copy_row-returns
copy_row-returns t c = row_copied c.args.rows.now c.loop-n.n-index c.loop-n.out.items _ c.loop-n-test.false c.loop-n.invariant

pub copy_node-returns-in_ok-no-in-If : goal.copy_node-returns-in_ok-no-in-If
copy_node-returns-in_ok-no-in-If t c =
    if_copied c.args.n.now c.branches.result c.in-If.temp c.in-If.one c.in-If.other c.in_ok-yes-in-If.yes c.in_ok-no-in-If.no c.in-If.is c.branches.ensures
    (c.in_ok-yes-in-If.ensures ∙ ap (λ l. nodes_view l) c.deref.ensures.value) (c.in_ok-no-in-If.ensures ∙ ap (λ l. nodes_view l) c.deref-in-If.ensures.value)

pub copy_node-returns-in_ok-second-in-Loop : goal.copy_node-returns-in_ok-second-in-Loop
copy_node-returns-in_ok-second-in-Loop t c =
    loop_copied c.args.n.now c.rounds.result c.in-Loop.body c.in-Loop.step c.in_ok-first-in-Loop.first c.in_ok-second-in-Loop.second c.in-Loop.is c.rounds.ensures
    (c.in_ok-first-in-Loop.ensures ∙ ap (λ l. nodes_view l) c.deref-in-Loop.ensures.value) (c.in_ok-second-in-Loop.ensures ∙ ap (λ l. nodes_view l) c.deref-in-Loop-2.ensures.value)
