use Rattle.std.proofs.Common.{subst}
use Rattle.struct_ir.specs.Views.{nodes_view}
use Rattle.pin_flow.specs.Looks.{some_act}
use Rattle.pin_flow.specs.Slots.{accesses}
use Rattle.pin_flow.specs.inner.Marked.{IsMarked}
use Rattle.pin_flow.proofs.MarkedRows.{both_are, if_some, loop_some}
use Rattle.pin_flow.proofs.slots.+marks.Goals as goal

pub mark_node-returns-in-If : goal.mark_node-returns-in-If
mark_node-returns-in-If t c =
    let old = c.args.seen.now.items in
    let now = c.mark_row.new.seen.items in
    let new = c.mark_row-in-If.new.seen.items in
    both_are old now new _ _ _ (subst (λ l. IsMarked old now (λ b. some_act (accesses b) (nodes_view l))) c.deref.ensures.value c.mark_row.ensures)
    (subst (λ l. IsMarked now new (λ b. some_act (accesses b) (nodes_view l))) c.deref-in-If.ensures.value c.mark_row-in-If.ensures) (if_some c.args.n.now c.in-If.field-0 c.in-If.one c.in-If.other c.in-If.is)

pub mark_node-returns-in-Loop : goal.mark_node-returns-in-Loop
mark_node-returns-in-Loop t c =
    let old = c.args.seen.now.items in
    let now = c.mark_row-in-Loop.new.seen.items in
    let new = c.mark_row-in-Loop-2.new.seen.items in
    both_are old now new _ _ _ (subst (λ l. IsMarked old now (λ b. some_act (accesses b) (nodes_view l))) c.deref-in-Loop.ensures.value c.mark_row-in-Loop.ensures)
    (subst (λ l. IsMarked now new (λ b. some_act (accesses b) (nodes_view l))) c.deref-in-Loop-2.ensures.value c.mark_row-in-Loop-2.ensures) (loop_some c.args.n.now c.in-Loop.body c.in-Loop.step c.in-Loop.is)
