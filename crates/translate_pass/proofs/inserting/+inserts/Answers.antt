use Rattle.std.proofs.Common.{sym, ap, ◌∙◌, arith}
use Rattle.std.proofs.lemmas.Result.{on_ok_weaker}
use Rattle.struct_ir.specs.Views.{nodes_view, followed}
use Rattle.pin_flow.specs.Slots.{slot_if}
use Rattle.translate_pass.specs.inner.Insert.{inserted}
use Rattle.translate_pass.proofs.InsertedRows.{row_inserted, if_inserted, loop_inserted}
use Rattle.translate_pass.proofs.inserting.+inserts.Goals as goal

pub insert_row-loop-n-preserved : goal.insert_row-loop-n-preserved
insert_row-loop-n-preserved t c =
    let s = slot_if c.args.bases.now in
    c.in_ok-insert_node.ensures (inserted s (nodes_view c.next.new.self.rest.items))
    ∙ (ap (λ l. followed c.loop-n.out.items (inserted s (nodes_view l))) (sym c.in-Some.ensures.steps.0) ∙ c.loop-n.invariant)

pub insert_row-returns : goal.insert_row-returns
insert_row-returns t c =
    let h = c.in-None.ensures.steps.0 in
    let k = c.loop-n.n-iterator.rest.ok.0 in
    row_inserted (slot_if c.args.bases.now) c.loop-n.out.items c.loop-n.n-iterator.rest.items _ (omega (arith, h, k)) c.loop-n.invariant

pub insert_node-returns-in_ok-no-in-If : goal.insert_node-returns-in_ok-no-in-If
insert_node-returns-in_ok-no-in-If t c =
    let made = if_inserted (slot_if c.args.bases.now) c.args.n c.branches.result c.in-If.temp c.in-If.one c.in-If.other c.in_ok-yes-in-If.yes c.in_ok-no-in-If.no c.in-If.is c.branches.ensures c.in_ok-yes-in-If.ensures c.in_ok-no-in-If.ensures in
    on_ok_weaker c.add.result (λ f rest. f rest ∙ ap (followed c.args.out.now.items) (made rest)) c.add.ensures

pub insert_node-returns-in_ok-second-in-Loop : goal.insert_node-returns-in_ok-second-in-Loop
insert_node-returns-in_ok-second-in-Loop t c =
    let made = loop_inserted (slot_if c.args.bases.now) c.args.n c.rounds.result c.in-Loop.body c.in-Loop.step c.in_ok-first-in-Loop.first c.in_ok-second-in-Loop.second c.in-Loop.is c.rounds.ensures c.in_ok-first-in-Loop.ensures c.in_ok-second-in-Loop.ensures in
    on_ok_weaker c.add-in-Loop.result (λ f rest. f rest ∙ ap (followed c.args.out.now.items) (made rest)) c.add-in-Loop.ensures
