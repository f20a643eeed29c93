use Rattle.std.proofs.Common.{◌≡◌, ◌||◌, sym, ap, ◌∙◌, arith, []}
use Rattle.std.proofs.lemmas.Result.{on_ok_weaker}
use Rattle.struct_ir.specs.Nodes.{more_nodes}
use Rattle.struct_ir.specs.Views.{node_view, nodes_view, followed}
use Rattle.struct_ir.proofs.Views.{if_is, loop_is}
use Rattle.pin_flow.specs.Looks.{act_looks, act_assigns, some_act, some_in}
use Rattle.pin_flow.specs.Slots.{slot_in}
use Rattle.mark_sets.specs.Words.{has}
use Rattle.mark_sets.proofs.Wordly.{past}
use Rattle.hoist_pass.specs.inner.Hoist.{lifted_all}
use Rattle.hoist_pass.proofs.LiftedRows.{seen_more, seen_over, seen_two, looks_seen, lifted_over, if_lifted, loop_lifted, on_any}
use Rattle.hoist_pass.proofs.lifting.+lifts.Goals as goal

pub lift_node-returns-in_ok-second-in-If-clause-rows : goal.lift_node-returns-in_ok-second-in-If-clause-rows
lift_node-returns-in_ok-second-in-If-clause-rows t c =
    let n = c.args.n in
    let s = slot_in c.args.bases.now in
    let made = if_lifted s c.args.bases.now n.place c.in-If.temp (nodes_view c.in-If.one.items) (nodes_view c.in-If.other.items) (nodes_view c.in_ok-first-in-If.first.rows.items) (nodes_view c.in_ok-second-in-If.second.rows.items)
    (node_view n) (node_view c.branches.result) (if_is n c.in-If.temp c.in-If.one c.in-If.other c.in-If.is) c.branches.ensures c.in_ok-first-in-If.ensures.rows c.in_ok-second-in-If.ensures.rows in
    on_ok_weaker c.add.result (λ f rest. f rest ∙ ap (followed c.args.out.now.items) (made rest)) c.add.ensures

pub lift_node-returns-in_ok-second-in-If-clause-looks : goal.lift_node-returns-in_ok-second-in-If-clause-looks
lift_node-returns-in_ok-second-in-If-clause-looks t c =
    let n = c.args.n in
    on_any c.add.result
    (seen_two c.args.marks.now act_looks c.args.seen.now.looks.items c.see.new.seen.looks.items c.seen_in_both.result.looks.items c.in_ok-first-in-If.first.seen.looks.items c.in_ok-second-in-If.second.seen.looks.items (node_view n)
    (nodes_view c.in-If.one.items) (nodes_view c.in-If.other.items) c.see.ensures.looks c.seen_in_both.ensures.looks c.in_ok-first-in-If.ensures.looks c.in_ok-second-in-If.ensures.looks
    (λ b. ap (λ y. some_in (act_looks b) y) (if_is n c.in-If.temp c.in-If.one c.in-If.other c.in-If.is)))

pub lift_node-returns-in_ok-second-in-If-clause-assigns : goal.lift_node-returns-in_ok-second-in-If-clause-assigns
lift_node-returns-in_ok-second-in-If-clause-assigns t c =
    let n = c.args.n in
    on_any c.add.result
    (seen_two c.args.marks.now act_assigns c.args.seen.now.assigns.items c.see.new.seen.assigns.items c.seen_in_both.result.assigns.items c.in_ok-first-in-If.first.seen.assigns.items c.in_ok-second-in-If.second.seen.assigns.items (node_view n)
    (nodes_view c.in-If.one.items) (nodes_view c.in-If.other.items) c.see.ensures.assigns c.seen_in_both.ensures.assigns c.in_ok-first-in-If.ensures.assigns c.in_ok-second-in-If.ensures.assigns
    (λ b. ap (λ y. some_in (act_assigns b) y) (if_is n c.in-If.temp c.in-If.one c.in-If.other c.in-If.is)))

pub lift_node-returns-in_ok-add_looks-in-Loop-clause-rows : goal.lift_node-returns-in_ok-add_looks-in-Loop-clause-rows
lift_node-returns-in_ok-add_looks-in-Loop-clause-rows t c =
    let n = c.args.n in
    let bases = c.args.bases.now in
    let s = slot_in bases in
    let bs = nodes_view c.in-Loop.body.items in
    let ls = nodes_view c.in-Loop.step.items in
    let m = node_view c.rounds.result in
    let inside = c.seen_in_both-inside.result in
    let first = c.in_ok-first-in-Loop in
    let second = c.in_ok-second-in-Loop in
    let looks = looks_seen c.args.marks.now bases inside.looks.items inside.assigns.items first.first.seen.looks.items second.second.seen.looks.items first.first.seen.assigns.items second.second.seen.assigns.items n.place bs ls c.requires
    c.seen_in_both-inside.ensures.looks c.seen_in_both-inside.ensures.assigns first.ensures.looks second.ensures.looks first.ensures.assigns second.ensures.assigns in
    let made = loop_lifted s bases n.place bs ls (nodes_view first.first.rows.items) (nodes_view second.second.rows.items) (node_view n) m (loop_is n c.in-Loop.body c.in-Loop.step c.in-Loop.is) c.rounds.ensures first.ensures.rows second.ensures.rows in
    on_ok_weaker c.add-in-Loop.result
    (λ f rest. f rest ∙ (c.in_ok-add_looks-in-Loop.ensures (more_nodes m rest) ∙ ap (followed c.args.out.now.items) (looks (more_nodes m rest) ∙ made rest))) c.add-in-Loop.ensures

pub lift_node-returns-in_ok-add_looks-in-Loop-clause-looks : goal.lift_node-returns-in_ok-add_looks-in-Loop-clause-looks
lift_node-returns-in_ok-add_looks-in-Loop-clause-looks t c =
    let n = c.args.n in
    on_any c.add-in-Loop.result
    (seen_two c.args.marks.now act_looks c.args.seen.now.looks.items c.see-in-Loop.new.seen.looks.items c.seen_in_both-inside.result.looks.items c.in_ok-first-in-Loop.first.seen.looks.items c.in_ok-second-in-Loop.second.seen.looks.items (node_view n)
    (nodes_view c.in-Loop.body.items) (nodes_view c.in-Loop.step.items) c.see-in-Loop.ensures.looks c.seen_in_both-inside.ensures.looks c.in_ok-first-in-Loop.ensures.looks c.in_ok-second-in-Loop.ensures.looks
    (λ b. ap (λ y. some_in (act_looks b) y) (loop_is n c.in-Loop.body c.in-Loop.step c.in-Loop.is)))

pub lift_node-returns-in_ok-add_looks-in-Loop-clause-assigns : goal.lift_node-returns-in_ok-add_looks-in-Loop-clause-assigns
lift_node-returns-in_ok-add_looks-in-Loop-clause-assigns t c =
    let n = c.args.n in
    on_any c.add-in-Loop.result
    (seen_two c.args.marks.now act_assigns c.args.seen.now.assigns.items c.see-in-Loop.new.seen.assigns.items c.seen_in_both-inside.result.assigns.items c.in_ok-first-in-Loop.first.seen.assigns.items c.in_ok-second-in-Loop.second.seen.assigns.items (node_view n)
    (nodes_view c.in-Loop.body.items) (nodes_view c.in-Loop.step.items) c.see-in-Loop.ensures.assigns c.seen_in_both-inside.ensures.assigns c.in_ok-first-in-Loop.ensures.assigns c.in_ok-second-in-Loop.ensures.assigns
    (λ b. ap (λ y. some_in (act_assigns b) y) (loop_is n c.in-Loop.body c.in-Loop.step c.in-Loop.is)))

pub lift_row-loop-n-init : goal.lift_row-loop-n-init
lift_row-loop-n-init t c =
    let e : c.into_iter-n-iterator.result.rest.items ≡ c.args.rows.items = c.into_iter-n-iterator.ensures.into_iter_gives.0 in
    record {
      made = λ i. followed (c.in_ok-out.ensures.items i) (lifted_all (slot_in c.args.bases.now) c.args.bases.now (nodes_view (e i)));
      looks = λ b i h j. ((ap (λ l. has l i) c.new.ensures.items ∙ past [] i (omega arith)) j) || some_act (act_looks b) (nodes_view (e j));
      assigns = λ b i h j. ((ap (λ l. has l i) c.new-2.ensures.items ∙ past [] i (omega arith)) j) || some_act (act_assigns b) (nodes_view (e j));
    }

pub lift_row-loop-n-preserved : goal.lift_row-loop-n-preserved
lift_row-loop-n-preserved t c =
    let bases = c.args.bases.now in
    let old = c.loop-n.n-iterator.rest.items in
    let rest = c.next.new.self.rest.items in
    let n = c.in-Some.n in
    let s = c.in-Some.ensures.steps.0 in
    record {
      made = c.in_ok-lift_node.ensures.rows (lifted_all (slot_in bases) bases (nodes_view rest)) ∙ (ap (λ l. followed c.loop-n.out.items (lifted_all (slot_in bases) bases (nodes_view l))) (sym s) ∙ c.loop-n.invariant.made);
      looks = λ b i h. seen_more (act_looks b) old rest n (has c.loop-n.seen.looks.items i) (has c.lift_node.new.seen.looks.items i) _ s (c.in_ok-lift_node.ensures.looks b i h) (c.loop-n.invariant.looks b i h);
      assigns = λ b i h. seen_more (act_assigns b) old rest n (has c.loop-n.seen.assigns.items i) (has c.lift_node.new.seen.assigns.items i) _ s (c.in_ok-lift_node.ensures.assigns b i h) (c.loop-n.invariant.assigns b i h);
    }

pub lift_row-returns-clause-rows : goal.lift_row-returns-clause-rows
lift_row-returns-clause-rows t c =
    let h = c.in-None.ensures.steps.0 in
    let k = c.loop-n.n-iterator.rest.ok.0 in
    lifted_over (slot_in c.args.bases.now) c.args.bases.now c.loop-n.out.items c.loop-n.n-iterator.rest.items _ (omega (arith, h, k)) c.loop-n.invariant.made

pub lift_row-returns-clause-looks : goal.lift_row-returns-clause-looks
lift_row-returns-clause-looks t c = λ b i e.
    let h = c.in-None.ensures.steps.0 in
    let k = c.loop-n.n-iterator.rest.ok.0 in
    seen_over (act_looks b) c.loop-n.n-iterator.rest.items (has c.loop-n.seen.looks.items i) _ (omega (arith, h, k)) (c.loop-n.invariant.looks b i e)

pub lift_row-returns-clause-assigns : goal.lift_row-returns-clause-assigns
lift_row-returns-clause-assigns t c = λ b i e.
    let h = c.in-None.ensures.steps.0 in
    let k = c.loop-n.n-iterator.rest.ok.0 in
    seen_over (act_assigns b) c.loop-n.n-iterator.rest.items (has c.loop-n.seen.assigns.items i) _ (omega (arith, h, k)) (c.loop-n.invariant.assigns b i e)
