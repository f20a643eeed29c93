use Rattle.std.proofs.Common.{sym, ap, ◌∙◌, arith}
use Rattle.std.proofs.lemmas.Result.{on_ok_weaker}
use Rattle.struct_ir.specs.Nodes.{no_nodes, more_nodes}
use Rattle.struct_ir.specs.Views.{nodes_view, followed}
use Rattle.struct_ir.proofs.Views.{followed_none}
use Rattle.pin_frames.specs.inner.Place.{stop, seated, cleared}
use Rattle.pin_frames.proofs.Seated.{row_alone, row_seated, if_sat, loop_sat}
use Rattle.pin_frames.proofs.seating.+sits.Goals as goal

pub seat_row-returns : goal.seat_row-returns
seat_row-returns t c =
    let h = c.in-None.ensures.steps.0 in
    let k = c.loop-n.n-iterator.rest.ok.0 in
    row_seated c.loop-n.out.items c.loop-n.n-iterator.rest.items (seated (cleared (nodes_view c.args.rows.items))) (omega (arith, h, k)) c.loop-n.invariant

pub seat_latch-returns : goal.seat_latch-returns
seat_latch-returns t c =
    sym (followed_none c.add_stop.new.out.items) ∙ (c.in_ok-add_stop.ensures no_nodes ∙ c.in_ok-out.ensures (more_nodes (stop c.args.place) no_nodes))

pub seat_node-returns-in_ok-no-in-If : goal.seat_node-returns-in_ok-no-in-If
seat_node-returns-in_ok-no-in-If t c =
    let one = row_alone c.in_ok-yes-in-If.yes.items (cleared (nodes_view c.in-If.one.items)) c.in_ok-yes-in-If.ensures in
    let other = row_alone c.in_ok-no-in-If.no.items (cleared (nodes_view c.in-If.other.items)) c.in_ok-no-in-If.ensures in
    let made = if_sat c.args.n c.branches.result c.in-If.temp c.in-If.one c.in-If.other c.in_ok-yes-in-If.yes c.in_ok-no-in-If.no c.in-If.is c.branches.ensures one other in
    on_ok_weaker c.add.result (λ f rest. f rest ∙ ap (followed c.args.out.now.items) (made rest)) c.add.ensures

pub seat_node-returns-in_ok-second-in-Loop : goal.seat_node-returns-in_ok-second-in-Loop
seat_node-returns-in_ok-second-in-Loop t c =
    let one = row_alone c.in_ok-first-in-Loop.first.items (cleared (nodes_view c.in-Loop.body.items)) c.in_ok-first-in-Loop.ensures in
    let made = loop_sat c.args.n c.rounds.result c.in-Loop.body c.in-Loop.step c.in_ok-first-in-Loop.first c.in_ok-second-in-Loop.second c.in-Loop.is c.rounds.ensures one c.in_ok-second-in-Loop.ensures in
    on_ok_weaker c.add-in-Loop.result (λ f rest. f rest ∙ ap (followed c.args.out.now.items) (made rest)) c.add-in-Loop.ensures
