use Rattle.std.proofs.Common.{ap}
use Rattle.struct_ir.specs.Views.{nodes_view}
use Rattle.pin_flow.specs.Marks.{flow}
use Rattle.pin_flow.specs.Views.{mark_view, state_view, ways_view}
use Rattle.pin_flow.proofs.FlowRows.{round_is, head_is, bad_head}
use Rattle.pin_flow.proofs.flow.head_from.Goals as goal

pub returns-in_default : goal.returns-in_default
returns-in_default c =
    let m = mark_view c.args.mark in
    let s = state_view c.args.before in
    let v = nodes_view c.args.body.now in
    let w = nodes_view c.args.step.now in
    head_is (flow m v) (flow m w) s (state_view c.joined.result) (ways_view c.around.result)
    (round_is m v w s (state_view c.end_of.result) (ways_view c.ways_of-one.result) (ways_view c.ways_of.result) (ways_view c.around.result) c.ways_of-one.ensures c.end_of.ensures c.ways_of.ensures c.around.ensures)
    c.joined.ensures

pub returns-in-Bad : goal.returns-in-Bad
returns-in-Bad c = bad_head _ _ (state_view c.args.before) (ap state_view c.in-Bad.is)
