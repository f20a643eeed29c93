use Rattle.pin_flow.specs.Views.{state_view, ways_view}
use Rattle.pin_flow.specs.inner.Both.{from, both_view}
use Rattle.pin_flow.proofs.BothRows.{round_by}
use Rattle.pin_flow.proofs.flow.round_from.Goals as goal

pub returns : goal.returns
returns c =
    round_by (from (both_view c.args.body)) (from (both_view c.args.step)) (state_view c.args.head) (state_view c.end_of.result) (ways_view c.from-one.result) (ways_view c.from.result) (ways_view c.around.result)
    c.from-one.ensures c.end_of.ensures c.from.ensures c.around.ensures
