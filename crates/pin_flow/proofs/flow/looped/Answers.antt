use Rattle.pin_flow.specs.Views.{state_view, ways_view}
use Rattle.pin_flow.specs.inner.Both.{from, both_view}
use Rattle.pin_flow.proofs.BothRows.{looped_by}
use Rattle.pin_flow.proofs.flow.looped.Goals as goal

pub returns : goal.returns
returns c =
    looped_by (from (both_view c.args.body)) (from (both_view c.args.step)) (state_view c.args.before) (state_view c.joined-head.result) (ways_view c.round_from-once.result) (ways_view c.round_from.result) (ways_view c.all_on.result)
    c.round_from-once.ensures c.joined-head.ensures c.round_from.ensures c.all_on.ensures
