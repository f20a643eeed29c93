use Rattle.std.proofs.Common.{ap, ◌∙◌}
use Rattle.pin_flow.specs.Marks.{at, in_turn}
use Rattle.pin_flow.proofs.FlowRows.{on_from}
use Rattle.mark_sets.specs.Sets.{state_at, ways_at, Both}
use Rattle.std.specs.Prelude.{ℕ}
use Rattle.mark_sets.specs.Views.{pairs_view, pair_ways_view}
use Rattle.mark_sets.proofs.gather.acted.Goals as goal

pub returns : goal.returns
returns c = λ k i v e.
    let p : Both ℕ = (i, v) in
    let a = ways_at p (pair_ways_view c.args.ahead) in
    on_from a (state_at p (pairs_view c.in_ok-behind.behind)) ∙ ap (λ t. in_turn a (at t)) (c.in_ok-behind.ensures k i v e)
