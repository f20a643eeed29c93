use Rattle.std.proofs.Common.{ℕ, List, ap}
use Rattle.race_walk.specs.Views.{told_by}
use Rattle.race_walk.specs.States.{clocks_of}
use Rattle.race_walk.proofs.Steps.{gain_step, over_step}
use Rattle.race_walk.proofs.clocks.Clocks.gain.Goals as goal

pub loop-cell-preserved : goal.loop-cell-preserved
loop-cell-preserved c = λ t.
    let F : List ℕ → ℕ = λ l. told_by l t in
    gain_step _ _ _ _ _ _ _ (c.in_ok-join-in-AtomicRead.ensures t) (ap F c.row.ensures) (over_step (clocks_of c.args.self.now) c.args.touch.block c.loop-cell.cell c.args.touch.to t c.loop-cell-test.true) (c.loop-cell.invariant t)
