use Rattle.std.proofs.Common.{ℕ, List, ap, ◌∙◌}
use Rattle.race_rules.specs.Clocks.{joined, gained_all}
use Rattle.race_walk.specs.Views.{told_by}
use Rattle.race_walk.specs.States.{clocks_of}
use Rattle.race_walk.proofs.Steps.{clock_step, clock_end, own_same}
use Rattle.race_walk.proofs.clocks.Clocks.set_clock.Goals as goal

pub loop-touch-preserved : goal.loop-touch-preserved
loop-touch-preserved c = λ t. clock_step (clocks_of c.args.self.now) c.args.touches.now c.loop-touch.touch-index _ _ _ _ t c.loop-touch-test.true (c.in_ok-gain.ensures t) (c.loop-touch.invariant t)

pub returns : goal.returns
returns c = λ t.
    let s = clocks_of c.args.self.now in
    c.in_ok-know.ensures t
    ∙ own_same c.args.turn c.args.thread (told_by c.loop-touch.clock.items) (joined (joined (s.threads c.args.thread) (s.started c.args.thread)) (gained_all s c.args.touches.now))
    (λ u. let F : List ℕ → ℕ = λ l. told_by l u in
    clock_end s c.args.touches.now c.loop-touch.touch-index u _ _ _ _ _ _ _ _ c.loop-touch-test.false (c.loop-touch.invariant u) (c.in_ok-join-2.ensures u) (c.in_ok-join.ensures u) (ap F c.clear.ensures.items) (ap F c.row.ensures) (ap F c.row-2.ensures)) t
