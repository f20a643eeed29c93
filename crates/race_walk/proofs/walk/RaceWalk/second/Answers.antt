use Rattle.std.proofs.Common.{refl}
use Rattle.race_walk.specs.States.{clocks_of}
use Rattle.race_walk.specs.Seeing.{history_of}
use Rattle.race_walk.proofs.Finding.{turn_with_clock}
use Rattle.race_walk.proofs.walk.RaceWalk.second.Goals as goal

pub returns-clause-turn : goal.returns-clause-turn
returns-clause-turn c = λ ts a at.
    turn_with_clock ts c.args.self.now.turns (clocks_of c.args.self.now.clocks) (history_of c.args.self.now.history) _ c.args.touches.now a at refl (c.in_ok-touches.ensures.items_if_clones_equal (λ x y h. h))
    c.in_ok-set_clock.ensures
