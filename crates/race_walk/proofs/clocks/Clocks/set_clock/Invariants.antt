use Rattle.std.proofs.Common.{◌≡◌, ℕ, max, drop}
use Rattle.race_rules.specs.Clocks.{gained_all}
use Rattle.race_walk.specs.Views.{told_by}
use Rattle.race_walk.specs.States.{clocks_of}
use Rattle.race_walk.proofs.clocks.Clocks.set_clock.Given as goal

abbrev pub invariant-loop-touch : goal.invariant-loop-touch
invariant-loop-touch l = (t : ℕ) → max (told_by l.clock.items t) (gained_all (clocks_of l.self) (drop l.touch-index l.touches) t) ≡ max (told_by l.initial.clock.items t) (gained_all (clocks_of l.self) l.touches t)
