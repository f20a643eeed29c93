use Rattle.std.proofs.Common.{ℕ, ◌<◌}
use Rattle.race_rules.specs.Races.{Race}
use Rattle.race_walk.specs.Steps.{turns_of}
use Rattle.race_walk.proofs.found.first_with.Given as goal

abbrev pub invariant-loop-turn : goal.invariant-loop-turn
invariant-loop-turn l = (k : ℕ) → k < l.turn → Race (turns_of l.steps) k l.second.turn → ⊥
