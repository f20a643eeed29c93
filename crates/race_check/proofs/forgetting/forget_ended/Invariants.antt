use Rattle.std.specs.Prelude.{◌≡◌, ℕ, List}
use Rattle.block_meaning.specs.Running.{HasEnded, running_of}
use Rattle.race_rules.specs.Turns.{Turn}
use Rattle.race_rules.specs.Histories.{StillTouched}
use Rattle.race_walk.specs.Walking.{IsAfter}
use Rattle.race_check.proofs.forgetting.forget_ended.Given as goal

-- the walk is still one of these turns, and none was walked
abbrev pub invariant-loop-block : goal.invariant-loop-block
invariant-loop-block l = record {
  can_next : (goal.iterator-loop-block).can_next l.block-iterator;
  is_finite : (goal.iterator-loop-block).is_finite l.block-iterator;
  after : (ts : List Turn) → IsAfter ts l.initial.walk → ((block : ℕ) → HasEnded (running_of l.run).state.world.blocks block → StillTouched ts l.initial.walk.turns block → ⊥) → IsAfter ts l.walk;
  count : l.walk.turns ≡ l.initial.walk.turns;
}
