-- What is told of turns by hand.
use Rattle.std.specs.Prelude.{ℕ}
use Rattle.ak_words.specs.declared.rule.Rule.TheVariants.{C5}
use Rattle.block_store.specs.Runs.{State, reaches, breaks}
use Rattle.race_rules.specs.Rows.{racing, handed}
use Rattle.race_check.specs.declared.ending.Side.{Side}
use Rattle.race_check.specs.declared.ending.RaceEnd.TheVariants as ends
use Rattle.race_check.specs.Ends.{IsEnd}

-- a turn of a race
abbrev pub side : (thread place turn : ℕ) → Side
side thread place turn = record { thread = thread; place = place; turn = turn }

-- of turns 0 to 3 two race: turn 1 of thread 0, which writes at place 48, and turn 3 of thread 1, which writes the same cells at place 22.
-- Where a mutex is handed on between the two writes, none race
pub record EndsStand : Type 0 where
  pub a_race : (s : State ℕ) → IsEnd racing (reaches s) (ends.Race (side 0 48 1) (side 1 22 3))
  -- it is told, too, where a rule is broken behind it
  pub a_race_before_a_rule : IsEnd {A = ℕ} racing (breaks C5 4) (ends.Race (side 0 48 1) (side 1 22 3))
  pub ordered : (s : State ℕ) → IsEnd (handed 2) (reaches s) ends.Clean
  pub a_rule : IsEnd {A = ℕ} (handed 2) (breaks C5 4) (ends.Broke C5 4)
