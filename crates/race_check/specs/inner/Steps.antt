-- What the code's steps come to.
use Rattle.std.specs.Prelude.{ℕ, ◌≡◌, ◌≢◌, ◌<◌, List}
use Rattle.ak_words.specs.declared.rule.Rule.{Rule}
use Rattle.block_store.specs.Runs.{Pick, breaks, no_run, first_state}
use Rattle.c_tree.specs.Typed.{Typed}
use Rattle.c_meaning.specs.Meaning.{program, start, run}
use Rattle.c_meaning.specs.Touching.{turns_of}
use Rattle.block_meaning.specs.Running.{Running}
use Rattle.race_rules.specs.Turns.{Turn}
use Rattle.race_rules.specs.Races.{Second}
use Rattle.race_walk.specs.declared.second.SecondTurn.{SecondTurn}
use Rattle.race_walk.specs.Seconds.{IsTurnOf}
use Rattle.race_check.specs.declared.walking.Walked.{Walked}
use Rattle.race_check.specs.declared.walking.Walked.TheVariants as walks
use Rattle.race_check.specs.Ends.{HaveNoRace}

-- the run is about to begin
abbrev pub Begins : Running → Type 0
Begins r = r.state ≡ first_state (program r.typed) (start r.typed)

-- the program has a run of the order
abbrev pub HasRun : Typed → List Pick → Type 0
HasRun typed order = (turns : ℕ) → run typed order ≢ no_run turns

-- it is one of these turns and the second of a race, its clock knows just itself and what is before it, and no earlier turn is the
-- second of a race
pub record IsSecond (ts : List Turn) (s : SecondTurn) : Type 0 where
  pub of : IsTurnOf ts s
  pub is : Second ts s.turn
  pub no_sooner : (k : ℕ) → k < s.turn → ¬ Second ts k

-- where the walk over an order ends
abbrev pub IsWalked : Typed → List Pick → Walked → Type 0
IsWalked typed order walks.Clean = HaveNoRace (turns_of typed order) × ((rule : Rule) (turns : ℕ) → run typed order ≢ breaks rule turns)
IsWalked typed order (walks.Raced s) = IsSecond (turns_of typed order) s
IsWalked typed order (walks.Broke rule turns) = HaveNoRace (turns_of typed order) × (run typed order ≡ breaks rule turns)
