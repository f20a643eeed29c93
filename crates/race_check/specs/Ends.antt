-- What is told of an order of a C program's turns: its first race, or the rule that it breaks, or that it is clean.
use Rattle.std.specs.Prelude.{ℕ, ◌≡◌, ◌≢◌, ◌↔◌, List}
use Rattle.ak_words.specs.declared.rule.Rule.{Rule}
use Rattle.block_store.specs.Runs.{Pick, Run, breaks}
use Rattle.c_tree.specs.Typed.{Typed}
use Rattle.c_meaning.specs.Meaning.{run}
use Rattle.c_meaning.specs.Touching.{turns_of}
use Rattle.race_rules.specs.declared.touch.Touch.{Touch}
use Rattle.race_rules.specs.Turns.{Turn}
use Rattle.race_rules.specs.Races.{Second, First}
use Rattle.race_rules.specs.Shown.{Shown}
use Rattle.race_check.specs.declared.ending.Side.{Side}
use Rattle.race_check.specs.declared.ending.RaceEnd.{RaceEnd}
use Rattle.race_check.specs.declared.ending.RaceEnd.TheVariants as ends

-- no turn is the second of a race
abbrev pub HaveNoRace : List Turn → Type 0
HaveNoRace ts = (j : ℕ) → ¬ Second ts j

-- the side is of this turn, and its place is where this touch stands
pub record IsSide (x : Turn) (a : Touch) (side : Side) : Type 0 where
  pub thread : side.thread ≡ x.thread
  pub place : side.place ≡ a.place

-- of all races of the turns the second turn is the least second one, and the first turn the least first one with it; and of each of the
-- two the first touch that clashes with any of the other is shown
pub record IsTold (ts : List Turn) (first second : Side) : Type 0 where
  pub least : First ts first.turn second.turn
  pub one : Touch
  pub other : Touch
  pub shown : Shown ts first.turn second.turn one other
  pub first_side : IsSide shown.race.first one first
  pub second_side : IsSide shown.race.second other second

-- what is told of turns, by where the run of their order comes to: each answer stands exactly where this is so
pub record IsEnd {A : Type 0} (ts : List Turn) (comes : Run A) (e : RaceEnd) : Type 0 where
  -- these two turns are the first that race
  pub race : (first second : Side) → (e ≡ ends.Race first second) ↔ IsTold ts first second
  -- none race, and after so many turns the next one breaks this rule
  pub broke : (rule : Rule) (turns : ℕ) → (e ≡ ends.Broke rule turns) ↔ (HaveNoRace ts × (comes ≡ breaks rule turns))
  -- none race, and none breaks a rule
  pub clean : (e ≡ ends.Clean) ↔ (HaveNoRace ts × ((rule : Rule) (turns : ℕ) → comes ≢ breaks rule turns))

-- what is told of an order of a C program: of its turns before the first that breaks a rule
abbrev pub IsRaceEnd : Typed → List Pick → RaceEnd → Type 0
IsRaceEnd typed order e = IsEnd (turns_of typed order) (run typed order) e

-- a law: of an order of a program one end alone is told
abbrev pub OneEndAlone : Type 0
OneEndAlone = (typed : Typed) (order : List Pick) (e f : RaceEnd) → IsRaceEnd typed order e → IsRaceEnd typed order f → e ≡ f
