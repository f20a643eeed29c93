-- Turns as a list of the code's, and what the answer tells of them.
use Rattle.std.specs.Prelude.{◌≡◌, ℕ, ◌<◌, List, map}
use Rattle.race_rules.specs.Turns.{Turn}
use Rattle.race_rules.specs.Races.{Race, First}
use Rattle.race_rules.specs.Shown.{Shown}
use Rattle.race_walk.specs.declared.step.Step.{Step}
use Rattle.race_walk.specs.declared.step.Found.{Found}

-- the turn that a step is
abbrev pub turn_of : Step → Turn
turn_of s = record { thread = s.thread; touches = s.touches.items }

-- the turns that steps are
abbrev pub turns_of : List Step → List Turn
turns_of all = map turn_of all

-- the two turns race, and these are their threads and the touches of theirs that are shown
pub record IsRace (ts : List Turn) (f : Found) : Type 0 where
  pub shown : Shown ts f.first.turn f.second.turn f.first.touch f.second.touch
  pub first_thread : f.first.thread ≡ shown.race.first.thread
  pub second_thread : f.second.thread ≡ shown.race.second.thread

-- it is the race with turn j whose first turn is the least
pub record IsFirstWith (ts : List Turn) (j : ℕ) (f : Found) : Type 0 where
  pub is : IsRace ts f
  pub second : f.second.turn ≡ j
  pub none_below : (k : ℕ) → k < f.first.turn → ¬ Race ts k j

-- it is the first race
pub record IsFound (ts : List Turn) (f : Found) : Type 0 where
  pub is : IsRace ts f
  pub first : First ts f.first.turn f.second.turn
