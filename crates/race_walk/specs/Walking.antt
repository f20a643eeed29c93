-- What a walk stands for, and what a turn of it finds.
use Rattle.std.specs.Prelude.{◌≡◌, ◌↔◌, ◌+◌, Bool, true, false, List}
use Rattle.race_rules.specs.Turns.{Turn}
use Rattle.race_rules.specs.Races.{Second}
use Rattle.race_rules.specs.Histories.{After}
use Rattle.race_walk.specs.declared.walk.RaceWalk.{RaceWalk}
use Rattle.race_walk.specs.States.{clocks_of}
use Rattle.race_walk.specs.Seeing.{history_of}

-- it has walked so many of the turns, and none of these is the second of a race
abbrev pub IsAfter : List Turn → RaceWalk → Type 0
IsAfter ts w = After ts w.turns (clocks_of w.clocks) (history_of w.history)

-- whether the next turn is the second of a race; and where it isn't, the walk has walked it, else it stays
pub record Finds (ts : List Turn) (raced : Bool) (before after : RaceWalk) : Type 0 where
  pub exactly : (raced ≡ true) ↔ Second ts before.turns
  pub goes_on : raced ≡ false → IsAfter ts after
  pub counts : raced ≡ false → after.turns ≡ before.turns + 1
  pub stays : raced ≡ true → IsAfter ts after
  pub still : raced ≡ true → after.turns ≡ before.turns
