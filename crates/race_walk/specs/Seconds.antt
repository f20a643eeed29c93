-- A turn with its clock.
use Rattle.std.specs.Prelude.{◌≡◌, ◌↔◌, ℕ, ◌<◌, List, slice_get, Some}
use Rattle.race_rules.specs.Turns.{Turn}
use Rattle.race_rules.specs.Clocks.{AtOrBefore}
use Rattle.race_walk.specs.declared.second.SecondTurn.{SecondTurn}
use Rattle.race_walk.specs.Views.{told_by, this_turn}

-- it is one of these turns, and its clock knows just itself and what is before it
pub record IsTurnOf (ts : List Turn) (s : SecondTurn) : Type 0 where
  pub at : slice_get ts s.turn ≡ Some (this_turn s.thread s.touches.items)
  pub knows : (i : ℕ) (y : Turn) → slice_get ts i ≡ Some y → (i < told_by s.clock.items y.thread) ↔ AtOrBefore ts i s.turn
