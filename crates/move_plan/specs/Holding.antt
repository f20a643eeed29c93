-- What contracts see of a plan and of pins: the list, the set, and for how many there is room.
use Rattle.std.specs.Prelude.{ℕ, Bool, List, refl}
use Rattle.std.specs.Coded.{Coded, code_by, coded×, coded_ℕ}
use Rattle.std.specs.FinSet as set
use Rattle.std.specs.Ordering.{nat_cmp}
use Rattle.sub_heaps.specs.declared.moves.Move.{Move}

-- moves in a row, and how many there may be
pub record MoveList : Type 0 where
  pub room : ℕ
  pub moves : List Move

-- a set of places, and how many there may be
pub record PinSet : Type 0 where
  pub room : ℕ
  pub places : set.FinSet nat_cmp

-- a set of places is stored as the pair of its fields
abbrev pub pin_set_code : Coded PinSet
pin_set_code =
    code_by (ℕ × set.FinSet nat_cmp) (coded× coded_ℕ (set.code coded_ℕ)) (λ p. (p.room, p.places)) (λ q. record { room = q.0; places = q.1 }) (λ _. refl)

-- whether a place is among the pins
abbrev pub is_pinned : PinSet → ℕ → Bool
is_pinned pins at = set.contains pins.places at
