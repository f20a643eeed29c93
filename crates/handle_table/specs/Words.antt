-- What contracts see of pin words: the list, and for how many there is room.
use Rattle.std.specs.Prelude.{ℕ, List}

-- words in a row, and how many there may be
pub record WordList : Type 0 where
  pub room : ℕ
  pub words : List ℕ
