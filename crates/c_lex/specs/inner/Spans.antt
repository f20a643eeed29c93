-- What an item takes of a text.
use Rattle.std.specs.Prelude.{ℕ, ◌<◌, ◌≤◌}
use Rattle.c_lex.specs.declared.item.Found.{Found}
use Rattle.c_lex.specs.declared.item.Item.{Item}
use Rattle.c_lex.specs.declared.item.Item.TheVariants as items

-- the name and the number of a define begin within these many bytes
abbrev pub IsInside : ℕ → Item → Type 0
IsInside len items.Blank = Unit {0}
IsInside len items.Name = Unit {0}
IsInside len (items.Token kind) = Unit {0}
IsInside len (items.Define d) = (d.name_from ≤ d.name_to) × (d.name_to ≤ len) × (d.number_from ≤ len)
IsInside len (items.Fault kind) = Unit {0}

-- an item takes one byte or more of so many
pub record Spans (len : ℕ) (found : Found) : Type 0 where
  pub some : 0 < found.len
  pub within : found.len ≤ len
  pub inside : IsInside found.len found.item
