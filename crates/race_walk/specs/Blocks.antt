-- What is kept of the cells of a block.
use Rattle.std.specs.Prelude.{ℕ, nat_lt, List, [], Option, Some, None, slice_get, if◌then◌else◌}
use Rattle.race_rules.specs.declared.touch.Seen.{Seen}
use Rattle.race_walk.specs.declared.block.Block.{Block}
use Rattle.race_walk.specs.declared.block.Block.TheVariants.{Whole, Cells}
use Rattle.race_walk.specs.Views.{cell_of}

-- what is kept of a cell
abbrev pub seen_in : Block → ℕ → List Seen
seen_in (Whole count seen) cell = if nat_lt cell count then seen.items else []
seen_in (Cells all) cell = cell_of (slice_get all.items cell)

-- nothing, where nothing is kept of the block
abbrev pub seen_at : Option Block → ℕ → List Seen
seen_at None cell = []
seen_at (Some b) cell = seen_in b cell
