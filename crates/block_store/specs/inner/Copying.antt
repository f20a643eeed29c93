-- How cells are written and copied.
use Rattle.std.specs.Prelude.{ℕ, ◌+◌, ◌==◌, ◌&&◌, nat_lt, not, Bool, List, [], take, drop, Option, Some, None}
use Rattle.block_store.specs.declared.values.Cell.{Cell}
use Rattle.block_store.specs.Blocks.{Block, Blocks, live, with_cells_at}

-- n cells are copied inside one list, in order, and a cell may be read after it was written: the two stretches overlap and are
-- not one
abbrev pub is_read_late : (n to from : ℕ) → Bool
is_read_late n to from = nat_lt to (from + n) && nat_lt from (to + n) && not (to == from)

-- the store with new cells in a block, from an offset on, if that lives
abbrev pub overwritten_if : Blocks → (name offset : ℕ) → List Cell → Option Block → Blocks
overwritten_if blocks name offset new None = blocks
overwritten_if blocks name offset new (Some b) = with_cells_at blocks new (record { name = name; block = b; offset = offset })

-- the store with new cells in the block of this name, from an offset on; where that block is dead, nothing changes
abbrev pub overwritten : Blocks → (name offset : ℕ) → List Cell → Blocks
overwritten blocks name offset new = overwritten_if blocks name offset new (live blocks name)

-- n cells of a block, from an offset on, if that lives
abbrev pub held : (n offset : ℕ) → Option Block → List Cell
held n offset None = []
held n offset (Some b) = take n (drop offset b.cells)
