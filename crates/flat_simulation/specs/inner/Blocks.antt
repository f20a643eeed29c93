-- A block as it is made.
use Rattle.std.specs.Prelude.{ℕ, replicate}
use Rattle.block_store.specs.declared.values.BlockKind.{BlockKind}
use Rattle.block_store.specs.declared.values.Cell.{Cell}
use Rattle.block_store.specs.Blocks.{Block}

-- each cell is the first
abbrev pub new_block : ℕ → BlockKind → Cell → Block
new_block size kind first = record { kind = kind; cells = replicate size first }
