use Rattle.std.proofs.Common.{◌≡◌, map, take}
use Rattle.block_store.specs.declared.values.Cell.TheVariants.{Byte}
use Rattle.block_store.proofs.cells.literal_cells.Given as goal

abbrev pub invariant-loop-byte : goal.invariant-loop-byte
invariant-loop-byte l = l.cells.items ≡ map Byte (take l.byte-index l.bytes)
