use Rattle.std.proofs.Common.{◌≡◌, take, drop}
use Rattle.block_store.specs.Blocks.{with_cells}
use Rattle.block_store.proofs.cells.copy_inside.Given as goal

abbrev pub invariant-loop-k : goal.invariant-loop-k
invariant-loop-k l = l.cells ≡ with_cells l.initial.cells l.to (take l.k (drop l.from l.initial.cells))
