use Rattle.std.proofs.Common.{◌≡◌, drop}
use Rattle.struct_ir.specs.Erased.{erased}
use Rattle.struct_ir.specs.Views.{nodes_view, followed}
use Rattle.struct_ir.proofs.erasing.+erases.Given as goal

-- so far
abbrev pub invariant-erase_row-loop-n : goal.invariant-erase_row-loop-n
invariant-erase_row-loop-n l = followed l.out.items (erased (nodes_view (drop l.n-index l.nodes))) ≡ erased (nodes_view l.nodes)
