use Rattle.std.proofs.Common.{◌≡◌, None}
use Rattle.struct_ir.specs.Valid.{last_list}
use Rattle.struct_ir.specs.Views.{nodes_view, followed}
use Rattle.code_file.specs.Calls.{filled}
use Rattle.code_load.proofs.filling.+fills.Given as goal

-- with what is made of the nodes that are left, it is what is to be made
abbrev pub invariant-fill_row-loop-n : goal.invariant-fill_row-loop-n
invariant-fill_row-loop-n l = followed l.out.items (filled (last_list None (nodes_view l.out.items)) (nodes_view l.n-iterator.rest.items)) ≡ filled None (nodes_view l.fn.nodes.items)
