use Rattle.std.proofs.Common.{◌≡◌, drop}
use Rattle.struct_ir.specs.Views.{nodes_view}
use Rattle.struct_ir.specs.Valid.{are_nodes}
use Rattle.struct_ir.specs.ValidViews.{scope_view, around_view}
use Rattle.struct_ir.proofs.valid.+valid.Given as goal

-- what is left decides
abbrev pub invariant-are_nodes-loop-n : goal.invariant-are_nodes-loop-n
invariant-are_nodes-loop-n l = are_nodes (scope_view l.x) (around_view l.around) (nodes_view (drop l.n-index l.nodes)) ≡ are_nodes (scope_view l.x) (around_view l.around) (nodes_view l.nodes)
