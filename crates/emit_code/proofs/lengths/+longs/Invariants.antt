use Rattle.std.proofs.Common.{List, ◌++◌, ◌≡◌, length}
use Rattle.struct_ir.specs.declared.code.Node.{Node as CodeNode}
use Rattle.struct_ir.specs.Structured.{node_size, row_size}
use Rattle.struct_ir.specs.Views.{node_view, nodes_view}
use Rattle.emit_code.specs.inner.Layout.{long}
use Rattle.emit_code.proofs.lengths.+longs.Given as goal

abbrev pub decreases-long_of : goal.decreases-long_of
decreases-long_of l = row_size (nodes_view l.nodes.now)

abbrev pub decreases-long_of_node : goal.decreases-long_of_node
decreases-long_of_node l = node_size (node_view l.node.now)

-- what is behind the nodes that are left is counted
abbrev pub invariant-long_of-row : goal.invariant-long_of-row
invariant-long_of-row l = (rest : List CodeNode) × (l.fn.nodes ≡ l.left ++ rest) × (l.sum ≡ long (nodes_view rest))

abbrev pub decreases-long_of-row : goal.decreases-long_of-row
decreases-long_of-row l = length l.left
