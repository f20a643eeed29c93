use Rattle.std.proofs.Common.{List, ◌++◌, ◌≡◌, ◌+◌, length}
use Rattle.struct_ir.specs.Structured.{row_size, node_size}
use Rattle.struct_ir.specs.declared.code.Node.{Node as CodeNode}
use Rattle.struct_ir.specs.Views.{node_view, nodes_view}
use Rattle.pin_flow.specs.Live.{live}
use Rattle.mark_sets.specs.Homes.{Tells, lives_in}
use Rattle.mark_sets.proofs.used.+uses.Given as goal

abbrev pub decreases-used_row : goal.decreases-used_row
decreases-used_row l = row_size (nodes_view l.rows.now)

abbrev pub decreases-used_node : goal.decreases-used_node
decreases-used_node l = node_size (node_view l.n.now)

abbrev pub decreases-head_used : goal.decreases-head_used
decreases-head_used l = row_size (nodes_view l.body.now) + row_size (nodes_view l.step.now) + 1

-- what is behind the nodes that are left is known
abbrev pub invariant-used_row-row : goal.invariant-used_row-row
invariant-used_row-row l = (rest : List CodeNode) × (l.fn.rows ≡ l.left ++ rest) × Tells l.homes.bases.items l.set.items (λ i b. live i b (nodes_view rest) (lives_in l.fn.on.items l.out l.end i))

abbrev pub decreases-used_row-row : goal.decreases-used_row-row
decreases-used_row-row l = length l.left
