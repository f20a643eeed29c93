use Rattle.std.proofs.Common.{List, ◌++◌, ◌≡◌, length}
use Rattle.struct_ir.specs.Structured.{row_size, node_size}
use Rattle.struct_ir.specs.declared.code.Node.{Node as CodeNode}
use Rattle.struct_ir.specs.Views.{node_view, nodes_view}
use Rattle.pin_flow.specs.Live.{live}
use Rattle.pin_frames.specs.Views.{lives_view}
use Rattle.pin_frames.proofs.FreeRows.{IsFree}
use Rattle.pin_frames.proofs.unlisted.+frees.Given as goal

abbrev pub decreases-free_row : goal.decreases-free_row
decreases-free_row l = row_size (nodes_view l.rows.now)

abbrev pub decreases-free_node : goal.decreases-free_node
decreases-free_node l = node_size (node_view l.n.now)

-- what is behind the nodes that are left is known, and wants no slot
abbrev pub invariant-free_row-row : goal.invariant-free_row-row
invariant-free_row-row l = (rest : List CodeNode) × (l.fn.rows ≡ l.left ++ rest) × (l.on ≡ live l.slot l.b (nodes_view rest) (lives_view l.after)) × IsFree l.slot l.b (nodes_view rest) (lives_view l.after)

abbrev pub decreases-free_row-row : goal.decreases-free_row-row
decreases-free_row-row l = length l.left
