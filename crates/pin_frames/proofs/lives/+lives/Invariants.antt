use Rattle.std.proofs.Common.{List, ◌++◌, ◌≡◌, length}
use Rattle.struct_ir.specs.Structured.{row_size, node_size}
use Rattle.struct_ir.specs.declared.code.Node.{Node as CodeNode}
use Rattle.struct_ir.specs.Views.{node_view, nodes_view}
use Rattle.pin_flow.specs.Live.{live}
use Rattle.pin_frames.specs.Views.{lives_view}
use Rattle.pin_frames.proofs.lives.+lives.Given as goal

abbrev pub decreases-live_row : goal.decreases-live_row
decreases-live_row l = row_size (nodes_view l.rows.now)

abbrev pub decreases-live_node : goal.decreases-live_node
decreases-live_node l = node_size (node_view l.n.now)

-- what is behind the nodes that are left is known
abbrev pub invariant-live_row-row : goal.invariant-live_row-row
invariant-live_row-row l = (rest : List CodeNode) × (l.fn.rows ≡ l.left ++ rest) × (l.on ≡ live l.slot l.b (nodes_view rest) (lives_view l.after))

abbrev pub decreases-live_row-row : goal.decreases-live_row-row
decreases-live_row-row l = length l.left
