use Rattle.std.proofs.Common.{List, ℕ, Bool, ◌++◌, ◌≡◌, ◌+◌, length}
use Rattle.struct_ir.specs.Structured.{row_size, node_size}
use Rattle.struct_ir.specs.declared.code.Node.{Node as CodeNode}
use Rattle.struct_ir.specs.Views.{node_view, nodes_view}
use Rattle.pin_flow.specs.Live.{live}
use Rattle.mark_sets.specs.Heads.{TellsBy, lives_by, HasHeads}
use Rattle.mark_sets.proofs.heads.+heads.Given as goal

abbrev pub decreases-heads_row : goal.decreases-heads_row
decreases-heads_row l = row_size (nodes_view l.rows.now)

abbrev pub decreases-heads_node : goal.decreases-heads_node
decreases-heads_node l = node_size (node_view l.n.now)

abbrev pub decreases-heads_loop : goal.decreases-heads_loop
decreases-heads_loop l = row_size (nodes_view l.body.now) + row_size (nodes_view l.step.now) + 1

-- what is behind the nodes that are left is known
abbrev pub invariant-heads_row-row : goal.invariant-heads_row-row
invariant-heads_row-row l = (rest : List CodeNode) × (l.fn.rows ≡ l.left ++ rest)
    × TellsBy l.homes.bases.items l.used (λ i b all. live i b (nodes_view rest) (lives_by l.fn.on l.out l.end i all))
    × HasHeads l.homes.bases.items l.fn.heads.items l.heads.items (nodes_view rest)

abbrev pub decreases-heads_row-row : goal.decreases-heads_row-row
decreases-heads_row-row l = length l.left
