use Rattle.std.proofs.Common.{List, ◌++◌, ◌≡◌, ◌+◌, length, true}
use Rattle.struct_ir.specs.Structured.{row_size, node_size}
use Rattle.struct_ir.specs.declared.code.Node.{Node as CodeNode}
use Rattle.struct_ir.specs.Views.{node_view, nodes_view}
use Rattle.pin_flow.specs.Live.{live}
use Rattle.mark_sets.specs.Added.{loops}
use Rattle.mark_sets.specs.Homes.{Tells, lives_in}
use Rattle.pin_checker.specs.inner.Uses.{AreKept}
use Rattle.pin_checker.proofs.kept.+keeps.Given as goal

abbrev pub decreases-kept_row : goal.decreases-kept_row
decreases-kept_row l = row_size (nodes_view l.rows.now)

abbrev pub decreases-kept_node : goal.decreases-kept_node
decreases-kept_node l = node_size (node_view l.n.now)

abbrev pub decreases-kept_loop : goal.decreases-kept_loop
decreases-kept_loop l = row_size (nodes_view l.body.now) + row_size (nodes_view l.step.now) + 1

-- what is behind the nodes that are left is known
abbrev pub invariant-kept_row-row : goal.invariant-kept_row-row
invariant-kept_row-row l =
    (rest : List CodeNode) × (l.fn.rows ≡ l.left ++ rest) × (l.next ≡ l.fn.next + loops (nodes_view rest))
    × Tells l.outline.homes.bases.items l.set.items (λ i b. live i b (nodes_view rest) (lives_in l.fn.on.items l.out l.end i))
    × (l.kept ≡ true → AreKept l.outline.homes.bases.items (nodes_view rest) l.fn.on.items l.out l.end)

abbrev pub decreases-kept_row-row : goal.decreases-kept_row-row
decreases-kept_row-row l = length l.left
