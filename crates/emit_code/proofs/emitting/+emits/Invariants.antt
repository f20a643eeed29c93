use Rattle.std.proofs.Common.{List, ◌++◌, ◌+◌, ◌*◌, ◌≡◌, length, reverse, map}
use Rattle.struct_ir.specs.declared.code.Node.{Node as CodeNode}
use Rattle.struct_ir.specs.InstrViews.{instr_view}
use Rattle.struct_ir.specs.Structured.{node_size, row_size}
use Rattle.struct_ir.specs.Views.{node_view, nodes_view}
use Rattle.emit_code.specs.inner.Layout.{long, emit}
use Rattle.emit_code.proofs.emitting.+emits.Given as goal

abbrev pub decreases-emit_row : goal.decreases-emit_row
decreases-emit_row l = 2 * row_size (nodes_view l.nodes.now)

abbrev pub decreases-emit_one : goal.decreases-emit_one
decreases-emit_one l = 2 * node_size (node_view l.node.now)

abbrev pub decreases-emit_if : goal.decreases-emit_if
decreases-emit_if l = 2 * row_size (nodes_view l.one.now) + 2 * row_size (nodes_view l.other.now) + 1

abbrev pub decreases-emit_loop : goal.decreases-emit_loop
decreases-emit_loop l = 2 * row_size (nodes_view l.body.now) + 2 * row_size (nodes_view l.step.now) + 1

-- what is behind the nodes that are left is in the code
abbrev pub invariant-emit_row-row : goal.invariant-emit_row-row
invariant-emit_row-row l = (rest : List CodeNode) × (l.fn.nodes ≡ l.left ++ rest) × (l.at + long (nodes_view rest) ≡ l.fn.end)
    × (map instr_view l.code.items ≡ map instr_view l.initial.code.items ++ reverse (emit l.at l.fn.out l.fn.next (nodes_view rest)))

abbrev pub decreases-emit_row-row : goal.decreases-emit_row-row
decreases-emit_row-row l = length l.left
