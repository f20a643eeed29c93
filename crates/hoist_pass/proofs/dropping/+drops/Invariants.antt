use Rattle.std.proofs.Common.{◌≡◌, ◌≤◌, ◌+◌, ℕ}
use Rattle.struct_ir.specs.Structured.{row_size, node_size}
use Rattle.struct_ir.specs.Views.{node_view, nodes_view, followed}
use Rattle.pin_flow.specs.Held.{held}
use Rattle.pin_flow.specs.Marks.{in_turn, flow}
use Rattle.mark_sets.specs.Added.{loops, AreAdded}
use Rattle.mark_sets.specs.Views.{sets_view, ways_view}
use Rattle.hoist_pass.specs.inner.Hoist.{dropped_all}
use Rattle.hoist_pass.specs.inner.Sets.{bit, has_bit, states, ways_by}
use Rattle.hoist_pass.proofs.dropping.+drops.Given as goal

abbrev pub decreases-drop_row : goal.decreases-drop_row
decreases-drop_row l = row_size (nodes_view l.rows.items)

abbrev pub decreases-drop_node : goal.decreases-drop_node
decreases-drop_node l = node_size (node_view l.n)

-- the sets from the next number on are those of the nodes that are left; and with them, where control leaves the row and what is made of it are what they are to be
abbrev pub invariant-drop_row-loop-n : goal.invariant-drop_row-loop-n
invariant-drop_row-loop-n l = record {
  size : row_size (nodes_view l.n-iterator.rest.items) ≤ row_size (nodes_view l.fn.rows.items);
  next : l.next + loops (nodes_view l.n-iterator.rest.items) ≡ l.fn.next + loops (nodes_view l.fn.rows.items);
  added : AreAdded l.marks l.sets l.next (nodes_view l.n-iterator.rest.items);
  ways : (b : ℕ) → in_turn (ways_by (bit l.marks b) (ways_view l.ahead)) (flow (held b) (nodes_view l.n-iterator.rest.items) (states l.marks (sets_view l.ahead.on) b)) ≡ flow (held b) (nodes_view l.fn.rows.items) (states l.marks (sets_view l.fn.before) b);
  made : followed l.out.items (dropped_all (has_bit l.marks) (nodes_view l.n-iterator.rest.items) (states l.marks (sets_view l.ahead.on))) ≡ dropped_all (has_bit l.marks) (nodes_view l.fn.rows.items) (states l.marks (sets_view l.fn.before));
}
