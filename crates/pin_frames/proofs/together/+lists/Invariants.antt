use Rattle.std.proofs.Common.{List, ◌++◌, ◌≡◌, ◌≤◌, ◌+◌, length, take, drop, true}
use Rattle.struct_ir.specs.Structured.{row_size, node_size}
use Rattle.struct_ir.specs.declared.code.Node.{Node as CodeNode}
use Rattle.struct_ir.specs.Views.{node_view, nodes_view}
use Rattle.pin_flow.specs.Live.{live}
use Rattle.pin_flow.specs.Slots.{slot_in}
use Rattle.mark_sets.specs.Added.{loops}
use Rattle.mark_sets.specs.Homes.{Tells, lives_in}
use Rattle.pin_frames.specs.inner.Together.{used_listed, AreKept}
use Rattle.pin_frames.proofs.together.+lists.Given as goal

abbrev pub decreases-list_row : goal.decreases-list_row
decreases-list_row l = row_size (nodes_view l.rows.now)

abbrev pub decreases-list_node : goal.decreases-list_node
decreases-list_node l = node_size (node_view l.n.now)

abbrev pub decreases-list_loop : goal.decreases-list_loop
decreases-list_loop l = row_size (nodes_view l.body.now) + row_size (nodes_view l.step.now) + 1

-- the nodes behind those that are left have their lists, and the others are as they were
abbrev pub invariant-list_row-row : goal.invariant-list_row-row
invariant-list_row-row l = record {
  few : l.left ≤ length l.fn.rows;
  next : l.next ≡ l.fn.next + loops (nodes_view (drop l.left l.fn.rows));
  made : (done : List CodeNode) × (l.rows ≡ take l.left l.fn.rows ++ done) × (nodes_view done ≡ used_listed (slot_in l.outline.homes.bases.items) l.outline.homes.bases.items (nodes_view (drop l.left l.fn.rows)) (λ b. lives_in l.fn.on.items l.out l.end (slot_in l.outline.homes.bases.items b)));
  used : Tells l.outline.homes.bases.items l.set.items (λ i b. live i b (nodes_view (drop l.left l.fn.rows)) (lives_in l.fn.on.items l.out l.end i));
  kept : l.kept ≡ true → AreKept l.outline.homes.bases.items (nodes_view (drop l.left l.fn.rows)) l.fn.on.items l.out l.end;
}

abbrev pub decreases-list_row-row : goal.decreases-list_row-row
decreases-list_row-row l = l.left
