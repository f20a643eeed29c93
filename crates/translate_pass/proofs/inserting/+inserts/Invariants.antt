use Rattle.std.proofs.Common.{◌≡◌}
use Rattle.struct_ir.specs.Views.{nodes_view, followed}
use Rattle.pin_flow.specs.Slots.{slot_if}
use Rattle.translate_pass.specs.inner.Insert.{inserted}
use Rattle.translate_pass.proofs.inserting.+inserts.Given as goal

-- with what is made of the nodes that are left, it is what is to be made
abbrev pub invariant-insert_row-loop-n : goal.invariant-insert_row-loop-n
invariant-insert_row-loop-n l = followed l.out.items (inserted (slot_if l.bases) (nodes_view l.n-iterator.rest.items)) ≡ inserted (slot_if l.bases) (nodes_view l.fn.rows.items)
