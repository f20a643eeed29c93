use Rattle.std.proofs.Common.{◌≡◌, drop}
use Rattle.struct_ir.specs.Views.{nodes_view}
use Rattle.pin_flow.specs.Slots.{slot_if}
use Rattle.pin_frames.specs.inner.Place.{listed_each}
use Rattle.pin_frames.proofs.placing.list_in_turn.Given as goal

-- with the registers that are left, it is what is to be made
abbrev pub invariant-loop-b : goal.invariant-loop-b
invariant-loop-b l = listed_each (slot_if l.bases) (drop l.b-index l.bases) (nodes_view l.code.items) ≡ listed_each (slot_if l.bases) l.bases (nodes_view l.fn.rows.items)
