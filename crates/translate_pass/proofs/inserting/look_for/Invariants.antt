use Rattle.std.proofs.Common.{◌≡◌, map, drop}
use Rattle.struct_ir.specs.Nodes.{Nodes}
use Rattle.struct_ir.specs.Views.{place_view, followed}
use Rattle.pin_flow.specs.Slots.{slot_if}
use Rattle.translate_pass.specs.inner.Insert.{with_looks}
use Rattle.translate_pass.proofs.inserting.look_for.Given as goal

-- with those that are left, all are there
abbrev pub invariant-loop-a : goal.invariant-loop-a
invariant-loop-a l =
    (rest : Nodes) → followed l.out.items (with_looks (slot_if l.bases) l.place (map place_view (drop l.a-index l.places)) rest) ≡ followed l.initial.out.items (with_looks (slot_if l.bases) l.place (map place_view l.places) rest)
