use Rattle.std.proofs.Common.{◌≡◌, map, take}
use Rattle.struct_ir.specs.Views.{place_view}
use Rattle.pin_flow.specs.Slots.{slot_if}
use Rattle.translate_pass.specs.inner.Insert.{place_through}
use Rattle.translate_pass.proofs.inserting.insert_places.Given as goal

-- so far
abbrev pub invariant-loop-a : goal.invariant-loop-a
invariant-loop-a l = map place_view l.out.items ≡ map (place_through (slot_if l.bases)) (map place_view (take l.a-index l.places))
