use Rattle.std.proofs.Common.{map, drop}
use Rattle.struct_ir.specs.Views.{place_view}
use Rattle.pin_flow.specs.Slots.{has_base}
use Rattle.pin_flow.specs.inner.Marked.{IsLeft}
use Rattle.pin_flow.proofs.slots.mark_places.Given as goal

-- with those that are left, all are marked
abbrev pub invariant-loop-a : goal.invariant-loop-a
invariant-loop-a l = IsLeft l.fn.seen.items l.seen.items (λ b. has_base b (map place_view (drop l.a-index l.places))) (λ b. has_base b (map place_view l.places))
