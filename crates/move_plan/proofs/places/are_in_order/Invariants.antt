use Rattle.std.proofs.Common.{◌↔◌, drop}
use Rattle.move_plan.specs.inner.Spans.{AreInOrder}
use Rattle.move_plan.proofs.places.are_in_order.Given as goal

-- the spans are in order where those that are left are, from the end of the last one on
abbrev pub invariant-loop-span : goal.invariant-loop-span
invariant-loop-span l = AreInOrder l.end (drop l.span-index l.spans) ↔ AreInOrder 0 l.spans
