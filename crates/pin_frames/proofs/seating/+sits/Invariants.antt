use Rattle.std.proofs.Common.{◌≡◌}
use Rattle.struct_ir.specs.Nodes.{Nodes}
use Rattle.struct_ir.specs.Views.{nodes_view, followed}
use Rattle.pin_frames.specs.inner.Place.{seated, cleared}
use Rattle.pin_frames.proofs.seating.+sits.Given as goal

-- with what is made of the nodes that are left, it is what is to be made
abbrev pub invariant-seat_row-loop-n : goal.invariant-seat_row-loop-n
invariant-seat_row-loop-n l = (tail : Nodes) → followed l.out.items (seated (cleared (nodes_view l.n-iterator.rest.items)) tail) ≡ seated (cleared (nodes_view l.fn.rows.items)) tail
