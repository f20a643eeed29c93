use Rattle.std.proofs.Common.{◌≡◌, ◌≤◌, length}
use Rattle.struct_ir.specs.Views.{nodes_view}
use Rattle.pin_flow.specs.Slots.{bases_below}
use Rattle.pin_flow.proofs.slots.bases_of.Given as goal

-- those so far
abbrev pub invariant-loop-b : goal.invariant-loop-b
invariant-loop-b l = record {
  those : l.bases.items ≡ bases_below l.b (nodes_view l.f.nodes.items);
  few : length l.bases.items ≤ l.b;
}
