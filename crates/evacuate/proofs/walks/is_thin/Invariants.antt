use Rattle.std.proofs.Common.{◌≡◌, ◌+◌, ◌*◌, ◌≤◌, length}
use Rattle.sub_heaps.specs.SubHeaps.{IsSound, objects_in}
use Rattle.move_plan.specs.Holding.{is_pinned}
use Rattle.move_plan.proofs.Rest.{rest_from}
use Rattle.evacuate.proofs.Steps.{Seen}
use Rattle.evacuate.proofs.walks.is_thin.Given as goal

-- no pinned object was seen, and what those that were seen hold
abbrev pub invariant-loop-object : goal.invariant-loop-object
invariant-loop-object l = record {
  sound : IsSound l.heaps;
  size : l.size ≡ l.heaps.size;
  start : l.start ≡ l.number * l.heaps.size;
  above : l.start ≤ l.at;
  within : l.at ≤ l.start + l.heaps.size;
  seen : Seen (is_pinned l.pins) l.heaps l.number l.at l.held;
}

abbrev pub decreases-loop-object : goal.decreases-loop-object
decreases-loop-object l = length (rest_from l.at (objects_in l.heaps l.number))
