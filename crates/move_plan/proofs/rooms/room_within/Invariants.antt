use Rattle.std.proofs.Common.{◌≡◌, ◌+◌, ◌*◌, ◌≤◌, length}
use Rattle.sub_heaps.specs.SubHeaps.{IsSound, objects_in}
use Rattle.move_plan.specs.Holding.{is_pinned}
use Rattle.move_plan.specs.Stretches.{room_in}
use Rattle.move_plan.proofs.Rest.{rest_from}
use Rattle.move_plan.proofs.Sweep.{room_from}
use Rattle.move_plan.proofs.rooms.room_within.Given as goal

-- the room by what was seen so far and by the objects that are left is the room of the sub-heap
abbrev pub invariant-loop-object : goal.invariant-loop-object
invariant-loop-object l = record {
  sound : IsSound l.heaps;
  reader : l.reader ≡ l.heaps.objects;
  end : l.end ≡ l.number * l.heaps.size + l.heaps.size;
  size : l.size ≡ l.heaps.size;
  start : l.number * l.heaps.size ≤ l.at;
  within : l.at ≤ l.end;
  held : l.from + l.held ≤ l.at;
  room : room_from (is_pinned l.pins) l.from l.held l.end l.greatest (rest_from l.at (objects_in l.heaps l.number)) ≡ room_in (is_pinned l.pins) l.heaps l.number;
}

abbrev pub decreases-loop-object : goal.decreases-loop-object
decreases-loop-object l = length (rest_from l.at (objects_in l.heaps l.number))
