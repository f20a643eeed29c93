use Rattle.std.proofs.Common.{◌≡◌, ◌-◌}
use Rattle.sub_heaps.specs.SubHeaps.{IsSound}
use Rattle.move_plan.specs.Holding.{is_pinned}
use Rattle.move_plan.specs.Stretches.{room_in, room_of}
use Rattle.move_plan.proofs.Numbered.{greatest_from}
use Rattle.move_plan.proofs.rooms.room.Given as goal

-- the greatest so far and the rooms of the sub-heaps that are left make the room of all
abbrev pub invariant-loop-number : goal.invariant-loop-number
invariant-loop-number l = record {
  sound : IsSound l.heaps;
  end : l.number-end ≡ l.heaps.count;
  room : greatest_from (room_in (is_pinned l.pins) l.heaps) l.greatest l.number (l.number-end - l.number) ≡ room_of (is_pinned l.pins) l.heaps;
}
