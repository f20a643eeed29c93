use Rattle.std.proofs.Common.{◌≡◌, ◌+◌, ◌*◌, ◌≤◌, ◌++◌, length}
use Rattle.sub_heaps.specs.SubHeaps.{IsSound}
use Rattle.move_plan.specs.Holding.{is_pinned}
use Rattle.move_plan.proofs.Rest.{rest_from}
use Rattle.move_plan.proofs.Slid.{slide_moves}
use Rattle.move_plan.proofs.sliding.slide.Given as goal

-- the moves so far and those of the objects that are left are the moves of all
abbrev pub invariant-loop-object : goal.invariant-loop-object
invariant-loop-object l = record {
  sound : IsSound l.heaps;
  reader : l.reader ≡ l.heaps.objects;
  size : l.size ≡ l.heaps.size;
  behind : l.below ≤ l.from;
  within : l.from ≤ l.heaps.count * l.heaps.size;
  room : l.into.room ≡ l.fn.into.room;
  left : length l.into.moves + length (rest_from l.from l.heaps.objects) ≤ l.into.room;
  moves : l.into.moves ++ slide_moves (is_pinned l.pins) l.size l.below (rest_from l.from l.heaps.objects) ≡ slide_moves (is_pinned l.pins) l.size 0 l.heaps.objects;
}

abbrev pub decreases-loop-object : goal.decreases-loop-object
decreases-loop-object l = length (rest_from l.from l.heaps.objects)
