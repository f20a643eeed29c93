use Rattle.std.proofs.Common.{◌≡◌, ◌-◌, ◌≤◌, length}
use Rattle.std.specs.Vec.{vec_len, vec_capacity}
use Rattle.sub_heaps.specs.SubHeaps.{IsSound}
use Rattle.move_plan.specs.Holding.{is_pinned}
use Rattle.evacuate.proofs.Walked.{Evacuating}
use Rattle.evacuate.proofs.evacuating.evacuate.Given as goal

-- the sub-heaps from a number on were gone through
abbrev pub invariant-loop-number : goal.invariant-loop-number
invariant-loop-number l = record {
  sound : IsSound l.heaps;
  some : 1 ≤ l.number;
  len : vec_len l.tails ≡ l.heaps.count;
  room : length l.heaps.objects ≤ vec_capacity l.into;
  capacity : vec_capacity l.fn.into ≤ vec_capacity l.into;
  so_far : Evacuating (is_pinned l.pins) l.heaps l.number l.into.items l.emptied l.tails.items;
}

abbrev pub decreases-loop-number : goal.decreases-loop-number
decreases-loop-number l = l.number - 1
