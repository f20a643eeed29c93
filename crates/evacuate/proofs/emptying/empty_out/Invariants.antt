use Rattle.std.proofs.Common.{◌≡◌, ◌*◌, ◌≤◌, List, length}
use Rattle.std.specs.Vec.{vec_len, vec_capacity}
use Rattle.sub_heaps.specs.declared.moves.Move.{Move}
use Rattle.sub_heaps.specs.SubHeaps.{IsSound, objects_in}
use Rattle.move_plan.proofs.Rest.{rest_from}
use Rattle.evacuate.proofs.Filling.{Filling}
use Rattle.evacuate.proofs.emptying.empty_out.Given as goal

-- some objects were moved, and the rest is to come
abbrev pub invariant-loop-object : goal.invariant-loop-object
invariant-loop-object l = record {
  sound : IsSound l.heaps;
  size : l.size ≡ l.heaps.size;
  kept : l.kept ≡ vec_len l.fn.moves;
  start : l.number * l.heaps.size ≤ l.from;
  len : vec_len l.tails ≡ vec_len l.fn.tails;
  capacity : vec_capacity l.fn.moves ≤ vec_capacity l.moves;
  filling : (done : List Move) × Filling l.heaps.size l.number (objects_in l.heaps l.number) (rest_from l.from (objects_in l.heaps l.number)) l.fn.tails.items l.tails.items l.fn.moves.items l.moves.items done;
}

abbrev pub decreases-loop-object : goal.decreases-loop-object
decreases-loop-object l = length (rest_from l.from (objects_in l.heaps l.number))
