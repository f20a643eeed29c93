use Rattle.std.proofs.Common.{◌≡◌, ◌/◌, ◌<◌, ◌≤◌, drop, take}
use Rattle.std.specs.List.{AllByRecursion as Each}
use Rattle.std.specs.Vec.{vec_len, vec_capacity}
use Rattle.evacuate.specs.inner.Tails.{lowered}
use Rattle.evacuate.proofs.emptying.take_back.Given as goal

-- to take the moves back that are left leads where it leads to take all back
abbrev pub invariant-loop-moves : goal.invariant-loop-moves
invariant-loop-moves l = record {
  some : l.kept ≤ vec_len l.moves;
  moves : take l.kept l.moves.items ≡ take l.kept l.fn.moves.items;
  tails : lowered l.size (drop l.kept l.moves.items) l.tails.items ≡ lowered l.size (drop l.kept l.fn.moves.items) l.fn.tails.items;
  numbers : Each (λ m. m.to / l.size < vec_len l.tails) (drop l.kept l.moves.items);
  len : vec_len l.tails ≡ vec_len l.fn.tails;
  capacity : vec_capacity l.moves ≡ vec_capacity l.fn.moves;
}

abbrev pub decreases-loop-moves : goal.decreases-loop-moves
decreases-loop-moves l = vec_len l.moves
