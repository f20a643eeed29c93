use Rattle.std.proofs.Common.{◌↔◌, drop}
use Rattle.std.specs.List.{All, AllByRecursion as Each}
use Rattle.move_plan.specs.Holding.{is_pinned}
use Rattle.move_plan.specs.inner.Spans.{IsWithin}
use Rattle.move_plan.proofs.legality.are_within.Given as goal

-- all moves are within where those that are left are
abbrev pub invariant-loop-m : goal.invariant-loop-m
invariant-loop-m l = Each (IsWithin (is_pinned l.pins) l.heaps) (drop l.m-index l.moves) ↔ All (IsWithin (is_pinned l.pins) l.heaps) l.moves
