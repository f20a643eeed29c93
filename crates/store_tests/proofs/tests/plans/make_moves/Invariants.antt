use Rattle.std.proofs.Common.{◌≡◌, drop}
use Rattle.move_plan.specs.Holding.{is_pinned}
use Rattle.sub_heaps.specs.Moving.{AreLegal, after_moves}
use Rattle.store_tests.proofs.tests.plans.make_moves.Given as goal

-- the moves that are left are legal, and lead to where all lead
abbrev pub invariant-loop-m : goal.invariant-loop-m
invariant-loop-m l = record {
  legal : AreLegal (is_pinned l.pins) l.heaps (drop l.m-index l.plan.moves);
  after : after_moves (drop l.m-index l.plan.moves) l.heaps ≡ after_moves l.plan.moves l.fn.heaps;
  most : l.heaps.most ≡ l.fn.heaps.most;
}
