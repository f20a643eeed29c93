use Rattle.std.proofs.Common.{◌≡◌, drop}
use Rattle.move_plan.specs.Holding.{is_pinned}
use Rattle.sub_heaps.specs.Moving.{AreLegal}
use Rattle.arena_meaning.specs.Moves.{after_plan}
use Rattle.defrag_move.proofs.arena.Arena.apply.Given as goal

-- the moves that are left are legal, and lead where all of them do
abbrev pub invariant-loop-next : goal.invariant-loop-next
invariant-loop-next l = record {
  legal : AreLegal (is_pinned l.pins) l.self.heaps (drop l.next-index l.moves);
  same : after_plan (drop l.next-index l.moves) l.self ≡ after_plan l.moves l.fn.self;
}
