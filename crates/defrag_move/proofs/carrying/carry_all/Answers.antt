use Rattle.std.proofs.Common.{arith}
use Rattle.std.proofs.lemmas.Option.{slice_get-get_or}
use Rattle.defrag_move.proofs.Leading.{can_turn}
use Rattle.defrag_move.proofs.carrying.carry_all.Goals as goal

pub carry-requires-clause-in_use : goal.carry-requires-clause-in_use
carry-requires-clause-in_use c =
    (can_turn c.args.start c.args.moves.now c.args.owners.now c.loop-i.i _ _ (slice_get-get_or c.args.moves.now c.loop-i.i (record { from = 0; to = 0; size = 0 }) c.loop-i-test.true) (slice_get-get_or c.args.owners.now c.loop-i.i 0 (omega (arith, c.requires.as_many, c.loop-i-test.true))) c.loop-i.table c.loop-i.bytes c.loop-i.invariant.can).0

pub carry-requires-clause-from : goal.carry-requires-clause-from
carry-requires-clause-from c =
    (can_turn c.args.start c.args.moves.now c.args.owners.now c.loop-i.i _ _ (slice_get-get_or c.args.moves.now c.loop-i.i (record { from = 0; to = 0; size = 0 }) c.loop-i-test.true) (slice_get-get_or c.args.owners.now c.loop-i.i 0 (omega (arith, c.requires.as_many, c.loop-i-test.true))) c.loop-i.table c.loop-i.bytes c.loop-i.invariant.can).1.from

pub carry-requires-clause-to : goal.carry-requires-clause-to
carry-requires-clause-to c =
    (can_turn c.args.start c.args.moves.now c.args.owners.now c.loop-i.i _ _ (slice_get-get_or c.args.moves.now c.loop-i.i (record { from = 0; to = 0; size = 0 }) c.loop-i-test.true) (slice_get-get_or c.args.owners.now c.loop-i.i 0 (omega (arith, c.requires.as_many, c.loop-i-test.true))) c.loop-i.table c.loop-i.bytes c.loop-i.invariant.can).1.to
