use Rattle.std.proofs.Common.{arith}
use Rattle.flat_machine.proofs.Left.{all_left, free_left, next_left}
use Rattle.flat_machine.proofs.leaving.end_all.Goals as goal

pub loop-index-preserved : goal.loop-index-preserved
loop-index-preserved c =
    next_left c.args.words.now c.loop-index.index c.loop-index.arena c.free.new.self _ (omega (arith, c.loop-index-test.true)) c.loop-index.invariant
    (free_left c.free.result c.loop-index.arena c.free.new.self _ c.free.ensures.answer c.free.ensures.null c.free.ensures.freed c.free.ensures.unchanged)

pub returns : goal.returns
returns c = all_left c.args.words.now c.loop-index.index c.loop-index.arena _ (omega (arith, c.loop-index-test.false)) c.loop-index.invariant
