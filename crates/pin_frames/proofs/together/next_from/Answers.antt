use Rattle.pin_frames.proofs.SlotSets.{rest_empty}
use Rattle.pin_frames.proofs.together.next_from.Goals as goal

pub returns-then-word-i-eq0-clause-none : goal.returns-then-word-i-eq0-clause-none
returns-then-word-i-eq0-clause-none c = rest_empty c.args.set.now c.args.i c.word.result c.word.ensures c.if-word-i-eq0.true
