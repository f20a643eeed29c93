use Rattle.std.proofs.Common.{arith}
use Rattle.mark_sets.proofs.HomeSlots.{none_in}
use Rattle.mark_sets.proofs.words.is_empty.Goals as goal

pub returns : goal.returns
returns c = λ r. none_in c.args.set.now c.loop-word.word-index c.loop-word.invariant (omega arith)
