use Rattle.std.proofs.Common.{arith}
use Rattle.mark_sets.proofs.Wordly.{united}
use Rattle.mark_sets.proofs.words.unite.Goals as goal

pub returns : goal.returns
returns c =
    united c.args.into.now.items c.words.into.items c.args.other.now (λ j h. c.words.invariant.below j (omega arith)) (λ j h. c.words.invariant.above j (omega arith))
