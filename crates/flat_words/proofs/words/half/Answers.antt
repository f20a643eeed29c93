use Rattle.flat_words.proofs.Reading.{half_signed, half_unsigned}
use Rattle.flat_words.proofs.words.half.Goals as goal

pub returns-then-t-clause-far : goal.returns-then-t-clause-far
returns-then-t-clause-far c = (half_signed c.args.t c.if-t.true).0

pub returns-then-t-clause-small : goal.returns-then-t-clause-small
returns-then-t-clause-small c = (half_signed c.args.t c.if-t.true).1

pub returns-else-t-clause-far : goal.returns-else-t-clause-far
returns-else-t-clause-far c = half_unsigned c.args.t c.if-t.false
