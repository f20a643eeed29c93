use Rattle.std.proofs.Common.{◌∙◌, arith}
use Rattle.flat_words.proofs.Sums.{difference_is}
use Rattle.flat_words.proofs.arithmetic.sub.Goals as goal

pub returns : goal.returns
returns c = c.word_in.ensures ∙ difference_is c.args.t c.args.a c.args.b (omega (arith, c.ranges.b))
