use Rattle.std.proofs.Common.{◌∙◌}
use Rattle.flat_words.proofs.Sums.{sum_is}
use Rattle.flat_words.proofs.arithmetic.add.Goals as goal

pub returns : goal.returns
returns c = c.word_in.ensures ∙ sum_is c.args.t c.args.a c.args.b
