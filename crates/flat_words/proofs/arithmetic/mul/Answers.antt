use Rattle.std.proofs.Common.{◌∙◌}
use Rattle.flat_words.proofs.Sums.{product_is}
use Rattle.flat_words.proofs.arithmetic.mul.Goals as goal

pub returns : goal.returns
returns c = c.word_in.ensures ∙ product_is c.args.t c.args.a c.args.b
