use Rattle.std.proofs.Common.{◌∙◌}
use Rattle.flat_words.proofs.Bits.{or_is}
use Rattle.flat_words.proofs.bitwise.or_bits.Goals as goal

pub returns : goal.returns
returns c = c.word_in.ensures ∙ or_is c.args.t c.args.a c.args.b
