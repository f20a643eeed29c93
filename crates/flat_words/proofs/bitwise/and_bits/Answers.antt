use Rattle.std.proofs.Common.{◌∙◌}
use Rattle.flat_words.proofs.Bits.{and_is}
use Rattle.flat_words.proofs.bitwise.and_bits.Goals as goal

pub returns : goal.returns
returns c = c.word_in.ensures ∙ and_is c.args.t c.args.a c.args.b
