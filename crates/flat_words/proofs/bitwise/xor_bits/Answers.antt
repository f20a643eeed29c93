use Rattle.std.proofs.Common.{◌∙◌}
use Rattle.flat_words.proofs.Bits.{xor_is}
use Rattle.flat_words.proofs.bitwise.xor_bits.Goals as goal

pub returns : goal.returns
returns c = c.word_in.ensures ∙ xor_is c.args.t c.args.a c.args.b
