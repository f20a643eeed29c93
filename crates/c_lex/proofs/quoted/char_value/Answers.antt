use Rattle.c_lex.specs.Quoted.{char_value}
use Rattle.c_lex.proofs.Chars.{char_is}
use Rattle.c_lex.proofs.quoted.char_value.Goals as goal

pub returns : goal.returns
unfolding char_value
returns c = char_is _ _ _ _ _ c.args.byte c.convert.ensures.value c.from_bits-char.ensures.value c.from.ensures c.int.ensures c.char.ensures
