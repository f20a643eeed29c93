use Rattle.std.proofs.Common.{◌∙◌, ap, to_z, of_z}
use Rattle.std.specs.Int.{w128}
use Rattle.ak_words.specs.declared.int_type.IntType.{IntType}
use Rattle.ak_words.specs.IntType.{unsigned_long}
use Rattle.ak_words.specs.Wrapped.{bit_pattern}
use Rattle.ak_words.proofs.Numbers.{value_read}
use Rattle.flat_words.proofs.words.number_word.Goals as goal

pub returns : goal.returns
returns c = c.bit_pattern.ensures ∙ ap (λ (t : IntType). bit_pattern t (to_z w128 (of_z w128 c.args.n.value))) c.unsigned_long.ensures ∙ ap (bit_pattern unsigned_long) (value_read c.args.n)
