use Rattle.std.proofs.Common.{◌∙◌, ap, arith, of_z}
use Rattle.std.proofs.lemmas.Int.{to_z-of_z}
use Rattle.std.specs.Int.{w128}
use Rattle.ak_words.proofs.Residues.{low_bits}
use Rattle.ak_words.proofs.Types.{width_bounds}
use Rattle.ak_words.proofs.int_type.IntType.bit_pattern.Goals as goal

pub returns : goal.returns
returns c = low_bits c.args.self.bits c.args.value _ (omega (arith, width_bounds c.args.self.bits c.args.self.known_width)) c.ranges.value (c.cast_unsigned.ensures ∙ ap (of_z w128) (to_z-of_z w128 c.args.value c.ranges.value))
