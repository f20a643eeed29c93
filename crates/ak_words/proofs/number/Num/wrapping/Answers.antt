use Rattle.std.proofs.Common.{arith, ◌∙◌, ap, refl, pos}
use Rattle.std.proofs.Math.Pow.{pow_pos}
use Rattle.std.specs.Int.{w128}
use Rattle.std.proofs.lemmas.Int.{ints, to_z-of_z}
use Rattle.ak_words.specs.Wrapped.{wrapped_value}
use Rattle.ak_words.specs.inner.InRange.{residue-below}
use Rattle.ak_words.proofs.Wraps.{wrapped_value-residue}
use Rattle.ak_words.proofs.Numbers.{num_is}
use Rattle.ak_words.proofs.number.Num.wrapping.Goals as goal

pub from_pattern-requires : goal.from_pattern-requires
from_pattern-requires c = rw c.bit_pattern.ensures (residue-below _ _ (pow_pos c.args.ty.bits))

pub returns : goal.returns
returns c = num_is _ _ _ refl (omega (arith, ints, c.from_pattern.type_inv) ∙ c.from_pattern.ensures.value ∙ ap (λ n. wrapped_value c.args.ty (pos n)) c.bit_pattern.ensures ∙ wrapped_value-residue _ _ ∙ ap (wrapped_value c.args.ty) (to_z-of_z w128 c.args.value c.ranges.value))
