use Rattle.std.proofs.Common.{◌∙◌, ap, pos, ◌^◌}
use Rattle.ak_words.specs.Num.{num}
use Rattle.ak_words.specs.Wrapped.{residue}
use Rattle.ak_words.proofs.Numbers.{num-residue, value_read}
use Rattle.ak_words.proofs.number.Num.to_bits.Goals as goal

pub returns-clause-round_trip : goal.returns-clause-round_trip
returns-clause-round_trip c = ap (λ r. num c.args.self.ty (pos r)) (c.bit_pattern.ensures ∙ ap (residue (2 ^ c.args.self.ty.bits)) (value_read c.args.self)) ∙ num-residue c.args.self
