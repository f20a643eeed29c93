use Rattle.std.proofs.Common.{◌∙◌, ap, arith}
use Rattle.std.proofs.lemmas.Int.{ints}
use Rattle.ak_words.specs.declared.number.Num.{Num}
use Rattle.ak_words.specs.Wrapped.{bit_pattern, wrapped_value}
use Rattle.ak_words.proofs.Wraps.{bits-wrapped_value}
use Rattle.ak_words.proofs.number.Num.from_bits.Goals as goal

pub returns-clause-round_trip : goal.returns-clause-round_trip
returns-clause-round_trip c = λ h.
    ap (λ (n : Num). bit_pattern c.args.ty n.value) c.wrapping.ensures
    ∙ ap (λ z. bit_pattern c.args.ty (wrapped_value c.args.ty z)) (omega (arith, ints, c.from.ensures))
    ∙ bits-wrapped_value c.args.ty c.args.bits h
