use Rattle.std.proofs.Common.{◌≡◌, ◌∙◌, ap, arith, lit<, to_z, of_z}
use Rattle.std.specs.Int.{w128}
use Rattle.ak_words.specs.declared.int_type.IntType.{IntType}
use Rattle.ak_words.specs.Wrapped.{residue, bit_pattern}
use Rattle.source_expressions.proofs.Pieces.{residue_below}
use Rattle.source_expressions.proofs.printing.low_byte.Goals as goal

pub overflow_cast-result : goal.overflow_cast-result
overflow_cast-result c =
    let z = to_z w128 (of_z w128 c.args.n) in
    let e : c.bit_pattern.result ≡ residue 256 z = c.bit_pattern.ensures ∙ ap (λ (t : IntType). bit_pattern t z) c.char.ensures in
    let b = residue_below 256 z (lit< tt) in
    omega (arith, e, b)
