use Rattle.std.proofs.Common.{◌∙◌, ap, arith, ◌<◌}
use Rattle.ak_words.specs.Num.{num}
use Rattle.ak_words.proofs.Types.{width_bounds}
use Rattle.ak_words.proofs.Replacements.{sum_replacement, difference_replacement, product_replacement, left_replacement, right_replacement, other_replacement}
use Rattle.ak_words.proofs.wrapping.replacement.Goals as goal

pub returns-in-Add : goal.returns-in-Add
returns-in-Add c = rw c.in-Add.is (c.wrapping.ensures ∙ sum_replacement c.args.a c.args.b)

pub returns-in-Sub : goal.returns-in-Sub
returns-in-Sub c = rw c.in-Sub.is (c.wrapping-in-Sub.ensures ∙ difference_replacement c.args.a c.args.b)

pub returns-in-Mul : goal.returns-in-Mul
returns-in-Mul c = rw c.in-Mul.is (c.wrapping-in-Mul.ensures ∙ product_replacement c.args.a c.args.b)

pub returns-in-Shl : goal.returns-in-Shl
returns-in-Shl c =
    let b = width_bounds c.args.a.ty.bits c.args.a.ty.known_width in
    let within : c.places.result < 64 = omega (arith, b.1, c.places.ensures.below) in
    rw c.in-Shl.is (c.wrapping-in-Shl.ensures ∙ left_replacement c.args.a c.args.b c.places.result c.places.ensures.value within)

pub returns-in-Shr : goal.returns-in-Shr
returns-in-Shr c = rw c.in-Shr.is (c.wrapping-in-Shr.ensures ∙ right_replacement c.args.a c.args.b c.places-in-Shr.result c.places-in-Shr.ensures.value)

pub returns-in_default : goal.returns-in_default
returns-in_default c =
    let d = c.in_default in
    c.wrapping-in_default.ensures ∙ ap (num c.args.a.ty) (other_replacement c.args.op c.args.a.ty c.args.a.value c.args.b.value d.not-Add d.not-Sub d.not-Mul d.not-Div d.not-Shl d.not-Shr)
