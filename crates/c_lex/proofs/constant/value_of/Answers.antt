use Rattle.std.proofs.Common.{◌≡◌, ◌*◌, ◌≤◌, ◌∙◌, length, arith, ap, take, take_all}
use Rattle.std.specs.Str.Parse.{digits_value}
use Rattle.c_lex.proofs.Digits.{next_digit}
use Rattle.c_lex.proofs.constant.value_of.Goals as goal

pub returns-in_err-checked_mul : goal.returns-in_err-checked_mul
returns-in_err-checked_mul c =
    let next = next_digit c.args.radix c.args.digits.now c.loop-digit.digit-index c.requires (omega arith) in
    let product : c.loop-digit.value * c.from.result ≡ digits_value c.args.radix (take c.loop-digit.digit-index c.args.digits.now) * c.args.radix = cc in
    rw c.from_residual.ensures (λ fits. c.in_err-checked_mul.ensures (omega (arith, product, next.value, next.least, c.from.ensures)))

pub returns-in_err-value : goal.returns-in_err-value
returns-in_err-value c =
    let next = next_digit c.args.radix c.args.digits.now c.loop-digit.digit-index c.requires (omega arith) in
    let product : c.loop-digit.value * c.from.result ≡ digits_value c.args.radix (take c.loop-digit.digit-index c.args.digits.now) * c.args.radix = cc in
    rw c.from_residual-in_err-value.ensures (λ fits. c.in_err-value.ensures (omega (arith, product, next.value, next.least, c.in_ok-checked_mul.ensures, c.from.ensures)))

pub loop-digit-preserved : goal.loop-digit-preserved
loop-digit-preserved c =
    let next = next_digit c.args.radix c.args.digits.now c.loop-digit.digit-index c.requires (omega arith) in
    let product : c.loop-digit.value * c.from.result ≡ digits_value c.args.radix (take c.loop-digit.digit-index c.args.digits.now) * c.args.radix = cc in
    record {
      fits = omega (arith, c.in_ok-value.ensures);
      so_far = omega (arith, product, next.value, c.in_ok-checked_mul.ensures, c.from.ensures, c.in_ok-value.ensures);
    }

pub returns : goal.returns
returns c =
    let past : length c.args.digits.now ≤ c.loop-digit.digit-index = omega arith in
    let is = c.loop-digit.invariant.so_far ∙ ap (digits_value c.args.radix) (take_all _ _ past) in
    let fits = c.loop-digit.invariant.fits in
    (omega arith, is)
