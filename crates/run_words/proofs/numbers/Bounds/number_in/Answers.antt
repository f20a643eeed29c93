use Rattle.std.proofs.Common.{◌≡◌, ◌≤◌, ◌^◌, arith}
use Rattle.std.specs.Str.Parse.{digits_value}
use Rattle.run_words.proofs.NumberLemmas.{number_in-no_numeral, number_in-within, number_in-below, number_in-above, digits_value-parsed, digits_value-unparsed}
use Rattle.run_words.proofs.numbers.Bounds.number_in.Goals as goal

pub returns-then-not-is_numeral-clause-value : goal.returns-then-not-is_numeral-clause-value
returns-then-not-is_numeral-clause-value c = number_in-no_numeral c.args.self c.args.text.now (grind arith)

pub returns-in-Ok-clause-value : goal.returns-in-Ok-clause-value
returns-in-Ok-clause-value c =
    number_in-within c.args.self c.args.text.now c.in-Ok.number (grind arith)
    (digits_value-parsed c.args.text.now c.in-Ok.number (grind arith) c.in-Ok.ensures.value.0) c.if-self-number.true c.if-number-self.true

pub returns-in_default-clause-value : goal.returns-in_default-clause-value
returns-in_default-clause-value c =
    let is : c.in-Ok.number ≡ digits_value 10 c.args.text.now = digits_value-parsed c.args.text.now c.in-Ok.number (grind arith) c.in-Ok.ensures.value.0 in
    number_in-above c.args.self c.args.text.now (omega arith)

pub returns-in_default-2-clause-value : goal.returns-in_default-2-clause-value
returns-in_default-2-clause-value c =
    let is : c.in-Ok.number ≡ digits_value 10 c.args.text.now = digits_value-parsed c.args.text.now c.in-Ok.number (grind arith) c.in-Ok.ensures.value.0 in
    number_in-below c.args.self c.args.text.now (omega arith)

pub returns-in_default-3-clause-value : goal.returns-in_default-3-clause-value
returns-in_default-3-clause-value c =
    let large : 2 ^ 64 ≤ digits_value 10 c.args.text.now = digits_value-unparsed c.args.text.now (grind arith) c.in_default.ensures.value.0 in
    number_in-above c.args.self c.args.text.now (omega arith)
