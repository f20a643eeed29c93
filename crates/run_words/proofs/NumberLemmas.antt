-- When a text writes one of some numbers.
use Rattle.std.proofs.Common.{◌≡◌, ℕ, ◌<◌, ◌≤◌, ◌^◌, ◌&&◌, Bool, true, false, List, length, Some, None, Ok, Err, refl, arith, rules, inl, inr}
use Rattle.std.specs.Char.{is_ascii_digit}
use Rattle.std.specs.List.{list_all}
use Rattle.std.specs.Str.Parse.{digits_value, ParsesUnsigned}
use Rattle.std.proofs.lemmas.Bool.{cases_lt}
use Rattle.std.proofs.lemmas.Bool.Decides.{nat_tests}
use Rattle.std.proofs.lemmas.Str.Parse.{IsDigitsTest, IsNumeralModel, numerals_by_value, parse_digits}
use Rattle.run_words.specs.declared.numbers.Bounds.{Bounds}
use Rattle.run_words.specs.Numerals.{is_numeral}
use Rattle.run_words.specs.Numbers.{is_within, number_in}

are_digits : IsDigitsTest (λ text. list_all is_ascii_digit text ≡ true)
are_digits = search rules

digits_model : IsNumeralModel (λ text. list_all is_ascii_digit text ≡ true) (digits_value 10)
digits_model = numerals_by_value _ are_digits

-- a numeral has a digit, and digits alone
numeral-digits : (text : List ℕ) → is_numeral text ≡ true → (0 < length text) × (list_all is_ascii_digit text ≡ true)
numeral-digits text numeral = grind (arith, nat_tests)

pub number_in-no_numeral : (bounds : Bounds) (text : List ℕ) → is_numeral text ≡ false → None ≡ number_in bounds text
unfolding number_in
number_in-no_numeral bounds text wrong = rw wrong refl

-- a test that fails behind another
both-false : (a b : Bool) → b ≡ false → (a && b) ≡ false
both-false true b fails = fails
both-false false b fails = refl

number_in-outside : (bounds : Bounds) (text : List ℕ) → is_within bounds (digits_value 10 text) ≡ false → None ≡ number_in bounds text
unfolding number_in
number_in-outside bounds text outside = rw (both-false (is_numeral text) _ outside) refl

pub number_in-below : (bounds : Bounds) (text : List ℕ) → digits_value 10 text < bounds.least → None ≡ number_in bounds text
number_in-below bounds text below = number_in-outside bounds text (grind (arith, nat_tests))

pub number_in-above : (bounds : Bounds) (text : List ℕ) → bounds.most < digits_value 10 text → None ≡ number_in bounds text
number_in-above bounds text above = number_in-outside bounds text (grind (arith, nat_tests))

pub number_in-within : (bounds : Bounds) (text : List ℕ) (number : ℕ) → is_numeral text ≡ true → number ≡ digits_value 10 text → bounds.least ≤ number → number ≤ bounds.most
    → Some number ≡ number_in bounds text
unfolding number_in
number_in-within bounds text number numeral is low high = grind (arith, nat_tests)

-- what was read of a numeral is its value
pub digits_value-parsed : (text : List ℕ) (number : ℕ) → is_numeral text ≡ true → ParsesUnsigned {E = Unit {0}} 64 10 text (Ok number) → number ≡ digits_value 10 text
digits_value-parsed text number numeral parses =
    (parse_digits digits_model {E = Unit {0}} 64 text (Ok number) parses (numeral-digits text numeral).1).1

too_large : (len number : ℕ) → 0 < len → ¬ ((0 < len) × (number < 2 ^ 64)) → 2 ^ 64 ≤ number
too_large len number some refused = elim (cases_lt number (2 ^ 64)) [ inl small ↦ absurd (refused (some, small)) | inr large ↦ large ]

-- a numeral that couldn't be read writes a number that is too large
pub digits_value-unparsed : (text : List ℕ) → is_numeral text ≡ true → ParsesUnsigned {E = Unit {0}} 64 10 text (Err tt) → 2 ^ 64 ≤ digits_value 10 text
digits_value-unparsed text numeral parses =
    too_large (length text) _ (numeral-digits text numeral).0 (parse_digits digits_model {E = Unit {0}} 64 text (Err tt) parses (numeral-digits text numeral).1)
