-- What a value means that is a number.
use Rattle.std.specs.Prelude.{ℕ, ◌&&◌, Bool, List, nat_le, Option, Some, None, option_map, if◌then◌else◌}
use Rattle.std.specs.Str.Parse.{digits_value}
use Rattle.run_words.specs.Numerals.{is_numeral}
use Rattle.run_words.specs.declared.numbers.Bounds.{Bounds}

infix 11 ◌to◌
-- the numbers from the one to the other
abbrev pub ◌to◌ : ℕ → ℕ → Bounds
least to most = record { least = least; most = most }

-- the number is one of these
abbrev pub is_within : Bounds → ℕ → Bool
is_within bounds number = nat_le bounds.least number && nat_le number bounds.most

-- the number that a text writes, where it is 1 to 20 decimal digits of one of these numbers
unfoldable pub number_in : Bounds → List ℕ → Option ℕ
number_in bounds text = if is_numeral text && is_within bounds (digits_value 10 text) then Some (digits_value 10 text) else None

-- the number that the value is or, where no value is given, this one; none where the value is wrong
abbrev pub number_or : ℕ → Bounds → Option (List ℕ) → Option ℕ
number_or without bounds None = Some without
number_or without bounds (Some text) = number_in bounds text

-- the number that the value is, where one is given; none where the value is wrong
abbrev pub number_if_given : Bounds → Option (List ℕ) → Option (Option ℕ)
number_if_given bounds None = Some None
number_if_given bounds (Some text) = option_map (λ number. Some number) (number_in bounds text)
