-- The value of digits.
use Rattle.std.proofs.Common.{◌≡◌, ℕ, ◌+◌, ◌*◌, ◌<◌, ◌≤◌, List, length, get_or, take}
use Rattle.std.specs.Char.{digit_value}
use Rattle.std.specs.Str.Parse.{digits_value}
use Rattle.std.proofs.lemmas.Int.Digits.{digits_value_more}
use Rattle.std.proofs.lemmas.Str.Parse.{digits_value-take-le}

-- the value with the next digit, and that more digits don't make it less
pub record Next (radix : ℕ) (digits : List ℕ) (i : ℕ) : Type 0 where
  pub value : digits_value radix (take (i + 1) digits) ≡ digits_value radix (take i digits) * radix + digit_value (get_or digits i 0)
  pub least : digits_value radix (take (i + 1) digits) ≤ digits_value radix digits

pub next_digit : (radix : ℕ) (digits : List ℕ) (i : ℕ) → 0 < radix → i < length digits → Next radix digits i
next_digit radix digits i some lt = record { value = digits_value_more radix digits i lt; least = digits_value-take-le radix digits (i + 1) some }
