use Rattle.std.specs.Prelude.{ℤ}
use Rattle.ak_words.specs.declared.int_type.IntType.{IntType}
use Rattle.ak_words.specs.declared.number.Num.{Num}
use Rattle.ak_words.specs.Wrapped.{wrapped_value}
use Rattle.ak_words.specs.inner.InRange.{wrapped_value-in_range}

-- what a whole number becomes at a type
abbrev pub num : IntType → ℤ → Num
num t z = record { ty = t; value = wrapped_value t z; in_range = wrapped_value-in_range t z }
