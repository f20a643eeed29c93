-- 0 is in the range of each unsigned type.
use Rattle.std.proofs.Common.{◌≡◌, ◌^◌, ◌<◌, ℕ, pos, ◌+ℤ◌, ◌≤ℤ◌, ◌<ℤ◌, arith}
use Rattle.std.proofs.Math.Pow.{pow_pos}
use Rattle.std.proofs.lemmas.Int.{ints}
use Rattle.ak_words.specs.declared.int_type.IntType.{IntType}
use Rattle.ak_words.specs.IntType.{IsInRange}
use Rattle.ak_words.specs.Num.{num}
use Rattle.ak_words.proofs.Wraps.{wrapped_value-in_type}
use Rattle.lower_forms.specs.Forms.{unsigned_of}

not_below : pos 0 ≤ℤ pos 0
not_below = omega (arith, ints)

below : (m : ℕ) → 0 < m → pos 0 <ℤ (pos 0 +ℤ pos m)
below m h = omega (arith, ints)

pub zero_kept : (t : IntType) → (num (unsigned_of t) (pos 0)).value ≡ pos 0
zero_kept t = wrapped_value-in_type (unsigned_of t) (pos 0) (not_below, below (2 ^ t.bits) (pow_pos t.bits))
