use Rattle.std.specs.Prelude.{◌≡◌, ℕ, ◌^◌, ℤ, pos, ◌+ℤ◌, ◌-ℤ◌, ◌*ℤ◌, unsigned_abs}
use Rattle.std.specs.Int.{int_rem_euclid}
use Rattle.ak_words.specs.declared.int_type.IntType.{IntType}
use Rattle.ak_words.specs.IntType.{least}

-- a and b differ by a multiple of m
abbrev pub AreCongruent : ℕ → ℤ → ℤ → Type 0
AreCongruent m a b = (k : ℤ) × (a ≡ b +ℤ k *ℤ pos m)

-- z modulo m: the number from 0 to below m that is congruent to z
unfoldable pub residue : ℕ → ℤ → ℕ
residue m z = unsigned_abs (int_rem_euclid z (pos m))

-- the bits of z at a type, in two's complement (C11 6.2.6.2)
abbrev pub bit_pattern : IntType → ℤ → ℕ
bit_pattern t z = residue (2 ^ t.bits) z

-- the number of the type that is congruent to z modulo 2^bits (C11 6.3.1.3, for signed types this project's profile)
unfoldable pub wrapped_value : IntType → ℤ → ℤ
wrapped_value t z = least t +ℤ pos (residue (2 ^ t.bits) (z -ℤ least t))
