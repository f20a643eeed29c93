-- What pieces of a format write.
use Rattle.std.proofs.Common.{◌≡◌, ℕ, ◌<◌, refl, arith, ℤ, pos, negsuc}
use Rattle.ak_words.specs.IntType.{int, long}
use Rattle.ak_words.specs.Wrapped.{residue, wrapped_value}
use Rattle.c_tree.specs.TypedPrinting.{signed_value}

pub residue_below : (m : ℕ) (z : ℤ) → 0 < m → residue m z < m
unfolding residue
residue_below m (pos a) h = omega (arith, h)
residue_below m (negsuc a) h = omega (arith, h)

pub signed_32 : (n : ℤ) → wrapped_value int n ≡ signed_value 32 n
unfolding wrapped_value
signed_32 n = refl

pub signed_64 : (n : ℤ) → wrapped_value long n ≡ signed_value 64 n
unfolding wrapped_value
signed_64 n = refl

pub ruleset signed_values = (signed_32, signed_64)
