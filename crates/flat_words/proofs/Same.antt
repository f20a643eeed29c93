-- A word and the number of a type that it stands for differ by a multiple of 2^bits, and numbers that do have one word.
use Rattle.std.proofs.Common.{◌≡◌, ℕ, ◌+◌, ◌-◌, ◌*◌, ◌/◌, ◌%◌, ◌^◌, sym, ap, arith, ℤ, pos, ◌+ℤ◌}
use Rattle.std.proofs.Math.Nat.{div-add-mod', mul_assoc}
use Rattle.std.proofs.Math.Pow.{pow_pos}
use Rattle.std.proofs.lemmas.Int.{ints}
use Rattle.ak_words.specs.declared.int_type.IntType.{IntType}
use Rattle.ak_words.specs.Wrapped.{residue, wrapped_value}
use Rattle.ak_words.proofs.Residues.{powers, residue_left}
use Rattle.ak_words.proofs.Types.{width_bounds}
use Rattle.ak_words.proofs.Wraps.{wrapped_value-same, residue-wrapped_value}

-- how often 2^bits lies between them
pub apart : (t : IntType) (w : ℕ) → (j : ℕ) × (k : ℕ) × (wrapped_value t (pos w) +ℤ pos (j * 2 ^ t.bits) ≡ pos w +ℤ pos (k * 2 ^ t.bits))
apart t w =
    let m = 2 ^ t.bits in
    let x = residue_left m (wrapped_value t (pos w)) (pow_pos t.bits) in
    let y = residue_left m (pos w) (pow_pos t.bits) in
    let e : residue m (wrapped_value t (pos w)) ≡ residue m (pos w) = residue-wrapped_value t (pos w) in
    (x.0 + y.1, y.0 + x.1, omega (arith, ints, x.2, y.2, e))

-- 2^64, as a multiple of it
pub whole : (t : IntType) → 2 ^ (64 - t.bits) * 2 ^ t.bits ≡ 2 ^ 64
whole t = powers t.bits 64 (width_bounds t.bits t.known_width).1

-- a number, and a word that was cut to 64 bits
pub words_same : (t : IntType) (z : ℤ) (n j k : ℕ) → z +ℤ pos (j * 2 ^ t.bits) ≡ pos n +ℤ pos (k * 2 ^ t.bits) → residue (2 ^ 64) (wrapped_value t (pos (n % 2 ^ 64))) ≡ residue (2 ^ 64) (wrapped_value t z)
words_same t z n j k e =
    let m = 2 ^ t.bits in
    let q = whole t in
    let c = n / 2 ^ 64 in
    let parts : n ≡ n % 2 ^ 64 + c * 2 ^ (64 - t.bits) * m = omega (arith, div-add-mod' n (2 ^ 64), mul_assoc c (2 ^ (64 - t.bits)) m, ap (λ x. c * x) q) in
    sym (ap (residue (2 ^ 64)) (wrapped_value-same t z (pos (n % 2 ^ 64)) j (k + c * 2 ^ (64 - t.bits)) (omega (arith, ints, e, parts))))
