-- The number of a type that a word stands for, by its distance from the least one.
use Rattle.std.proofs.Common.{refl, ◌≡◌, ℕ, ◌+◌, ◌-◌, ◌*◌, ◌/◌, ◌%◌, ◌^◌, ◌<◌, ◌≤◌, zero, suc, sym, ◌∙◌, ap, arith, pos, neg_ℤ, ◌+ℤ◌, ◌-ℤ◌}
use Rattle.std.proofs.Math.Nat.{div-add-mod', add-mul-div_left, add-mul-mod_self_right, div-eq_of_lt, mod-eq_of_lt, mod-lt, mul_assoc, mul-suc}
use Rattle.std.proofs.Math.Pow.{pow_pos}
use Rattle.std.proofs.lemmas.Int.{ints}
use Rattle.std.specs.Int.Bits.{bit_and, and_mask}
use Rattle.std.specs.Prelude.{true, false}
use Rattle.ak_words.specs.declared.int_type.IntType.{IntType}
use Rattle.ak_words.specs.IntType.{least}
use Rattle.ak_words.specs.Wrapped.{residue, wrapped_value}
use Rattle.ak_words.proofs.Residues.{residue_is, powers}
use Rattle.ak_words.proofs.Types.{width_bounds, half_small}

-- the mask that the code makes
mask_is : (q p : ℕ) → q * p ≡ 2 ^ 64 → 18446744073709551615 / q ≡ p - 1
mask_is zero p h = omega (arith, h)
mask_is (suc q) zero h = omega (arith, h)
mask_is (suc q) (suc p) h =
    let e : 18446744073709551615 ≡ q + suc q * p = omega (arith, h, mul-suc (suc q) p) in
    ap (λ n. n / suc q) e ∙ add-mul-div_left q p {y = suc q} (omega arith) ∙ ap (λ n. n + p) (div-eq_of_lt {n = q} {m = suc q} (omega arith)) ∙ omega arith

-- a remainder by a power, of a remainder by a higher one
low_again : (q p x : ℕ) → q * p ≡ 2 ^ 64 → (x % 2 ^ 64) % p ≡ x % p
low_again q p x h =
    let k = x / 2 ^ 64 in
    let parts : x ≡ x % 2 ^ 64 + k * q * p = omega (arith, div-add-mod' x (2 ^ 64), mul_assoc k q p, ap (λ n. k * n) h) in
    sym (ap (λ n. n % p) parts ∙ add-mul-mod_self_right (x % 2 ^ 64) (k * q) p)

-- the low bits that the code takes
pub low_is : (t : IntType) (n : ℕ) → bit_and (n % 2 ^ 64) (18446744073709551615 / 2 ^ (64 - t.bits)) ≡ n % 2 ^ t.bits
low_is t n =
    let b = width_bounds t.bits t.known_width in
    let q = powers t.bits 64 b.1 in
    ap (bit_and (n % 2 ^ 64)) (mask_is (2 ^ (64 - t.bits)) (2 ^ t.bits) q) ∙ and_mask (n % 2 ^ 64) t.bits ∙ low_again (2 ^ (64 - t.bits)) (2 ^ t.bits) n q

-- they say how far the number is above the least one
pub above_is : (t : IntType) (w half : ℕ) → least t ≡ neg_ℤ (pos half) → wrapped_value t (pos w) ≡ least t +ℤ pos (bit_and ((w + half) % 2 ^ 64) (18446744073709551615 / 2 ^ (64 - t.bits)))
unfolding wrapped_value
above_is t w half e =
    let p = 2 ^ t.bits in
    let inner : residue p (pos w -ℤ neg_ℤ (pos half)) ≡ (w + half) % p = residue_is p (pos w -ℤ neg_ℤ (pos half)) 0 (w + half) (pow_pos t.bits) (omega (arith, ints)) in
    ap (λ l. least t +ℤ pos (residue p (pos w -ℤ l))) e ∙ ap (λ r. least t +ℤ pos r) (inner ∙ sym (low_is t (w + half)))

pub above_below : (t : IntType) (n : ℕ) → bit_and (n % 2 ^ 64) (18446744073709551615 / 2 ^ (64 - t.bits)) < 2 ^ t.bits
above_below t n = rw (low_is t n) (mod-lt n (pow_pos t.bits))

-- and give its word
pub word_is : (t : IntType) (w r half : ℕ) → least t ≡ neg_ℤ (pos half) → half ≤ 2 ^ 63 → wrapped_value t (pos w) ≡ least t +ℤ pos r → (r + (2 ^ 64 - half)) % 2 ^ 64 ≡ residue (2 ^ 64) (wrapped_value t (pos w))
word_is t w r half e small is =
    sym (ap (residue (2 ^ 64)) (is ∙ ap (λ l. l +ℤ pos r) e) ∙ residue_is (2 ^ 64) (neg_ℤ (pos half) +ℤ pos r) 1 (r + (2 ^ 64 - half)) (pow_pos 64) (omega (arith, ints, small)))

-- how far the least number of a signed type is below 0, as the code computes it
pub half_signed : (t : IntType) → t.signed ≡ true → (least t ≡ neg_ℤ (pos (1 * 2 ^ (t.bits - 1) % 2 ^ 64))) × (1 * 2 ^ (t.bits - 1) % 2 ^ 64 ≤ 2 ^ 63)
half_signed t s =
    let small = half_small t in
    let f : 1 * 2 ^ (t.bits - 1) % 2 ^ 64 ≡ 2 ^ (t.bits - 1) = mod-eq_of_lt (omega (arith, small)) ∙ omega arith in
    (rw s (ap (λ n. neg_ℤ (pos n)) (sym f)), omega (arith, f, small))

pub half_unsigned : (t : IntType) → t.signed ≡ false → least t ≡ neg_ℤ (pos 0)
half_unsigned t s = rw s refl
