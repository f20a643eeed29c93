-- Laws of `residue`, and the low bits that the code takes.
use Rattle.std.proofs.Common.{◌≡◌, ℕ, suc, ◌+◌, ◌-◌, ◌*◌, ◌/◌, ◌%◌, ◌^◌, ◌<◌, ◌≤◌, refl, sym, ◌∙◌, ap, arith, ℤ, pos, negsuc, ◌+ℤ◌, FitsSigned, of_z}
use Rattle.std.proofs.Math.Pow.{pow_pos}
use Rattle.std.specs.Int.{w128}
use Rattle.std.proofs.Math.Nat.{div-add-mod', mul-le-mul_left, mod-eq_of_lt}
use Rattle.std.proofs.lemmas.Int.{ints, int_rem_euclid_is}
use Rattle.std.proofs.lemmas.Nat.{pow-add, pow_below}
use Rattle.std.specs.Int.Bits.{bit_and, and_mask}
use Rattle.std.specs.Prelude.{unsigned_abs}
use Rattle.ak_words.specs.Wrapped.{residue}
use borrow.Author.Differences.{up, down}

-- z and n differ by a multiple of m
pub residue_is : (m : ℕ) (z : ℤ) (k n : ℕ) → 0 < m → z +ℤ pos (k * m) ≡ pos n → residue m z ≡ n % m
unfolding residue
residue_is m z k n h e = ap unsigned_abs (int_rem_euclid_is z (pos m) m k n h refl e)

pub residue_same : (m : ℕ) (a b : ℤ) (j k : ℕ) → 0 < m → a +ℤ pos (j * m) ≡ b +ℤ pos (k * m) → residue m a ≡ residue m b
residue_same m a b j k h e =
    let t = down a + down b in
    let far : t * 1 ≤ t * m = mul-le-mul_left t h in
    let n = up a + (j + t) * m - down a in
    residue_is m a (j + t) n h (omega (arith, ints)) ∙ sym (residue_is m b (k + t) n h (omega (arith, ints)))

-- how often m goes into z, as two naturals
pub residue_left : (m : ℕ) (z : ℤ) → 0 < m → (j : ℕ) × (k : ℕ) × (z +ℤ pos (j * m) ≡ pos (residue m z) +ℤ pos (k * m))
unfolding residue
residue_left m (pos n) h = (0, n / m, omega (arith, ints, div-add-mod' n m))
residue_left m (negsuc n) h = (suc (n / m), 0, omega (arith, ints, div-add-mod' n m))

pub powers : (k n : ℕ) → k ≤ n → 2 ^ (n - k) * 2 ^ k ≡ 2 ^ n
powers k n h = sym (pow-add 2 (n - k) k) ∙ ap (λ e. 2 ^ e) (omega arith)

-- the low k bits of z in two's complement
pub residue-bits : (k : ℕ) (z : ℤ) → k ≤ 128 → FitsSigned w128 z → residue (2 ^ k) z ≡ of_z w128 z % 2 ^ k
residue-bits k (pos n) h f = residue_is (2 ^ k) (pos n) 0 n (pow_pos k) (omega (arith, ints))
residue-bits k (negsuc n) h f = residue_is (2 ^ k) (negsuc n) (2 ^ (128 - k)) (2 ^ 128 - suc n) (pow_pos k) (omega (arith, ints, powers k 128 h, f.sfits))

-- the mask that the code makes
pub low_bits : (k : ℕ) (z : ℤ) (r : ℕ) → k < 128 → FitsSigned w128 z → r ≡ of_z w128 z → bit_and r (1 * 2 ^ k % 2 ^ 128 - 1) ≡ residue (2 ^ k) z
low_bits k z r h f e =
    let small : 1 * 2 ^ k < 2 ^ 128 = omega (arith, pow_below k 128 h) in
    let mask : 1 * 2 ^ k % 2 ^ 128 - 1 ≡ 2 ^ k - 1 = omega (arith, mod-eq_of_lt small) in
    ap (bit_and r) mask ∙ and_mask r k ∙ ap (λ x. x % 2 ^ k) e ∙ sym (residue-bits k z (omega arith) f)
