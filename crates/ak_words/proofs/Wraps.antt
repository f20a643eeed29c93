-- Laws of `wrapped_value`: it is the one number of the type that is congruent modulo 2^bits.
use Rattle.std.proofs.Common.{◌≡◌, ℕ, ◌+◌, ◌-◌, ◌*◌, ◌<◌, ◌^◌, suc, sym, ◌∙◌, ap, arith, ℤ, pos, negsuc, ◌+ℤ◌, ◌-ℤ◌, ◌*ℤ◌, ◌≤ℤ◌, ◌<ℤ◌, to_z}
use Rattle.std.proofs.Math.Dec.{ltb}
use Rattle.std.proofs.Math.Nat.{mod-eq_of_lt, mul_assoc}
use Rattle.std.proofs.Math.Pow.{pow_pos}
use Rattle.std.proofs.lemmas.Int.{ints}
use Rattle.std.specs.Prelude.{Bool, true, false}
use Rattle.std.specs.Int.{w128, int_wrap}
use Rattle.ak_words.specs.declared.int_type.IntType.{IntType}
use Rattle.ak_words.specs.IntType.{least, IsInRange}
use Rattle.ak_words.specs.Wrapped.{AreCongruent, residue, wrapped_value}
use Rattle.ak_words.specs.inner.InRange.{residue-below}
use borrow.Author.Differences.{up, down, product_is}
use mir.Val.{sel}
use Rattle.ak_words.proofs.Residues.{residue_is, residue_same, residue_left, powers}
use Rattle.ak_words.proofs.Types.{width_bounds}

-- numbers that differ by a multiple of 2^bits become the same
pub wrapped_value-same : (t : IntType) (a b : ℤ) (j k : ℕ) → a +ℤ pos (j * 2 ^ t.bits) ≡ b +ℤ pos (k * 2 ^ t.bits) → wrapped_value t a ≡ wrapped_value t b
unfolding wrapped_value
wrapped_value-same t a b j k e =
    let l = least t in
    ap (λ r. least t +ℤ pos r) (residue_same (2 ^ t.bits) (a -ℤ l) (b -ℤ l) j k (pow_pos t.bits) (moved a b l (j * 2 ^ t.bits) (k * 2 ^ t.bits) e))
  where
    moved : (a b l : ℤ) (j k : ℕ) → a +ℤ pos j ≡ b +ℤ pos k → (a -ℤ l) +ℤ pos j ≡ (b -ℤ l) +ℤ pos k
    moved a b l j k e = omega (arith, ints)

-- a number in the range stays
pub wrapped_value-in_type : (t : IntType) (z : ℤ) → IsInRange t z → wrapped_value t z ≡ z
unfolding wrapped_value
wrapped_value-in_type t z h = by (least t) (2 ^ t.bits) (pow_pos t.bits) z h.0 h.1
  where
    by : (l : ℤ) (m : ℕ) → 0 < m → (z : ℤ) → l ≤ℤ z → z <ℤ (l +ℤ pos m) → l +ℤ pos (residue m (z -ℤ l)) ≡ z
    by l m s z h k =
        let n = up z + down l - (down z + up l) in
        let small : n < m = omega (arith, ints) in
        let is = residue_is m (z -ℤ l) 0 n s (omega (arith, ints)) ∙ mod-eq_of_lt small in
        ap (λ r. l +ℤ pos r) is ∙ omega (arith, ints)

-- and there is no other
pub wrapped_value_is : (t : IntType) (z v : ℤ) (j k : ℕ) → IsInRange t v → z +ℤ pos (j * 2 ^ t.bits) ≡ v +ℤ pos (k * 2 ^ t.bits) → wrapped_value t z ≡ v
wrapped_value_is t z v j k h e = wrapped_value-same t z v j k e ∙ wrapped_value-in_type t v h

-- the low bits decide
pub wrapped_value-residue : (t : IntType) (z : ℤ) → wrapped_value t (pos (residue (2 ^ t.bits) z)) ≡ wrapped_value t z
wrapped_value-residue t z = let s = residue_left (2 ^ t.bits) z (pow_pos t.bits) in sym (wrapped_value-same t z (pos (residue (2 ^ t.bits) z)) s.0 s.1 s.2)

multiple : (d z l : ℤ) (m j k r : ℕ) → up d + k ≡ down d + j → (z -ℤ l) +ℤ pos (j * m) ≡ pos r +ℤ pos (k * m) → l +ℤ pos r ≡ z +ℤ d *ℤ pos m
multiple d z l m j k r h e = let times = ap (λ x. x * m) h in omega (arith, ints, product_is d (pos m))

-- wrapping adds a multiple of 2^bits
pub wrapped_value-congruent : (t : IntType) (z : ℤ) → AreCongruent (2 ^ t.bits) (wrapped_value t z) z
unfolding wrapped_value
wrapped_value-congruent t z = let s = residue_left (2 ^ t.bits) (z -ℤ least t) (pow_pos t.bits) in by (least t) (2 ^ t.bits) s.0 s.1 s.2
  where
    by : (l : ℤ) (m : ℕ) (j k : ℕ) → (z -ℤ l) +ℤ pos (j * m) ≡ pos (residue m (z -ℤ l)) +ℤ pos (k * m) → AreCongruent m (l +ℤ pos (residue m (z -ℤ l))) z
    by l m j k e = (pos j -ℤ pos k, multiple (pos j -ℤ pos k) z l m j k (residue m (z -ℤ l)) (omega (arith, ints)) e)

-- and keeps the residue
pub residue-wrapped_value : (t : IntType) (z : ℤ) → residue (2 ^ t.bits) (wrapped_value t z) ≡ residue (2 ^ t.bits) z
unfolding wrapped_value
residue-wrapped_value t z = let s = residue_left (2 ^ t.bits) (z -ℤ least t) (pow_pos t.bits) in by (least t) (2 ^ t.bits) (pow_pos t.bits) s.0 s.1 s.2
  where
    by : (l : ℤ) (m : ℕ) → 0 < m → (j k : ℕ) → (z -ℤ l) +ℤ pos (j * m) ≡ pos (residue m (z -ℤ l)) +ℤ pos (k * m) → residue m (l +ℤ pos (residue m (z -ℤ l))) ≡ residue m z
    by l m p j k e = residue_same m (l +ℤ pos (residue m (z -ℤ l))) z k j p (omega (arith, ints))

-- so bits that are read as a number are that number's bits
pub bits-wrapped_value : (t : IntType) (n : ℕ) → n < 2 ^ t.bits → residue (2 ^ t.bits) (wrapped_value t (pos n)) ≡ n
bits-wrapped_value t n h = residue-wrapped_value t (pos n) ∙ residue_is (2 ^ t.bits) (pos n) 0 n (pow_pos t.bits) (omega (arith, ints)) ∙ mod-eq_of_lt h

-- 128 bits, and how often 2^128 lies between them and the number that i128 reads
read_bits : (n : ℕ) → n < 2 ^ 128 → (j : ℕ) × (to_z w128 n +ℤ pos (j * 2 ^ 128) ≡ pos n)
read_bits n h = by (ltb n (2 ^ 127))
  where
    by : (b : Bool) → (j : ℕ) × (sel b (pos n) (negsuc (2 ^ 128 - suc n)) +ℤ pos (j * 2 ^ 128) ≡ pos n)
    by true = (0, omega (arith, ints))
    by false = (1, omega (arith, ints))

-- what wraps at i128 becomes the same number at a type
pub wrapped_value-int_wrap : (t : IntType) (z : ℤ) → wrapped_value t (int_wrap w128 z) ≡ wrapped_value t z
unfolding int_wrap residue
wrapped_value-int_wrap t z =
    let s = residue_left (2 ^ 128) z (pow_pos 128) in
    let r = read_bits (residue (2 ^ 128) z) (residue-below z (2 ^ 128) (pow_pos 128)) in
    let m = 2 ^ t.bits in
    let q = 2 ^ (128 - t.bits) in
    let b = width_bounds t.bits t.known_width in
    let p : q * m ≡ 2 ^ 128 = powers t.bits 128 (omega (arith, b.1)) in
    let left : (r.0 + s.1) * q * m ≡ (r.0 + s.1) * 2 ^ 128 = mul_assoc (r.0 + s.1) q m ∙ ap (λ x. (r.0 + s.1) * x) p in
    let right : s.0 * q * m ≡ s.0 * 2 ^ 128 = mul_assoc s.0 q m ∙ ap (λ x. s.0 * x) p in
    wrapped_value-same t (int_wrap w128 z) z ((r.0 + s.1) * q) (s.0 * q) (omega (arith, ints, left, right, s.2, r.1))
