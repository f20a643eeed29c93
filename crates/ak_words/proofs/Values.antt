-- What the code computes of the values of numbers: no operation but a product of unsigned numbers passes i128.
use Rattle.std.proofs.Common.{◌≡◌, ℕ, zero, suc, ◌+◌, ◌-◌, ◌*◌, ◌/◌, ◌%◌, ◌^◌, ◌<◌, ◌≤◌, ◌∙◌, arith, ℤ, pos, negsuc, ◌+ℤ◌, ◌-ℤ◌, ◌*ℤ◌, ◌≤ℤ◌, ◌<ℤ◌, neg_ℤ, FitsSigned, to_z, of_z}
use Rattle.std.specs.Prelude.{int_div, int_rem, unsigned_abs, true}
use Rattle.std.proofs.Math.Nat.{div-le_self}
use Rattle.std.proofs.Math.Pow.{pow_mono}
use Rattle.std.specs.Int.{w128, int_shr}
use Rattle.std.proofs.lemmas.Int.{ints, to_z-of_z, wrapping_mul_is, int_wrap_fits, fits_signed_mul, fits_signed_from_abs, quot_is, rem_is}
use Rattle.ak_words.specs.declared.number.Num.{Num}
use lib.Signed.{mag_shr}
use Rattle.ak_words.proofs.Types.{range_bounds, half_small, half_twice}
use Rattle.ak_words.proofs.Numbers.{value_fits, value_read}

-- a number of a C type is at most 2^64 - 1 from 0, and one of a signed type at most 2^63
pub abs_bound : (n : Num) → unsigned_abs n.value ≤ 2 ^ 64 - 1
abs_bound n = let h = range_bounds n.ty n.value n.in_range in by n.value h.0 h.1
  where
    by : (z : ℤ) → neg_ℤ (pos (2 ^ 63)) ≤ℤ z → z <ℤ pos (2 ^ 64) → unsigned_abs z ≤ 2 ^ 64 - 1
    by (pos n) a b = omega (arith, ints)
    by (negsuc n) a b = omega (arith, ints)

pub abs_bound-signed : (n : Num) → n.ty.signed ≡ true → unsigned_abs n.value ≤ 2 ^ 63
abs_bound-signed n s = by n.value (2 ^ (n.ty.bits - 1)) (2 ^ n.ty.bits) (half_small n.ty) (half_twice n.ty) (rw s at n.in_range)
  where
    by : (z : ℤ) (h m : ℕ) → h ≤ 2 ^ 63 → h + h ≡ m → (neg_ℤ (pos h) ≤ℤ z) × (z <ℤ (neg_ℤ (pos h) +ℤ pos m)) → unsigned_abs z ≤ 2 ^ 63
    by (pos n) h m a b c = let c1 = c.1 in omega (arith, ints)
    by (negsuc n) h m a b c = let c0 = c.0 in omega (arith, ints)

-- the sum, the difference, the quotient and the remainder of two numbers, as the code computes them
pub sum_read : (a b : Num) → to_z w128 (of_z w128 (to_z w128 (of_z w128 a.value) +ℤ to_z w128 (of_z w128 b.value))) ≡ a.value +ℤ b.value
sum_read a b =
    let p = range_bounds a.ty a.value a.in_range in
    let q = range_bounds b.ty b.value b.in_range in
    let p0 = p.0 in let p1 = p.1 in let q0 = q.0 in let q1 = q.1 in
    omega (arith, ints)

pub difference_read : (a b : Num) → to_z w128 (of_z w128 (to_z w128 (of_z w128 a.value) -ℤ to_z w128 (of_z w128 b.value))) ≡ a.value -ℤ b.value
difference_read a b =
    let p = range_bounds a.ty a.value a.in_range in
    let q = range_bounds b.ty b.value b.in_range in
    let p0 = p.0 in let p1 = p.1 in let q0 = q.0 in let q1 = q.1 in
    omega (arith, ints)

abs_neg : (n a : ℕ) → n ≤ a → unsigned_abs (neg_ℤ (pos n)) ≤ a
abs_neg zero a h = h
abs_neg (suc n) a h = h

-- a quotient is no further from 0 than the dividend
abs_quot : (a d : ℤ) → unsigned_abs (int_div a d) ≤ unsigned_abs a
abs_quot (pos a) (pos d) = div-le_self a d
abs_quot (pos a) (negsuc d) = abs_neg (a / suc d) a (div-le_self a (suc d))
abs_quot (negsuc a) (pos d) = abs_neg (suc a / d) (suc a) (div-le_self (suc a) d)
abs_quot (negsuc a) (negsuc d) = div-le_self (suc a) (suc d)

quotient_fits : (a b : Num) → FitsSigned w128 (int_div a.value b.value)
quotient_fits a b = fits_signed_from_abs w128 (int_div a.value b.value) (omega (arith, abs_quot a.value b.value, abs_bound a))

pub quotient_read : (a b : Num) → to_z w128 (of_z w128 (int_div (to_z w128 (of_z w128 a.value)) (to_z w128 (of_z w128 b.value)))) ≡ int_div a.value b.value
quotient_read a b = quot_is w128 a.value b.value (value_fits a) (value_fits b) (quotient_fits a b)

pub remainder_read : (a b : Num) → to_z w128 (of_z w128 (int_rem (to_z w128 (of_z w128 a.value)) (to_z w128 (of_z w128 b.value)))) ≡ int_rem a.value b.value
remainder_read a b = rem_is w128 a.value b.value (value_fits a) (value_fits b)

-- a left shift by less than 64 places fits i128
pub left_read : (a : Num) (k : ℕ) → k < 64 → to_z w128 ((of_z w128 a.value * 2 ^ k) % 2 ^ 128) ≡ a.value *ℤ pos (2 ^ k)
left_read a k h =
    let p : 2 ^ k ≤ 2 ^ 63 = pow_mono {i = k} {j = 63} (omega arith) in
    let f : FitsSigned w128 (pos (2 ^ k)) = omega (arith, ints) in
    wrapping_mul_is w128 a.value (pos (2 ^ k)) (value_fits a) f
    ∙ int_wrap_fits w128 (a.value *ℤ pos (2 ^ k)) (fits_signed_mul w128 a.value (pos (2 ^ k)) (2 ^ 64 - 1) (2 ^ 63) (abs_bound a) p (omega arith))

-- a right shift stays where the number is
pub right_read : (a : Num) (k : ℕ) → to_z w128 (of_z w128 (int_shr (to_z w128 (of_z w128 a.value)) k)) ≡ int_shr a.value k
right_read a k = (λ i. to_z w128 (of_z w128 (int_shr (value_read a i) k))) ∙ to_z-of_z w128 (int_shr a.value k) (record { sfits = omega (arith, mag_shr a.value (2 ^ k), (value_fits a).sfits) })

-- and a product of numbers of which one is of a signed type does not wrap there
pub product_fits : (a b : Num) → a.ty.signed ≡ true → FitsSigned w128 (a.value *ℤ b.value)
product_fits a b s = fits_signed_mul w128 a.value b.value (2 ^ 63) (2 ^ 64 - 1) (abs_bound-signed a s) (abs_bound b) (omega arith)
