-- Numbers of elements, in bytes, fit with room.
use Rattle.std.proofs.Common.{◌≡◌, ℕ, ◌-◌, ◌*◌, ◌^◌, ◌<◌, ◌≤◌, ◌∙◌, ap, arith, ℤ, pos, negsuc, ◌-ℤ◌, ◌*ℤ◌, ◌≤ℤ◌, ◌<ℤ◌, neg_ℤ, FitsSigned, to_z, of_z}
use Rattle.std.specs.Prelude.{unsigned_abs}
use Rattle.std.specs.Int.{w128}
use Rattle.std.proofs.lemmas.Int.{ints, fits_signed_mul, unsigned_abs-mul}
use Rattle.std.proofs.lemmas.Nat.{mul-le}
use Rattle.ak_words.specs.declared.int_type.IntType.{IntType}
use Rattle.ak_words.specs.declared.number.Num.{Num}
use Rattle.ak_words.specs.Num.{num}
use Rattle.block_store.specs.declared.values.Value.TheVariants as values
use Rattle.ak_words.proofs.Types.{range_bounds}
use Rattle.ak_words.proofs.Values.{abs_bound}
use Rattle.ak_words.proofs.Numbers.{value_read}

pub exact_bound : (n : Num) → unsigned_abs n.value < 2 ^ 65
exact_bound n = let h = abs_bound n in omega arith

pub exact_bound_read : (n : Num) → unsigned_abs (to_z w128 (of_z w128 n.value)) < 2 ^ 65
exact_bound_read n = rw (value_read n) (exact_bound n)

pub negated_read : (n : Num) → to_z w128 (of_z w128 (pos 0 -ℤ to_z w128 (of_z w128 n.value))) ≡ neg_ℤ n.value
negated_read n = let p = range_bounds n.ty n.value n.in_range in let p0 = p.0 in let p1 = p.1 in omega (arith, ints)

pub negated_bound : (n : Num) → unsigned_abs (neg_ℤ n.value) < 2 ^ 65
negated_bound n = let h = range_bounds n.ty n.value n.in_range in by n.value h.0 h.1
  where
    by : (z : ℤ) → neg_ℤ (pos (2 ^ 63)) ≤ℤ z → z <ℤ pos (2 ^ 64) → unsigned_abs (neg_ℤ z) < 2 ^ 65
    by (pos n) a b = omega (arith, ints)
    by (negsuc n) a b = omega (arith, ints)

pub negated_bound_read : (n : Num) → unsigned_abs (to_z w128 (of_z w128 (pos 0 -ℤ to_z w128 (of_z w128 n.value)))) < 2 ^ 65
negated_bound_read n = rw (negated_read n) (negated_bound n)

pub bytes_bound : (count : ℤ) (size : ℕ) → unsigned_abs count < 2 ^ 65 → size < 2 ^ 32 → unsigned_abs (count *ℤ pos size) < 2 ^ 100
bytes_bound count size h k =
    let a : unsigned_abs count ≤ 2 ^ 65 = omega (arith, h) in
    let b : size ≤ 2 ^ 32 = omega (arith, k) in
    let m : unsigned_abs count * size ≤ 2 ^ 65 * 2 ^ 32 = mul-le (unsigned_abs count) size (2 ^ 65) (2 ^ 32) a b in
    let e : unsigned_abs (count *ℤ pos size) ≡ unsigned_abs count * size = unsigned_abs-mul count (pos size) in
    omega (arith, m, e)

pub bytes_fit : (count : ℤ) (size : ℕ) → unsigned_abs count < 2 ^ 65 → size < 2 ^ 32 → FitsSigned w128 (count *ℤ pos size)
bytes_fit count size h k = fits_signed_mul w128 count (pos size) (2 ^ 65) (2 ^ 32) (omega (arith, h)) (omega (arith, k)) (omega arith)

-- a number of a type that is named by a call
pub number_at : (t u : IntType) (n : Num) (y : ℤ) → n ≡ num t y → t ≡ u → values.Num n ≡ values.Num (num u y)
number_at t u n y e f = ap values.Num (e ∙ ap (λ (v : IntType). num v y) f)
