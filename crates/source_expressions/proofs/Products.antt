-- The product of two numbers' absolute values has 128 bits.
use Rattle.std.proofs.Common.{◌≡◌, ◌<◌, ◌≤◌, ◌*◌, ◌-◌, ◌^◌, ℕ, Bool, true, false, if◌then◌else◌, ℤ, pos, negsuc, IsTrue, arith}
use Rattle.std.specs.Prelude.{neg_ℤ, ◌+ℤ◌, ◌≤ℤ◌, ◌<ℤ◌, unsigned_abs}
use Rattle.std.proofs.Math.Pow.{pow_mono}
use Rattle.std.proofs.lemmas.Bool.Decides.{nat_tests}
use Rattle.std.proofs.lemmas.Int.{ints}
use Rattle.std.proofs.lemmas.Nat.{mul-le}
use Rattle.ak_words.specs.declared.number.Num.{Num}
use Rattle.ak_words.specs.Width.{is_width}

width_most : (n : ℕ) → IsTrue (is_width n) → n ≤ 64
width_most n h = grind (arith, nat_tests)

-- a number of a type of so many bits
within : (s : Bool) (p q : ℕ) → p ≤ 2 ^ 64 → q < 2 ^ 64 → (z : ℤ) → (if s then neg_ℤ (pos q) else pos 0) ≤ℤ z → z <ℤ ((if s then neg_ℤ (pos q) else pos 0) +ℤ pos p) → unsigned_abs z < 2 ^ 64
within true p q h k (pos n) low high = omega (arith, ints, h, k, low, high)
within true p q h k (negsuc n) low high = omega (arith, ints, h, k, low, high)
within false p q h k (pos n) low high = omega (arith, ints, h, k, low, high)
within false p q h k (negsuc n) low high = absurd (omega (arith, ints, low))

abs_below : (n : Num) → unsigned_abs n.value < 2 ^ 64
abs_below n =
    let most : n.ty.bits ≤ 64 = width_most n.ty.bits n.ty.known_width in
    let all : 2 ^ n.ty.bits ≤ 2 ^ 64 = pow_mono most in
    let half : 2 ^ (n.ty.bits - 1) ≤ 2 ^ 63 = pow_mono {j = 63} (omega (arith, most)) in
    within n.ty.signed (2 ^ n.ty.bits) (2 ^ (n.ty.bits - 1)) all (omega (arith, half)) n.value n.in_range.0 n.in_range.1

product_fits : (n m : Num) → unsigned_abs n.value * unsigned_abs m.value < 2 ^ 128
product_fits n m =
    let all : unsigned_abs n.value * unsigned_abs m.value ≤ (2 ^ 64 - 1) * (2 ^ 64 - 1) = mul-le (unsigned_abs n.value) (unsigned_abs m.value) (2 ^ 64 - 1) (2 ^ 64 - 1) (omega (arith, abs_below n)) (omega (arith, abs_below m)) in
    omega (arith, all)

pub product_of : (n m : Num) (a b : ℕ) → a ≡ unsigned_abs n.value → b ≡ unsigned_abs m.value → a * b < 2 ^ 128
product_of n m a b e f = rw (e, f) (product_fits n m)
