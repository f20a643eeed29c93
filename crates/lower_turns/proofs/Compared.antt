-- A number that is compared to 0.
use Rattle.std.proofs.Common.{◌≡◌, ◌^◌, ◌+◌, ◌<◌, ◌≤◌, ◌-◌, ◌+ℤ◌, ◌≤ℤ◌, ◌<ℤ◌, ℕ, ℤ, pos, neg_ℤ, Bool, true, false, not, if◌then◌else◌, nat_lt, refl, subst, Ok, arith}
use Rattle.std.specs.Ordering.{int_eq}
use Rattle.std.proofs.Math.Pow.{pow_pos, pow_mono}
use Rattle.std.proofs.lemmas.Int.{ints}
use Rattle.std.proofs.lemmas.Bool.{ltb-true}
use Rattle.ak_words.specs.declared.int_type.IntType.{IntType}
use Rattle.ak_words.specs.declared.number.Num.{Num}
use Rattle.ak_words.specs.declared.operation.Op.TheVariants as ops
use Rattle.ak_words.specs.IntType.{int, promoted_type, IsInRange}
use Rattle.ak_words.specs.Num.{num}
use Rattle.ak_words.specs.Op.{exact_result, result_of, rule_of, truth}
use Rattle.ak_words.proofs.Types.{half_twice}
use Rattle.ak_words.proofs.Wraps.{wrapped_value-in_type}

zero_in_range : (t : IntType) → IsInRange t (pos 0)
zero_in_range t = by t.signed (2 ^ (t.bits - 1)) (2 ^ t.bits) (pow_pos (t.bits - 1)) (half_twice t)
  where
    by : (s : Bool) (h m : ℕ) → 0 < h → h + h ≡ m → ((if s then neg_ℤ (pos h) else pos 0) ≤ℤ pos 0) × (pos 0 <ℤ ((if s then neg_ℤ (pos h) else pos 0) +ℤ pos m))
    by true h m p e = (omega (arith, ints), omega (arith, ints))
    by false h m p e = (omega (arith, ints), omega (arith, ints))

-- 0 stays 0 at each type
pub zero_is : (t : IntType) → (num t (pos 0)).value ≡ pos 0
zero_is t = wrapped_value-in_type t (pos 0) (zero_in_range t)

-- what a narrower type holds, int holds too
narrow_in_int : (t : IntType) (z : ℤ) → t.bits < 32 → IsInRange t z → IsInRange int z
narrow_in_int t z s h = by t.signed (2 ^ (t.bits - 1)) (2 ^ t.bits) (half_twice t) (pow_mono (small t.bits s)) h.0 h.1
  where
    small : (n : ℕ) → n < 32 → n ≤ 31
    small n k = omega (arith, k)

    by : (s : Bool) (h m : ℕ) → h + h ≡ m → m ≤ 2 ^ 31 → (if s then neg_ℤ (pos h) else pos 0) ≤ℤ z → z <ℤ ((if s then neg_ℤ (pos h) else pos 0) +ℤ pos m) → IsInRange int z
    by true h m e l k n = (omega (arith, ints, e, l, k), omega (arith, ints, e, l, n))
    by false h m e l k n = (omega (arith, ints, e, l, k), omega (arith, ints, e, l, n))

-- a number keeps its value when it's promoted (C11 6.3.1.1 p3)
pub promoted_is : (n : Num) (t : IntType) → n.ty ≡ t → (num (promoted_type t) n.value).value ≡ n.value
promoted_is n t e = subst (λ s. (num (promoted_type s) n.value).value ≡ n.value) e (wrapped_value-in_type (promoted_type n.ty) n.value (by (nat_lt n.ty.bits 32) refl))
  where
    by : (b : Bool) → nat_lt n.ty.bits 32 ≡ b → IsInRange (if b then int else n.ty) n.value
    by true h = narrow_in_int n.ty n.value (ltb-true n.ty.bits 32 h) n.in_range
    by false h = n.in_range

pub equal_is : (m n : Num) → result_of ops.Eq m n ≡ Ok (num int (truth (int_eq m.value n.value)))
unfolding exact_result rule_of
equal_is m n = refl

pub not_not : (b : Bool) → not (not b) ≡ b
not_not true = refl
not_not false = refl
