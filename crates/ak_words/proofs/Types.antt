-- Laws of C's integer types: their widths and ranges.
use Rattle.std.proofs.Common.{refl, ◌≡◌, ℕ, ◌+◌, ◌-◌, ◌^◌, suc, ◌≤◌, sym, ◌∙◌, ap, arith, ℤ, pos, ◌+ℤ◌, ◌≤ℤ◌, ◌<ℤ◌}
use Rattle.std.proofs.Math.Bool.{Bool-set}
use Rattle.std.proofs.Math.Pow.{pow_mono}
use Rattle.std.proofs.lemmas.Bool.Decides.{nat_tests}
use Rattle.std.proofs.lemmas.Int.{ints}
use Rattle.std.proofs.Math.Dec.{T}
use Rattle.std.specs.Prelude.{IsTrue, ◌↔◌, neg_ℤ, if◌then◌else◌, Bool, true, false, ◌&&◌, int_le, int_lt}
use Rattle.ak_words.specs.declared.int_type.IntType.{IntType}
use Rattle.ak_words.specs.IntType.{least, IsInRange, is_held}
use Rattle.ak_words.specs.Width.{is_width}
use mathlib.Core.HLevel.{is_prop→PathP}

-- a type is its sign and its width
pub int_type_is : (a b : IntType) → a.signed ≡ b.signed → a.bits ≡ b.bits → a ≡ b
int_type_is a b p q = λ i. record {
  signed = p i;
  bits = q i;
  known_width = is_prop→PathP (λ j. IsTrue (is_width (q j))) (λ j. hlevel Bool-set) a.known_width b.known_width i;
}

-- a type's widths
pub width_bounds : (n : ℕ) → IsTrue (is_width n) → (8 ≤ n) × (n ≤ 64)
width_bounds n h = grind (arith, nat_tests)

-- the two halves of a signed type's 2^bits
pub half_twice : (t : IntType) → 2 ^ (t.bits - 1) + 2 ^ (t.bits - 1) ≡ 2 ^ t.bits
half_twice t =
    let b = width_bounds t.bits t.known_width in
    let b0 = b.0 in
    let e : t.bits ≡ suc (t.bits - 1) = omega arith in
    sym (ap (λ k. 2 ^ k) e ∙ omega arith)

pub half_small : (t : IntType) → 2 ^ (t.bits - 1) ≤ 2 ^ 63
half_small t =
    let b = width_bounds t.bits t.known_width in
    let b1 = b.1 in
    pow_mono {i = t.bits - 1} {j = 63} (omega arith)

-- every type's range lies from -2^63 to below 2^64
pub least_bounds : (t : IntType) → (neg_ℤ (pos (2 ^ 63)) ≤ℤ least t) × ((least t +ℤ pos (2 ^ t.bits)) ≤ℤ pos (2 ^ 64))
least_bounds t = by t.signed (2 ^ (t.bits - 1)) (2 ^ t.bits) (half_small t) (half_twice t)
  where
    by : (s : Bool) (h m : ℕ) → h ≤ 2 ^ 63 → h + h ≡ m → (neg_ℤ (pos (2 ^ 63)) ≤ℤ (if s then neg_ℤ (pos h) else pos 0)) × (((if s then neg_ℤ (pos h) else pos 0) +ℤ pos m) ≤ℤ pos (2 ^ 64))
    by true h m a b = (omega (arith, ints), omega (arith, ints))
    by false h m a b = (omega (arith, ints), omega (arith, ints))

-- so a number of a C type fits i128 with room
pub range_bounds : (t : IntType) (z : ℤ) → IsInRange t z → (neg_ℤ (pos (2 ^ 63)) ≤ℤ z) × (z <ℤ pos (2 ^ 64))
range_bounds t z h = by (least t) (2 ^ t.bits) (least_bounds t).0 (least_bounds t).1 h.0 h.1
  where
    by : (l : ℤ) (m : ℕ) → neg_ℤ (pos (2 ^ 63)) ≤ℤ l → (l +ℤ pos m) ≤ℤ pos (2 ^ 64) → l ≤ℤ z → z <ℤ (l +ℤ pos m) → (neg_ℤ (pos (2 ^ 63)) ≤ℤ z) × (z <ℤ pos (2 ^ 64))
    by l m a b c d = (omega (arith, ints), omega (arith, ints))

-- the test of a signed type's range by its half
is_held-signed : (t : IntType) (v : ℤ) → t.signed ≡ true → is_held t v ≡ (int_le (neg_ℤ (pos (2 ^ (t.bits - 1)))) v && int_lt v (pos (2 ^ (t.bits - 1))))
is_held-signed t v s =
    let h = 2 ^ (t.bits - 1) in
    let top : neg_ℤ (pos h) +ℤ pos (2 ^ t.bits) ≡ pos h = omega (arith, ints, half_twice t) in
    rw s (ap (λ x. int_le (neg_ℤ (pos h)) v && int_lt v x) top)

pub below_least : (t : IntType) (v x low : ℤ) → t.signed ≡ true → x ≡ v → low ≡ neg_ℤ (pos (2 ^ (t.bits - 1))) → int_le low x ≡ false → int_le low x ≡ is_held t v
below_least t v x low s e f h = h ∙ sym (is_held-signed t v s ∙ ap (λ b. b && int_lt v (pos (2 ^ (t.bits - 1)))) (sym (ap (λ l. int_le l x) f ∙ ap (int_le (neg_ℤ (pos (2 ^ (t.bits - 1))))) e) ∙ h))

both : (p q : Bool) → (p && q) ≡ true → T p × T q
both true true e = (tt, tt)
both true false e = absurd (cc)
both false q e = absurd (cc)

-- the test and the fact
pub is_held-IsInRange : (t : IntType) (z : ℤ) → IsTrue (is_held t z) ↔ IsInRange t z
is_held-IsInRange t z = (λ e. let h = both (int_le (least t) z) (int_lt z (least t +ℤ pos (2 ^ t.bits))) e in (record { le = h.0 }, record { lt = h.1 }), λ r. back (int_le (least t) z) (int_lt z (least t +ℤ pos (2 ^ t.bits))) r.0.le r.1.lt)
  where
    back : (p q : Bool) → T p → T q → (p && q) ≡ true
    back true true a b = refl
    back true false a b = absurd b
    back false q a b = absurd a
