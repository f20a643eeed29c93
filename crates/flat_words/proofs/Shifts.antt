-- Shifts of the numbers that words stand for.
use Rattle.std.proofs.Common.{refl, ◌≡◌, ℕ, ◌+◌, ◌*◌, ◌/◌, ◌%◌, ◌^◌, ◌<◌, ◌⊎◌, inl, inr, sym, ◌∙◌, ap, arith, ℤ, pos, negsuc, ◌+ℤ◌, ◌*ℤ◌}
use Rattle.std.proofs.Math.Nat.{add-mul-mod_self_right, mod-eq_of_lt, mod-lt}
use Rattle.std.proofs.lemmas.Bool.Decides.{nat_tests}
use Rattle.std.proofs.lemmas.Int.{ints}
use Rattle.std.specs.Prelude.{Bool, true, false, not, ◌||◌, ◌&&◌, IsTrue, int_le, int_lt, unsigned_abs}
use Rattle.std.specs.Int.{int_shr}
use Rattle.std.specs.Result.{result_unwrap_or}
use Rattle.ak_words.specs.declared.int_type.IntType.{IntType}
use Rattle.ak_words.specs.declared.number.Num.{Num}
use Rattle.ak_words.specs.declared.operation.Op.TheVariants.{Shl, Shr}
use Rattle.ak_words.specs.declared.rule.Rule.TheVariants.{C3}
use Rattle.ak_words.specs.Num.{num}
use Rattle.ak_words.specs.Op.{exact_result, rule_of, replacement, wrapped_result, outcome, rule_if, overflows, is_count}
use Rattle.ak_words.specs.Width.{is_width}
use Rattle.ak_words.specs.Wrapped.{residue, wrapped_value}
use Rattle.ak_words.proofs.Residues.{residue_is}
use Rattle.ak_words.proofs.Types.{width_bounds}
use Rattle.flat_words.specs.Words.{word_in, applied, number_in}
use Rattle.flat_words.proofs.Same.{apart, words_same}
use borrow.Author.Differences.{up, down}

-- ---- the count

-- a width divides 2^bits
divides : (n : ℕ) → IsTrue (is_width n) → (q : ℕ) × (q * n ≡ 2 ^ n)
divides n h = by (which n h)
  where
    which : (n : ℕ) → IsTrue (is_width n) → (n ≡ 8) ⊎ (n ≡ 16) ⊎ (n ≡ 32) ⊎ (n ≡ 64)
    which n h = grind (arith, nat_tests)

    by : (n ≡ 8) ⊎ (n ≡ 16) ⊎ (n ≡ 32) ⊎ (n ≡ 64) → (q : ℕ) × (q * n ≡ 2 ^ n)
    by w = elim w [ inl e ↦ rw e (32, refl) | inr v ↦ elim v [ inl e ↦ rw e (4096, refl) | inr u ↦ elim u [ inl e ↦ rw e (134217728, refl) | inr e ↦ rw e (288230376151711744, refl) ] ] ]

-- so the word tells the count as the number does
pub places_is : (t : IntType) (b : ℕ) → b % t.bits ≡ residue t.bits (wrapped_value t (pos b))
places_is t b =
    let d = divides t.bits t.known_width in
    let some : 0 < t.bits = omega (arith, (width_bounds t.bits t.known_width).0) in
    let x = apart t b in
    let left : x.0 * d.0 * t.bits ≡ x.0 * 2 ^ t.bits = omega (arith, ap (λ n. x.0 * n) d.1) in
    let right : x.1 * d.0 * t.bits ≡ x.1 * 2 ^ t.bits = omega (arith, ap (λ n. x.1 * n) d.1) in
    sym (residue_is t.bits (wrapped_value t (pos b)) (x.0 * d.0) (b + x.1 * d.0 * t.bits) some (omega (arith, ints, x.2, left, right)) ∙ add-mul-mod_self_right b (x.1 * d.0) t.bits)

pub places_below : (t : IntType) (b : ℕ) → b % t.bits < 64
places_below t b =
    let w = width_bounds t.bits t.known_width in
    let low = w.0 in
    let high = w.1 in
    omega (arith, mod-lt b {m = t.bits} (omega arith))

-- ---- the shift

-- a count from 0 to below the width is itself modulo the width
count_is : (m : ℕ) (y : ℤ) → 0 < m → (int_le (pos 0) y && int_lt y (pos m)) ≡ true → unsigned_abs y ≡ residue m y
count_is m (pos n) some h = let small : n < m = grind (arith, nat_tests) in sym (residue_is m (pos n) 0 n some (omega (arith, ints)) ∙ mod-eq_of_lt small)
count_is m (negsuc n) some h = absurd (cc)

counted : (p q : Bool) → (not p || q) ≡ false → p ≡ true
counted true q e = refl
counted false q e = absurd (cc)

-- with or without a broken rule
either : (c : Bool) (one other : Num) → (c ≡ false → one ≡ other) → result_unwrap_or (outcome (rule_if C3 c) one) other ≡ other
either true one other h = refl
either false one other h = h refl

wrapped_left : (a b : Num) → wrapped_result Shl a b ≡ num a.ty (a.value *ℤ pos (2 ^ residue a.ty.bits b.value))
unfolding exact_result rule_of replacement
wrapped_left a b =
    let t = a.ty in
    let some : 0 < t.bits = omega (arith, (width_bounds t.bits t.known_width).0) in
    let lost = t.signed && int_lt a.value (pos 0) || overflows t (a.value *ℤ pos (2 ^ unsigned_abs b.value)) in
    either (not (is_count t b.value) || lost) (num t (a.value *ℤ pos (2 ^ unsigned_abs b.value))) (num t (a.value *ℤ pos (2 ^ residue t.bits b.value)))
    (λ e. ap (λ k. num t (a.value *ℤ pos (2 ^ k))) (count_is t.bits b.value some (counted (is_count t b.value) lost e)))

-- numbers that differ by multiples of m, times c
scaled : (x : ℤ) (a m j k c : ℕ) → x +ℤ pos (j * m) ≡ pos a +ℤ pos (k * m) → x *ℤ pos c +ℤ pos (j * c * m) ≡ pos (a * c) +ℤ pos (k * c * m)
scaled x a m j k c e =
    let p : up x + j * m ≡ down x + (a + k * m) = omega (arith, ints, e) in
    let times = ap (λ v. v * c) p in
    omega (arith, ints, times)

pub left_is : (t : IntType) (a b k : ℕ) → k ≡ residue t.bits (wrapped_value t (pos b)) → word_in t ((a * 2 ^ k) % 2 ^ 64) ≡ applied Shl t a b
left_is t a b k e =
    let x = apart t a in
    words_same t (wrapped_value t (pos a) *ℤ pos (2 ^ k)) (a * 2 ^ k) (x.0 * 2 ^ k) (x.1 * 2 ^ k) (scaled (wrapped_value t (pos a)) a (2 ^ t.bits) x.0 x.1 (2 ^ k) x.2)
    ∙ sym (ap (λ (n : Num). residue (2 ^ 64) n.value) (wrapped_left (number_in t a) (number_in t b)) ∙ ap (λ j. residue (2 ^ 64) (wrapped_value t (wrapped_value t (pos a) *ℤ pos (2 ^ j)))) (sym e))

-- ---- and to the right

wrapped_right : (a b : Num) → wrapped_result Shr a b ≡ num a.ty (int_shr a.value (residue a.ty.bits b.value))
unfolding exact_result rule_of replacement
wrapped_right a b =
    let t = a.ty in
    let some : 0 < t.bits = omega (arith, (width_bounds t.bits t.known_width).0) in
    either (not (is_count t b.value)) (num t (int_shr a.value (unsigned_abs b.value))) (num t (int_shr a.value (residue t.bits b.value)))
    (λ e. ap (λ k. num t (int_shr a.value k)) (count_is t.bits b.value some (negated (is_count t b.value) e)))
  where
    negated : (p : Bool) → not p ≡ false → p ≡ true
    negated true e = refl
    negated false e = absurd (cc)

pub right_is : (t : IntType) (a b x k : ℕ) → wrapped_value t (pos a) ≡ pos x → k ≡ residue t.bits (wrapped_value t (pos b)) → word_in t (x / 2 ^ k) ≡ applied Shr t a b
right_is t a b x k one e =
    sym (ap (λ (n : Num). residue (2 ^ 64) n.value) (wrapped_right (number_in t a) (number_in t b)) ∙ (λ i. residue (2 ^ 64) (wrapped_value t (int_shr (one i) (sym e i)))))
