-- Quotients and remainders of the numbers that two words stand for, where neither is negative.
use Rattle.std.proofs.Common.{refl, ◌≡◌, ℕ, ◌-◌, ◌/◌, ◌%◌, ◌^◌, ◌≤◌, sym, ◌∙◌, ap, subst, arith, ℤ, pos, ◌+ℤ◌, ◌≤ℤ◌, ◌<ℤ◌}
use Rattle.std.proofs.Math.Nat.{div-le_self}
use Rattle.std.proofs.lemmas.Bool.Decides.{Decides-int_eq}
use Rattle.std.proofs.lemmas.Int.{ints}
use Rattle.std.specs.Ordering.{int_eq}
use Rattle.std.specs.Prelude.{Bool, true, false, not, ◌&&◌, if◌then◌else◌, int_div, int_rem, neg_ℤ, Some}
use Rattle.std.specs.Result.{result_unwrap_or}
use Rattle.ak_words.specs.declared.int_type.IntType.{IntType}
use Rattle.ak_words.specs.declared.number.Num.{Num}
use Rattle.ak_words.specs.declared.operation.Op.TheVariants.{Div, Rem}
use Rattle.ak_words.specs.declared.rule.Rule.TheVariants.{C1, C2}
use Rattle.ak_words.specs.IntType.{least, IsInRange}
use Rattle.ak_words.specs.Num.{num}
use Rattle.ak_words.specs.Op.{exact_result, rule_of, replacement, wrapped_result, outcome, rule_if, overflows}
use Rattle.ak_words.specs.Wrapped.{residue, wrapped_value}
use Rattle.ak_words.specs.inner.InRange.{wrapped_value-in_range}
use Rattle.ak_words.proofs.Types.{is_held-IsInRange}
use Rattle.flat_words.specs.Words.{word_in, applied, number_in}

-- by a zero divisor or not, and with a quotient that overflows or not
quotient_of : (none over : Bool) (t : IntType) (z : ℤ) → result_unwrap_or (outcome (if none then Some C2 else rule_if C1 over) (num t z)) (num t (if none then pos 0 else z)) ≡ num t (if none then pos 0 else z)
quotient_of true over t z = refl
quotient_of false true t z = refl
quotient_of false false t z = refl

remainder_of : (none over : Bool) (t : IntType) (z : ℤ) → over ≡ false → result_unwrap_or (outcome (if none then Some C2 else rule_if C1 over) (num t z)) (num t (pos 0)) ≡ num t (if none then pos 0 else z)
remainder_of true over t z e = refl
remainder_of false true t z e = absurd (cc)
remainder_of false false t z e = refl

wrapped_quotient : (a b : Num) → wrapped_result Div a b ≡ num a.ty (if int_eq b.value (pos 0) then pos 0 else int_div a.value b.value)
unfolding exact_result rule_of replacement
wrapped_quotient a b = quotient_of (int_eq b.value (pos 0)) (overflows a.ty (int_div a.value b.value)) a.ty (int_div a.value b.value)

-- a quotient of natural numbers stays in the range of the first
within : (l : ℤ) (m h x r : ℕ) → l ≡ neg_ℤ (pos h) → r ≤ x → pos x <ℤ (l +ℤ pos m) → (l ≤ℤ pos r) × (pos r <ℤ (l +ℤ pos m))
within l m h x r e less below = (omega (arith, ints, e), omega (arith, ints, less, below))

some_half : (t : IntType) → (h : ℕ) × (least t ≡ neg_ℤ (pos h))
some_half t = by t.signed (2 ^ (t.bits - 1))
  where
    by : (s : Bool) (n : ℕ) → (h : ℕ) × ((if s then neg_ℤ (pos n) else pos 0) ≡ neg_ℤ (pos h))
    by true n = (n, refl)
    by false n = (0, refl)

never_over : (t : IntType) (x y : ℕ) → IsInRange t (pos x) → overflows t (pos (x / y)) ≡ false
never_over t x y here =
    let h = some_half t in
    let there = within (least t) (2 ^ t.bits) h.0 x (x / y) h.1 (div-le_self x y) here.1 in
    ap (λ (held : Bool). t.signed && not held) ((is_held-IsInRange t (pos (x / y))).1 there) ∙ by t.signed
  where
    by : (s : Bool) → (s && false) ≡ false
    by true = refl
    by false = refl

wrapped_remainder : (a b : Num) → overflows a.ty (int_div a.value b.value) ≡ false → wrapped_result Rem a b ≡ num a.ty (if int_eq b.value (pos 0) then pos 0 else int_rem a.value b.value)
unfolding exact_result rule_of replacement
wrapped_remainder a b e = remainder_of (int_eq b.value (pos 0)) (overflows a.ty (int_div a.value b.value)) a.ty (int_rem a.value b.value) e

more_is_not : (n : ℕ) → ¬ (n ≡ 0) → int_eq (pos n) (pos 0) ≡ false
more_is_not n some = by (int_eq (pos n) (pos 0)) refl
  where
    by : (b : Bool) → int_eq (pos n) (pos 0) ≡ b → b ≡ false
    by true e = let h = (Decides-int_eq (pos n) (pos 0)).0 e in absurd (some (omega (arith, ints, h)))
    by false e = refl

-- two words that stand for natural numbers
module _ (t : IntType) (a b x y : ℕ) (one : wrapped_value t (pos a) ≡ pos x) (two : wrapped_value t (pos b) ≡ pos y) where
  abbrev as_word : ℤ → ℕ
  as_word z = residue (2 ^ 64) (wrapped_value t z)

  none_is : y ≡ 0 → int_eq (wrapped_value t (pos b)) (pos 0) ≡ true
  none_is e = (Decides-int_eq (wrapped_value t (pos b)) (pos 0)).1 (two ∙ ap pos e)

  some_is : ¬ (y ≡ 0) → int_eq (wrapped_value t (pos b)) (pos 0) ≡ false
  some_is some = ap (λ z. int_eq z (pos 0)) two ∙ more_is_not y some

  no_over : overflows t (int_div (wrapped_value t (pos a)) (wrapped_value t (pos b))) ≡ false
  no_over = (λ i. overflows t (int_div (one i) (two i))) ∙ never_over t x y (subst (IsInRange t) one (wrapped_value-in_range t (pos a)))

  divided : applied Div t a b ≡ as_word (if int_eq (wrapped_value t (pos b)) (pos 0) then pos 0 else int_div (wrapped_value t (pos a)) (wrapped_value t (pos b)))
  divided = ap (λ (n : Num). residue (2 ^ 64) n.value) (wrapped_quotient (number_in t a) (number_in t b))

  left_over : applied Rem t a b ≡ as_word (if int_eq (wrapped_value t (pos b)) (pos 0) then pos 0 else int_rem (wrapped_value t (pos a)) (wrapped_value t (pos b)))
  left_over = ap (λ (n : Num). residue (2 ^ 64) n.value) (wrapped_remainder (number_in t a) (number_in t b) no_over)

  pub quotient_is-zero : y ≡ 0 → word_in t 0 ≡ applied Div t a b
  quotient_is-zero e = sym (divided ∙ ap (λ (none : Bool). as_word (if none then pos 0 else int_div (wrapped_value t (pos a)) (wrapped_value t (pos b)))) (none_is e))

  pub remainder_is-zero : y ≡ 0 → word_in t 0 ≡ applied Rem t a b
  remainder_is-zero e = sym (left_over ∙ ap (λ (none : Bool). as_word (if none then pos 0 else int_rem (wrapped_value t (pos a)) (wrapped_value t (pos b)))) (none_is e))

  pub quotient_is : ¬ (y ≡ 0) → word_in t (x / y) ≡ applied Div t a b
  quotient_is some = sym (divided ∙ ap (λ (none : Bool). as_word (if none then pos 0 else int_div (wrapped_value t (pos a)) (wrapped_value t (pos b)))) (some_is some) ∙ (λ i. as_word (int_div (one i) (two i))))

  pub remainder_is : ¬ (y ≡ 0) → word_in t (x % y) ≡ applied Rem t a b
  remainder_is some = sym (left_over ∙ ap (λ (none : Bool). as_word (if none then pos 0 else int_rem (wrapped_value t (pos a)) (wrapped_value t (pos b)))) (some_is some) ∙ (λ i. as_word (int_rem (one i) (two i))))
