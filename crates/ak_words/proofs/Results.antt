-- What `apply` finds of sums, differences, products, quotients and remainders is `result_of`.
use Rattle.std.proofs.Common.{◌≡◌, ◌*◌, ◌%◌, ◌^◌, refl, sym, ◌∙◌, ap, ℤ, pos, ◌+ℤ◌, ◌-ℤ◌, ◌*ℤ◌, Bool, true, false, to_z, of_z}
use Rattle.std.specs.Prelude.{int_div, int_rem, Ok, Err}
use Rattle.std.specs.Int.{w128, int_wrap}
use Rattle.std.specs.Ordering.{int_eq}
use Rattle.std.proofs.lemmas.Bool.Decides.{Decides-int_eq}
use Rattle.std.proofs.lemmas.Int.{wrapping_mul_is, int_wrap_fits}
use Rattle.ak_words.specs.declared.int_type.IntType.{IntType}
use Rattle.ak_words.specs.declared.number.Num.{Num}
use Rattle.ak_words.specs.declared.operation.Op.TheVariants.{Add, Sub, Mul, Div, Rem}
use Rattle.ak_words.specs.declared.rule.Rule.TheVariants.{C1, C2}
use Rattle.ak_words.specs.Wrapped.{wrapped_value}
use Rattle.ak_words.specs.Num.{num}
use Rattle.ak_words.specs.Op.{exact_result, rule_of, rule_if, outcome, result_of, arithmetic_result, overflows}
use Rattle.ak_words.proofs.Wraps.{wrapped_value-int_wrap}
use Rattle.ak_words.proofs.Numbers.{value_fits, value_read, num_is}
use Rattle.ak_words.proofs.Values.{sum_read, difference_read, quotient_read, remainder_read, product_fits}

pub sum_result : (a b : Num) → arithmetic_result a.ty (to_z w128 (of_z w128 (to_z w128 (of_z w128 a.value) +ℤ to_z w128 (of_z w128 b.value)))) ≡ result_of Add a b
unfolding rule_of exact_result
sum_result a b = ap (arithmetic_result a.ty) (sum_read a b)

pub difference_result : (a b : Num) → arithmetic_result a.ty (to_z w128 (of_z w128 (to_z w128 (of_z w128 a.value) -ℤ to_z w128 (of_z w128 b.value)))) ≡ result_of Sub a b
unfolding rule_of exact_result
difference_result a b = ap (arithmetic_result a.ty) (difference_read a b)

-- two results that overflow alike and become the same number
alike : (t : IntType) (p z : ℤ) → overflows t p ≡ overflows t z → wrapped_value t p ≡ wrapped_value t z → arithmetic_result t p ≡ arithmetic_result t z
alike t p z o w = λ i. outcome (rule_if C1 (o i)) (num_is (num t p) t z refl w i)

pub product_result : (a b : Num) → arithmetic_result a.ty (to_z w128 ((of_z w128 a.value * of_z w128 b.value) % 2 ^ 128)) ≡ result_of Mul a b
unfolding rule_of exact_result
product_result a b =
    let z = a.value *ℤ b.value in
    ap (arithmetic_result a.ty) (wrapping_mul_is w128 a.value b.value (value_fits a) (value_fits b))
    ∙ alike a.ty (int_wrap w128 z) z (same a.ty.signed refl) (wrapped_value-int_wrap a.ty z)
  where
    same : (s : Bool) → a.ty.signed ≡ s → overflows a.ty (int_wrap w128 (a.value *ℤ b.value)) ≡ overflows a.ty (a.value *ℤ b.value)
    same true e = ap (overflows a.ty) (int_wrap_fits w128 (a.value *ℤ b.value) (product_fits a b e))
    same false e = rw e refl

-- a divisor of 0, as the code tests it
pub zero_divisor : (b : Num) → of_z w128 b.value ≡ 0 → int_eq b.value (pos 0) ≡ true
zero_divisor b e = (Decides-int_eq b.value (pos 0)).1 (sym (value_read b) ∙ ap (to_z w128) e)

pub nonzero_divisor : (b : Num) → ¬ (of_z w128 b.value ≡ 0) → int_eq b.value (pos 0) ≡ false
nonzero_divisor b n = by (int_eq b.value (pos 0)) refl
  where
    by : (t : Bool) → int_eq b.value (pos 0) ≡ t → t ≡ false
    by true e = absurd (n (ap (of_z w128) ((Decides-int_eq b.value (pos 0)).0 e)))
    by false e = refl

pub quotient_result-zero : (a b : Num) → of_z w128 b.value ≡ 0 → Err C2 ≡ result_of Div a b
unfolding rule_of
quotient_result-zero a b e = rw (zero_divisor b e) refl

pub quotient_result : (a b : Num) → ¬ (of_z w128 b.value ≡ 0) → arithmetic_result a.ty (to_z w128 (of_z w128 (int_div (to_z w128 (of_z w128 a.value)) (to_z w128 (of_z w128 b.value))))) ≡ result_of Div a b
unfolding rule_of exact_result
quotient_result a b n = rw (nonzero_divisor b n) (ap (arithmetic_result a.ty) (quotient_read a b))

pub remainder_result-zero : (a b : Num) → of_z w128 b.value ≡ 0 → Err C2 ≡ result_of Rem a b
unfolding rule_of
remainder_result-zero a b e = rw (zero_divisor b e) refl

pub remainder_result-overflow : (a b : Num) → ¬ (of_z w128 b.value ≡ 0) → overflows a.ty (to_z w128 (of_z w128 (int_div (to_z w128 (of_z w128 a.value)) (to_z w128 (of_z w128 b.value))))) ≡ true → Err C1 ≡ result_of Rem a b
unfolding rule_of
remainder_result-overflow a b n o =
    let over : overflows a.ty (int_div a.value b.value) ≡ true = sym (ap (overflows a.ty) (quotient_read a b)) ∙ o in
    rw (nonzero_divisor b n, over) refl

pub remainder_result : (a b r : Num) → ¬ (of_z w128 b.value ≡ 0) → overflows a.ty (to_z w128 (of_z w128 (int_div (to_z w128 (of_z w128 a.value)) (to_z w128 (of_z w128 b.value))))) ≡ false
    → r ≡ num a.ty (to_z w128 (of_z w128 (int_rem (to_z w128 (of_z w128 a.value)) (to_z w128 (of_z w128 b.value))))) → Ok r ≡ result_of Rem a b
unfolding rule_of exact_result
remainder_result a b r n o e =
    let within : overflows a.ty (int_div a.value b.value) ≡ false = sym (ap (overflows a.ty) (quotient_read a b)) ∙ o in
    rw (nonzero_divisor b n, within) (ap Ok (e ∙ ap (num a.ty) (remainder_read a b)))
