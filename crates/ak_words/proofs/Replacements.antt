-- What `wrap_apply` finds where a rule is broken is `replacement`, wrapped.
use Rattle.std.proofs.Common.{◌≡◌, ℕ, ◌*◌, ◌%◌, ◌^◌, ◌<◌, refl, ◌∙◌, ap, arith, ℤ, pos, ◌+ℤ◌, ◌-ℤ◌, ◌*ℤ◌, to_z, of_z}
use Rattle.std.specs.Prelude.{int_div, unsigned_abs, FitsSigned}
use Rattle.std.specs.Int.{w128, int_shr, int_rem_euclid}
use Rattle.std.proofs.lemmas.Int.{ints, to_z-of_z, wrapping_mul_is}
use Rattle.ak_words.specs.declared.int_type.IntType.{IntType}
use Rattle.ak_words.specs.declared.number.Num.{Num}
use Rattle.ak_words.specs.declared.operation.Op.{Op}
use Rattle.ak_words.specs.declared.operation.Op.TheVariants.{Add, Sub, Mul, Div, Shl, Shr, Eq, Ne, Lt, Le, Gt, Ge}
use Rattle.ak_words.specs.declared.rule.Rule.{Rule}
use Rattle.ak_words.specs.Wrapped.{residue}
use Rattle.ak_words.specs.Num.{num}
use Rattle.ak_words.specs.Op.{rule_of, result_of, result_type, replacement}
use Rattle.std.specs.Prelude.{Err}
use Rattle.ak_words.proofs.Types.{width_bounds}
use Rattle.ak_words.proofs.Wraps.{wrapped_value-int_wrap}
use Rattle.ak_words.proofs.Numbers.{value_fits, value_read, num_is}
use Rattle.ak_words.proofs.Values.{sum_read, difference_read, quotient_read, left_read, right_read}
use Rattle.ak_words.proofs.Results.{zero_divisor, nonzero_divisor}

pub sum_replacement : (a b : Num) → num a.ty (to_z w128 (of_z w128 (to_z w128 (of_z w128 a.value) +ℤ to_z w128 (of_z w128 b.value)))) ≡ num a.ty (replacement Add a.ty a.value b.value)
unfolding replacement
sum_replacement a b = ap (num a.ty) (sum_read a b)

pub difference_replacement : (a b : Num) → num a.ty (to_z w128 (of_z w128 (to_z w128 (of_z w128 a.value) -ℤ to_z w128 (of_z w128 b.value)))) ≡ num a.ty (replacement Sub a.ty a.value b.value)
unfolding replacement
difference_replacement a b = ap (num a.ty) (difference_read a b)

pub product_replacement : (a b : Num) → num a.ty (to_z w128 ((of_z w128 a.value * of_z w128 b.value) % 2 ^ 128)) ≡ num a.ty (replacement Mul a.ty a.value b.value)
unfolding replacement
product_replacement a b =
    let z = a.value *ℤ b.value in
    ap (num a.ty) (wrapping_mul_is w128 a.value b.value (value_fits a) (value_fits b)) ∙ num_is _ a.ty z refl (wrapped_value-int_wrap a.ty z)

pub quotient_replacement-zero : (a b : Num) → of_z w128 b.value ≡ 0 → num a.ty (pos 0) ≡ num a.ty (replacement Div a.ty a.value b.value)
unfolding replacement
quotient_replacement-zero a b e = rw (zero_divisor b e) refl

pub quotient_replacement : (a b : Num) → ¬ (of_z w128 b.value ≡ 0) → num a.ty (to_z w128 (of_z w128 (int_div (to_z w128 (of_z w128 a.value)) (to_z w128 (of_z w128 b.value))))) ≡ num a.ty (replacement Div a.ty a.value b.value)
unfolding replacement
quotient_replacement a b n = rw (nonzero_divisor b n) (ap (num a.ty) (quotient_read a b))

-- a shift by k places, where k is the count modulo the width
pub left_replacement : (a b : Num) (k : ℕ) → k ≡ residue a.ty.bits b.value → k < 64 → num a.ty (to_z w128 ((of_z w128 a.value * 2 ^ k) % 2 ^ 128)) ≡ num a.ty (replacement Shl a.ty a.value b.value)
unfolding replacement
left_replacement a b k e h = ap (num a.ty) (left_read a k h ∙ ap (λ j. a.value *ℤ pos (2 ^ j)) e)

pub right_replacement : (a b : Num) (k : ℕ) → k ≡ residue a.ty.bits b.value → num a.ty (to_z w128 (of_z w128 (int_shr (to_z w128 (of_z w128 a.value)) k))) ≡ num a.ty (replacement Shr a.ty a.value b.value)
unfolding replacement
right_replacement a b k e = ap (num a.ty) (right_read a k ∙ ap (int_shr a.value) e)

-- the other operators
pub other_replacement : (op : Op) (t : IntType) (x y : ℤ) → ¬ (op ≡ Add) → ¬ (op ≡ Sub) → ¬ (op ≡ Mul) → ¬ (op ≡ Div) → ¬ (op ≡ Shl) → ¬ (op ≡ Shr) → pos 0 ≡ replacement op t x y
unfolding replacement
other_replacement Add t x y a s m d l r = absurd (a refl)
other_replacement Sub t x y a s m d l r = absurd (s refl)
other_replacement Mul t x y a s m d l r = absurd (m refl)
other_replacement Div t x y a s m d l r = absurd (d refl)
other_replacement Shl t x y a s m d l r = absurd (l refl)
other_replacement Shr t x y a s m d l r = absurd (r refl)
other_replacement op t x y a s m d l r = refl

-- the count modulo the width, as the code computes it
pub places_read : (t : IntType) (n : Num) (width r : ℤ) → width ≡ pos t.bits → FitsSigned w128 r → r ≡ int_rem_euclid (to_z w128 (of_z w128 n.value)) (to_z w128 (of_z w128 width)) → unsigned_abs (to_z w128 (of_z w128 r)) ≡ residue t.bits n.value
unfolding residue
places_read t n width r w f e =
    let b = width_bounds t.bits t.known_width in
    let b1 = b.1 in
    let read : to_z w128 (of_z w128 width) ≡ pos t.bits = omega (arith, ints) in
    ap unsigned_abs (to_z-of_z w128 r f ∙ e ∙ (λ i. int_rem_euclid (value_read n i) (read i)))

-- a comparison breaks no rule, so where one is broken the result's type is the operands'
pub result_type-broken : (op : Op) (a b : Num) (rule : Rule) → Err rule ≡ result_of op a b → a.ty ≡ result_type op a.ty
unfolding rule_of
result_type-broken Eq a b rule e = cc
result_type-broken Ne a b rule e = cc
result_type-broken Lt a b rule e = cc
result_type-broken Le a b rule e = cc
result_type-broken Gt a b rule e = cc
result_type-broken Ge a b rule e = cc
result_type-broken op a b rule e = refl
