-- Sums, differences and products of the numbers that two words stand for.
use Rattle.std.proofs.Common.{refl, ◌≡◌, ℕ, ◌+◌, ◌-◌, ◌*◌, ◌%◌, ◌^◌, ◌<◌, sym, ◌∙◌, ap, arith, ℤ, pos, ◌+ℤ◌, ◌-ℤ◌, ◌*ℤ◌}
use Rattle.std.proofs.lemmas.Int.{ints}
use Rattle.std.specs.Prelude.{Bool, true, false}
use Rattle.std.specs.Result.{result_unwrap_or}
use Rattle.ak_words.specs.declared.int_type.IntType.{IntType}
use Rattle.ak_words.specs.declared.number.Num.{Num}
use Rattle.ak_words.specs.declared.operation.Op.TheVariants.{Add, Sub, Mul}
use Rattle.ak_words.specs.declared.rule.Rule.TheVariants.{C1}
use Rattle.ak_words.specs.Num.{num}
use Rattle.ak_words.specs.Op.{exact_result, rule_of, replacement, wrapped_result, outcome, rule_if, overflows}
use Rattle.ak_words.specs.Wrapped.{residue, wrapped_value}
use Rattle.flat_words.specs.Words.{word_in, applied, number_in}
use Rattle.flat_words.proofs.Same.{apart, whole, words_same}
use borrow.Author.Differences.{up, down}

-- with or without a broken rule the result wraps
either : (b : Bool) (n : Num) → result_unwrap_or (outcome (rule_if C1 b) n) n ≡ n
either true n = refl
either false n = refl

wrapped_sum : (a b : Num) → wrapped_result Add a b ≡ num a.ty (a.value +ℤ b.value)
unfolding exact_result rule_of replacement
wrapped_sum a b = either (overflows a.ty (a.value +ℤ b.value)) (num a.ty (a.value +ℤ b.value))

wrapped_difference : (a b : Num) → wrapped_result Sub a b ≡ num a.ty (a.value -ℤ b.value)
unfolding exact_result rule_of replacement
wrapped_difference a b = either (overflows a.ty (a.value -ℤ b.value)) (num a.ty (a.value -ℤ b.value))

wrapped_product : (a b : Num) → wrapped_result Mul a b ≡ num a.ty (a.value *ℤ b.value)
unfolding exact_result rule_of replacement
wrapped_product a b = either (overflows a.ty (a.value *ℤ b.value)) (num a.ty (a.value *ℤ b.value))

pub sum_is : (t : IntType) (a b : ℕ) → word_in t ((a + b) % 2 ^ 64) ≡ applied Add t a b
sum_is t a b =
    let x = apart t a in
    let y = apart t b in
    words_same t (wrapped_value t (pos a) +ℤ wrapped_value t (pos b)) (a + b) (x.0 + y.0) (x.1 + y.1) (omega (arith, ints, x.2, y.2))
    ∙ sym (ap (λ (n : Num). residue (2 ^ 64) n.value) (wrapped_sum (number_in t a) (number_in t b)))

pub difference_is : (t : IntType) (a b : ℕ) → b < 2 ^ 64 → word_in t ((a + (2 ^ 64 - b)) % 2 ^ 64) ≡ applied Sub t a b
difference_is t a b small =
    let x = apart t a in
    let y = apart t b in
    words_same t (wrapped_value t (pos a) -ℤ wrapped_value t (pos b)) (a + (2 ^ 64 - b)) (x.0 + y.1 + 2 ^ (64 - t.bits)) (x.1 + y.0) (omega (arith, ints, x.2, y.2, whole t, small))
    ∙ sym (ap (λ (n : Num). residue (2 ^ 64) n.value) (wrapped_difference (number_in t a) (number_in t b)))

-- products of numbers that differ by multiples of m
pub product_apart : (x y : ℤ) (a b m j k i l : ℕ) → x +ℤ pos (j * m) ≡ pos a +ℤ pos (k * m) → y +ℤ pos (i * m) ≡ pos b +ℤ pos (l * m)
    → x *ℤ y +ℤ pos ((k * down y + j * up y + a * i) * m) ≡ pos (a * b) +ℤ pos ((k * up y + j * down y + a * l) * m)
product_apart x y a b m j k i l e f =
    let p : up x + j * m ≡ down x + (a + k * m) = omega (arith, ints, e) in
    let q : up y + i * m ≡ down y + (b + l * m) = omega (arith, ints, f) in
    let one = ap (λ v. v * up y) p in
    let two = ap (λ v. v * down y) p in
    let three = ap (λ v. a * v) q in
    omega (arith, ints, one, two, three)

pub product_is : (t : IntType) (a b : ℕ) → word_in t ((a * b) % 2 ^ 64) ≡ applied Mul t a b
product_is t a b =
    let x = apart t a in
    let y = apart t b in
    let v = wrapped_value t (pos b) in
    words_same t (wrapped_value t (pos a) *ℤ v) (a * b) (x.1 * down v + x.0 * up v + a * y.0) (x.1 * up v + x.0 * down v + a * y.1)
    (product_apart (wrapped_value t (pos a)) v a b (2 ^ t.bits) x.0 x.1 y.0 y.1 x.2 y.2)
    ∙ sym (ap (λ (n : Num). residue (2 ^ 64) n.value) (wrapped_product (number_in t a) (number_in t b)))
