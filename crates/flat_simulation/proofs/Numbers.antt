-- Numbers of C, and their words: operations on the ones and on the others.
use Rattle.std.proofs.Common.{◌≡◌, ℕ, ◌-◌, ◌*◌, ◌^◌, ◌<◌, ◌≤◌, ℤ, pos, negsuc, ◌+ℤ◌, Bool, true, false, not, ◌&&◌, ◌||◌, ◌==◌, Result, Ok, refl, sym, ap, ◌∙◌, arith, ◌⊎◌, inl, inr}
use Rattle.std.specs.Prelude.{IsTrue, if◌then◌else◌}
use Rattle.std.specs.Ordering.{int_eq}
use Rattle.std.specs.Bool.{one_answer}
use Rattle.std.specs.Result.{result_unwrap_or}
use Rattle.std.proofs.Math.Nat.{mul_assoc, mod-eq_of_lt}
use Rattle.std.proofs.Math.Pow.{pow_pos}
use Rattle.std.proofs.lemmas.Int.{ints}
use Rattle.std.proofs.lemmas.Bool.{eqb-true}
use Rattle.std.proofs.lemmas.Bool.Decides.{Decides-eqb, Decides-int_eq, nat_tests}
use Rattle.ak_words.specs.declared.int_type.IntType.{IntType}
use Rattle.ak_words.specs.declared.number.Num.{Num}
use Rattle.ak_words.specs.declared.operation.Op.{Op}
use Rattle.ak_words.specs.declared.operation.Op.TheVariants as ops
use Rattle.ak_words.specs.declared.rule.Rule.{Rule}
use Rattle.ak_words.specs.declared.rule.Rule.TheVariants.{C3}
use Rattle.ak_words.specs.IntType.{IsInRange}
use Rattle.ak_words.specs.Num.{num}
use Rattle.ak_words.specs.Op.{exact_result, rule_of, rule_if, outcome, result_of, result_type, wrapped_result, is_count}
use Rattle.ak_words.specs.Width.{is_width}
use Rattle.ak_words.specs.Wrapped.{wrapped_value}
use Rattle.ak_words.specs.inner.InRange.{residue-below}
use Rattle.ak_words.proofs.Numbers.{num_is}
use Rattle.ak_words.proofs.Residues.{powers, residue_is, residue_left, residue_same}
use Rattle.ak_words.proofs.Types.{int_type_is, width_bounds, half_twice, range_bounds}
use Rattle.ak_words.proofs.Wraps.{wrapped_value-same, wrapped_value-in_type}
use Rattle.struct_ir.specs.meaning.Blocks.{same_type, is_shift, takes}
use Rattle.flat_words.specs.Words.{word_of, number_word, number_in, word_in, applied}

-- ---- words

-- a word is below 2^64
pub word_below : (z : ℤ) → word_of z < 2 ^ 64
word_below z = residue-below z (2 ^ 64) (pow_pos 64)

-- how often 2^64 lies between a number and its word
pub word_apart : (z : ℤ) → (j : ℕ) × (k : ℕ) × (z +ℤ pos (j * 2 ^ 64) ≡ pos (word_of z) +ℤ pos (k * 2 ^ 64))
word_apart z = residue_left (2 ^ 64) z (pow_pos 64)

-- numbers that differ by a multiple of 2^64 have one word
pub word_same : (a b : ℤ) (j k : ℕ) → a +ℤ pos (j * 2 ^ 64) ≡ b +ℤ pos (k * 2 ^ 64) → word_of a ≡ word_of b
word_same a b j k e = residue_same (2 ^ 64) a b j k (pow_pos 64) e

-- the word of a natural number that has room
pub word_small : (n : ℕ) → n < 2 ^ 64 → word_of (pos n) ≡ n
word_small n h = residue_is (2 ^ 64) (pos n) 0 n (pow_pos 64) (omega (arith, ints)) ∙ mod-eq_of_lt h

-- a type takes from a word what it takes from the number
pub wrapped_word : (t : IntType) (z : ℤ) → wrapped_value t (pos (word_of z)) ≡ wrapped_value t z
wrapped_word t z =
    let x = word_apart z in
    let q = 2 ^ (64 - t.bits) in
    let m = 2 ^ t.bits in
    let whole : q * m ≡ 2 ^ 64 = powers t.bits 64 (width_bounds t.bits t.known_width).1 in
    let left : x.1 * q * m ≡ x.1 * 2 ^ 64 = mul_assoc x.1 q m ∙ ap (λ n. x.1 * n) whole in
    let right : x.0 * q * m ≡ x.0 * 2 ^ 64 = mul_assoc x.0 q m ∙ ap (λ n. x.0 * n) whole in
    wrapped_value-same t (pos (word_of z)) z (x.1 * q) (x.0 * q) (omega (arith, ints, left, right, x.2))

-- ---- numbers that words stand for

both : (a b : Bool) → (a && b) ≡ true → (a ≡ true) × (b ≡ true)
both true b e = (refl, e)
both false b e = absurd cc

-- two types that are tested to be one
pub same_types : (s t : IntType) → same_type s t ≡ true → s ≡ t
same_types s t h = int_type_is s t (signs s.signed t.signed (both (s.bits == t.bits) _ h).1) (eqb-true s.bits t.bits (both (s.bits == t.bits) _ h).0)
  where
    signs : (a b : Bool) → (if a then b else not b) ≡ true → a ≡ b
    signs true true e = refl
    signs true false e = absurd cc
    signs false true e = absurd cc
    signs false false e = refl

-- a number's word stands for it, at its type
pub number_back : (t : IntType) (n : Num) → t ≡ n.ty → number_in t (number_word n) ≡ n
number_back t n e = sym (num_is n t (pos (number_word n)) (sym e) (sym (wrapped_word t n.value ∙ ap (λ s. wrapped_value s n.value) e ∙ wrapped_value-in_type n.ty n.value n.in_range)))

-- a number is converted as its word is
pub converted_word : (t : IntType) (n : Num) → word_in t (number_word n) ≡ number_word (num t n.value)
converted_word t n = ap word_of (wrapped_word t n.value)

-- ---- operations

-- a width is below what a signed type of the width holds
width_room : (n : ℕ) → IsTrue (is_width n) → n ≤ 2 ^ (n - 1)
width_room n h = by (which n h)
  where
    which : (n : ℕ) → IsTrue (is_width n) → (n ≡ 8) ⊎ (n ≡ 16) ⊎ (n ≡ 32) ⊎ (n ≡ 64)
    which n h = grind (arith, nat_tests)

    by : (n ≡ 8) ⊎ (n ≡ 16) ⊎ (n ≡ 32) ⊎ (n ≡ 64) → n ≤ 2 ^ (n - 1)
    by w = elim w [ inl e ↦ rw e (omega arith) | inr v ↦ elim v [ inl e ↦ rw e (omega arith) | inr u ↦ elim u [ inl e ↦ rw e (omega arith) | inr e ↦ rw e (omega arith) ] ] ]

-- a count of places is a number of the type that is shifted
count_fits : (t : IntType) (z : ℤ) → is_count t z ≡ true → IsInRange t z
count_fits t (negsuc n) h = absurd cc
count_fits t (pos n) h = by t.signed refl
  where
    small : n < t.bits
    small = grind (arith, nat_tests)

    by : (s : Bool) → t.signed ≡ s → IsInRange t (pos n)
    by true e = rw e (omega (arith, ints), omega (arith, ints, small, width_room t.bits t.known_width, half_twice t))
    by false e = rw e (omega (arith, ints), omega (arith, ints, small, width_room t.bits t.known_width, half_twice t))

-- a shift that breaks no rule has such a count
shifts : (a b : Bool) (n r : Num) → outcome (rule_if C3 (not a || b)) n ≡ Ok r → a ≡ true
shifts true b n r e = refl
shifts false b n r e = absurd cc

counts : (a : Bool) (n r : Num) → outcome (rule_if C3 (not a)) n ≡ Ok r → a ≡ true
counts true n r e = refl
counts false n r e = absurd cc

shift_counts : (op : Op) (m n r : Num) → is_shift op ≡ true → result_of op m n ≡ Ok r → is_count m.ty n.value ≡ true
unfolding rule_of
shift_counts ops.Shl m n r s e = shifts (is_count m.ty n.value) _ _ r e
shift_counts ops.Shr m n r s e = counts (is_count m.ty n.value) _ r e
shift_counts op m n r s e = absurd cc

-- the result, where it is one
unwrapped : (a b : Num) (result : Result Num Rule) → result ≡ Ok a → result_unwrap_or result b ≡ a
unwrapped a b result e = ap (λ (x : Result Num Rule). result_unwrap_or x b) e

-- of the second number only its value counts
by_value : (op : Op) (m n k : Num) → n.value ≡ k.value → result_of op m n ≡ result_of op m k
by_value op m n k e = ap (λ (z : ℤ). outcome (rule_of op m.ty m.value z) (num (result_type op m.ty) (exact_result op m.ty m.value z))) e

-- the word's number is as good as the number itself
second_word : (op : Op) (t : IntType) (m n r : Num) → t ≡ m.ty → (is_shift op || same_type t n.ty) ≡ true → result_of op m n ≡ Ok r → (number_in t (number_word n)).value ≡ n.value
second_word op t m n r e h is = by (is_shift op) refl h
  where
    by : (s : Bool) → is_shift op ≡ s → (s || same_type t n.ty) ≡ true → (number_in t (number_word n)).value ≡ n.value
    by true q h =
        let count : is_count t n.value ≡ true = ap (λ s. is_count s n.value) e ∙ shift_counts op m n r q is in
        wrapped_word t n.value ∙ wrapped_value-in_type t n.value (count_fits t n.value count)
    by false q h = ap (λ (x : Num). x.value) (number_back t n (same_types t n.ty h))

-- an operation on two words gives the word of the result, where it breaks no rule
pub applied_word : (op : Op) (t : IntType) (m n r : Num) → takes op t m.ty n.ty ≡ true → result_of op m n ≡ Ok r → applied op t (number_word m) (number_word n) ≡ number_word r
applied_word op t m n r h e =
    let types = both (same_type t m.ty) (is_shift op || same_type t n.ty) h in
    let same : t ≡ m.ty = same_types t m.ty types.0 in
    let k = number_in t (number_word n) in
    let value : k.value ≡ n.value = second_word op t m n r same types.1 e in
    ap (λ (x : Num). number_word (wrapped_result op x k)) (number_back t m same) ∙ ap number_word (unwrapped r _ (result_of op m k) (by_value op m k n value ∙ e))

-- ---- tests

-- a number is 0 just where its word is
pub zero_word : (n : Num) → (number_word n == 0) ≡ int_eq n.value (pos 0)
zero_word n =
    let here = Decides-eqb (number_word n) 0 in
    one_answer _ _ (λ t. zero_value (here.0 t), λ e. here.1 (ap word_of e ∙ word_small 0 (omega arith))) (Decides-int_eq n.value (pos 0))
  where
    zero_value : number_word n ≡ 0 → n.value ≡ pos 0
    zero_value e =
        let x = word_apart n.value in
        let range = range_bounds n.ty n.value n.in_range in
        omega (arith, ints, x.2, e, range.0, range.1)
