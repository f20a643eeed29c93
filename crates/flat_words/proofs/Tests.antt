-- Comparisons of the numbers that two words stand for, by their distances from the least number of the type.
use Rattle.std.proofs.Common.{refl, ◌≡◌, ℕ, ◌^◌, sym, ◌∙◌, ap, arith, ℤ, pos, ◌+ℤ◌}
use Rattle.std.proofs.lemmas.Bool.Decides.{Decides-int_eq, Decides-eqb, nat_tests}
use Rattle.std.proofs.lemmas.Int.{ints}
use Rattle.std.specs.Bool.{one_answer}
use Rattle.std.specs.Ordering.{int_eq}
use Rattle.std.specs.Prelude.{Bool, true, false, not, nat_eq, nat_lt, nat_le, int_lt, int_le}
use Rattle.ak_words.specs.declared.int_type.IntType.{IntType}
use Rattle.ak_words.specs.declared.operation.Op.TheVariants.{Eq, Ne, Lt, Le, Gt, Ge}
use Rattle.ak_words.specs.IntType.{int, least}
use Rattle.ak_words.specs.Op.{truth, exact_result, rule_of}
use Rattle.ak_words.specs.Wrapped.{residue, wrapped_value}
use Rattle.flat_words.specs.Words.{applied}
use mir.Val.{bool_byte}

-- numbers at two distances from one
eq_at : (l : ℤ) (p q : ℕ) → nat_eq p q ≡ int_eq (l +ℤ pos p) (l +ℤ pos q)
eq_at l p q =
    let here = Decides-eqb p q in
    one_answer _ _ (λ t. ap (λ n. l +ℤ pos n) (here.0 t), λ e. here.1 (omega (arith, ints, e))) (Decides-int_eq (l +ℤ pos p) (l +ℤ pos q))

lt_at : (l : ℤ) (p q : ℕ) → nat_lt p q ≡ int_lt (l +ℤ pos p) (l +ℤ pos q)
lt_at l p q = by (nat_lt p q) refl
  where
    by : (b : Bool) → nat_lt p q ≡ b → b ≡ int_lt (l +ℤ pos p) (l +ℤ pos q)
    by true e = grind (arith, ints, nat_tests)
    by false e = grind (arith, ints, nat_tests)

le_at : (l : ℤ) (p q : ℕ) → nat_le p q ≡ int_le (l +ℤ pos p) (l +ℤ pos q)
le_at l p q = by (nat_le p q) refl
  where
    by : (b : Bool) → nat_le p q ≡ b → b ≡ int_le (l +ℤ pos p) (l +ℤ pos q)
    by true e = grind (arith, ints, nat_tests)
    by false e = grind (arith, ints, nat_tests)

-- the word of a test's answer
truth_word : (b : Bool) → bool_byte b ≡ residue (2 ^ 64) (wrapped_value int (truth b))
unfolding residue wrapped_value
truth_word true = refl
truth_word false = refl

-- the numbers that two words stand for, at p and q above the least
module _ (t : IntType) (a b p q : ℕ) (one : wrapped_value t (pos a) ≡ least t +ℤ pos p) (two : wrapped_value t (pos b) ≡ least t +ℤ pos q) where
  pub eq_is : bool_byte (nat_eq p q) ≡ applied Eq t a b
  unfolding rule_of exact_result
  eq_is = truth_word (nat_eq p q) ∙ ap (λ c. residue (2 ^ 64) (wrapped_value int (truth c))) (eq_at (least t) p q ∙ (λ i. int_eq (sym one i) (sym two i)))

  pub ne_is : bool_byte (not (nat_eq p q)) ≡ applied Ne t a b
  unfolding rule_of exact_result
  ne_is = truth_word (not (nat_eq p q)) ∙ ap (λ c. residue (2 ^ 64) (wrapped_value int (truth (not c)))) (eq_at (least t) p q ∙ (λ i. int_eq (sym one i) (sym two i)))

  pub lt_is : bool_byte (nat_lt p q) ≡ applied Lt t a b
  unfolding rule_of exact_result
  lt_is = truth_word (nat_lt p q) ∙ ap (λ c. residue (2 ^ 64) (wrapped_value int (truth c))) (lt_at (least t) p q ∙ (λ i. int_lt (sym one i) (sym two i)))

  pub le_is : bool_byte (nat_le p q) ≡ applied Le t a b
  unfolding rule_of exact_result
  le_is = truth_word (nat_le p q) ∙ ap (λ c. residue (2 ^ 64) (wrapped_value int (truth c))) (le_at (least t) p q ∙ (λ i. int_le (sym one i) (sym two i)))

-- the other way around
pub gt_is_lt : (t : IntType) (a b : ℕ) → applied Lt t a b ≡ applied Gt t b a
unfolding rule_of exact_result
gt_is_lt t a b = refl

pub ge_is_le : (t : IntType) (a b : ℕ) → applied Le t a b ≡ applied Ge t b a
unfolding rule_of exact_result
ge_is_le t a b = refl
