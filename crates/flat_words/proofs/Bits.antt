-- The bitwise operators on the numbers that two words stand for.
use Rattle.std.proofs.Common.{◌≡◌, ℕ, ◌%◌, ◌^◌, sym, ◌∙◌, ap, arith, pos}
use Rattle.std.proofs.Math.Pow.{pow_pos}
use Rattle.std.proofs.lemmas.Int.{ints}
use Rattle.std.proofs.lemmas.Nat.{and_mod, or_mod, xor_mod}
use Rattle.std.specs.Prelude.{bit_and, bit_or, bit_xor}
use Rattle.ak_words.specs.declared.int_type.IntType.{IntType}
use Rattle.ak_words.specs.declared.operation.Op.TheVariants.{And, Or, Xor}
use Rattle.ak_words.specs.Op.{exact_result, rule_of}
use Rattle.ak_words.specs.Wrapped.{residue, bit_pattern, wrapped_value}
use Rattle.ak_words.proofs.Residues.{residue_is}
use Rattle.ak_words.proofs.Wraps.{wrapped_value-residue, residue-wrapped_value}
use Rattle.flat_words.specs.Words.{word_in, applied}

-- the low bits of a natural
low_of : (t : IntType) (n : ℕ) → residue (2 ^ t.bits) (pos n) ≡ n % 2 ^ t.bits
low_of t n = residue_is (2 ^ t.bits) (pos n) 0 n (pow_pos t.bits) (omega (arith, ints))

-- the bits of the number that a word stands for are the word's
bits_of : (t : IntType) (a : ℕ) → bit_pattern t (wrapped_value t (pos a)) ≡ a % 2 ^ t.bits
bits_of t a = residue-wrapped_value t (pos a) ∙ low_of t a

-- and they alone count
by_low : (t : IntType) (n r : ℕ) → n % 2 ^ t.bits ≡ r → residue (2 ^ 64) (wrapped_value t (pos n)) ≡ residue (2 ^ 64) (wrapped_value t (pos r))
by_low t n r e = ap (residue (2 ^ 64)) (sym (wrapped_value-residue t (pos n)) ∙ ap (λ v. wrapped_value t (pos v)) (low_of t n ∙ e))

module _ (t : IntType) (a b : ℕ) where
  left : a % 2 ^ t.bits ≡ bit_pattern t (wrapped_value t (pos a))
  left = sym (bits_of t a)

  right : b % 2 ^ t.bits ≡ bit_pattern t (wrapped_value t (pos b))
  right = sym (bits_of t b)

  pub and_is : word_in t (bit_and a b) ≡ applied And t a b
  unfolding rule_of exact_result
  and_is = by_low t (bit_and a b) (bit_and (bit_pattern t (wrapped_value t (pos a))) (bit_pattern t (wrapped_value t (pos b)))) (and_mod a b t.bits ∙ (λ i. bit_and (left i) (right i)))

  pub or_is : word_in t (bit_or a b) ≡ applied Or t a b
  unfolding rule_of exact_result
  or_is = by_low t (bit_or a b) (bit_or (bit_pattern t (wrapped_value t (pos a))) (bit_pattern t (wrapped_value t (pos b)))) (or_mod a b t.bits ∙ (λ i. bit_or (left i) (right i)))

  pub xor_is : word_in t (bit_xor a b) ≡ applied Xor t a b
  unfolding rule_of exact_result
  xor_is = by_low t (bit_xor a b) (bit_xor (bit_pattern t (wrapped_value t (pos a))) (bit_pattern t (wrapped_value t (pos b)))) (xor_mod a b t.bits ∙ (λ i. bit_xor (left i) (right i)))
