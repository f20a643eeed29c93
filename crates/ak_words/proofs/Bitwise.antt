-- What `apply` finds of the bitwise operators is `result_of`.
use Rattle.std.proofs.Common.{◌≡◌, ℕ, ◌∙◌, ap, pos, to_z, of_z}
use Rattle.std.specs.Prelude.{Ok, bit_and, bit_or, bit_xor}
use Rattle.std.specs.Int.{w128}
use Rattle.ak_words.specs.declared.number.Num.{Num}
use Rattle.ak_words.specs.declared.operation.Op.TheVariants.{And, Or, Xor}
use Rattle.ak_words.specs.Wrapped.{bit_pattern}
use Rattle.ak_words.specs.Num.{num}
use Rattle.ak_words.specs.Op.{exact_result, rule_of, result_of}
use Rattle.ak_words.proofs.Numbers.{value_read}

-- a bitwise operator's result, from the operands' bits
module _ (a b r : Num) (x y : ℕ) (left : x ≡ bit_pattern a.ty a.value) (right : y ≡ bit_pattern a.ty (to_z w128 (of_z w128 b.value))) where
  right_read : y ≡ bit_pattern a.ty b.value
  right_read = right ∙ ap (bit_pattern a.ty) (value_read b)

  pub and_result : r ≡ num a.ty (pos (bit_and x y)) → Ok r ≡ result_of And a b
  unfolding rule_of exact_result
  and_result e = ap Ok (e ∙ (λ i. num a.ty (pos (bit_and (left i) (right_read i)))))

  pub or_result : r ≡ num a.ty (pos (bit_or x y)) → Ok r ≡ result_of Or a b
  unfolding rule_of exact_result
  or_result e = ap Ok (e ∙ (λ i. num a.ty (pos (bit_or (left i) (right_read i)))))

  pub xor_result : r ≡ num a.ty (pos (bit_xor x y)) → Ok r ≡ result_of Xor a b
  unfolding rule_of exact_result
  xor_result e = ap Ok (e ∙ (λ i. num a.ty (pos (bit_xor (left i) (right_read i)))))
