-- What `apply` finds of comparisons is `result_of`.
use Rattle.std.proofs.Common.{◌≡◌, sym, ◌∙◌, ap, to_z, of_z}
use Rattle.std.specs.Prelude.{not, nat_eq, int_lt, int_le, Ok}
use Rattle.std.specs.Bool.{one_answer}
use Rattle.std.specs.Int.{w128}
use Rattle.std.specs.Ordering.{int_eq}
use Rattle.std.proofs.lemmas.Bool.Decides.{Decides-int_eq, Decides-eqb}
use Rattle.ak_words.specs.declared.number.Num.{Num}
use Rattle.ak_words.specs.declared.operation.Op.TheVariants.{Eq, Ne, Lt, Le, Gt, Ge}
use Rattle.ak_words.specs.IntType.{int}
use Rattle.ak_words.specs.Num.{num}
use Rattle.ak_words.specs.Op.{truth, exact_result, rule_of, result_of}
use Rattle.ak_words.proofs.Numbers.{value_read}

-- numbers are equal where their 128 bits are
equal_read : (a b : Num) → nat_eq (of_z w128 a.value) (of_z w128 b.value) ≡ int_eq a.value b.value
equal_read a b =
    let bits = Decides-eqb (of_z w128 a.value) (of_z w128 b.value) in
    one_answer _ _ (λ t. sym (value_read a) ∙ ap (to_z w128) (bits.0 t) ∙ value_read b, λ e. bits.1 (ap (of_z w128) e)) (Decides-int_eq a.value b.value)

-- a comparison's result, from the code's test
module _ (a b r : Num) where
  pub eq_result : r ≡ num int (truth (nat_eq (of_z w128 a.value) (of_z w128 b.value))) → Ok r ≡ result_of Eq a b
  unfolding rule_of exact_result
  eq_result e = ap Ok (e ∙ ap (λ t. num int (truth t)) (equal_read a b))

  pub ne_result : r ≡ num int (truth (not (nat_eq (of_z w128 a.value) (of_z w128 b.value)))) → Ok r ≡ result_of Ne a b
  unfolding rule_of exact_result
  ne_result e = ap Ok (e ∙ ap (λ t. num int (truth (not t))) (equal_read a b))

  pub lt_result : r ≡ num int (truth (int_lt (to_z w128 (of_z w128 a.value)) (to_z w128 (of_z w128 b.value)))) → Ok r ≡ result_of Lt a b
  unfolding rule_of exact_result
  lt_result e = ap Ok (e ∙ (λ i. num int (truth (int_lt (value_read a i) (value_read b i)))))

  pub le_result : r ≡ num int (truth (int_le (to_z w128 (of_z w128 a.value)) (to_z w128 (of_z w128 b.value)))) → Ok r ≡ result_of Le a b
  unfolding rule_of exact_result
  le_result e = ap Ok (e ∙ (λ i. num int (truth (int_le (value_read a i) (value_read b i)))))

  pub gt_result : r ≡ num int (truth (int_lt (to_z w128 (of_z w128 b.value)) (to_z w128 (of_z w128 a.value)))) → Ok r ≡ result_of Gt a b
  unfolding rule_of exact_result
  gt_result e = ap Ok (e ∙ (λ i. num int (truth (int_lt (value_read b i) (value_read a i)))))

  pub ge_result : r ≡ num int (truth (int_le (to_z w128 (of_z w128 b.value)) (to_z w128 (of_z w128 a.value)))) → Ok r ≡ result_of Ge a b
  unfolding rule_of exact_result
  ge_result e = ap Ok (e ∙ (λ i. num int (truth (int_le (value_read b i) (value_read a i)))))
