-- What `apply` finds of shifts is `result_of`.
use Rattle.std.proofs.Common.{◌≡◌, ℕ, ◌*◌, ◌%◌, ◌^◌, ◌<◌, ◌≤◌, refl, sym, ◌∙◌, ap, arith, ℤ, pos, negsuc, ◌*ℤ◌, true, false, to_z, of_z}
use Rattle.std.specs.Prelude.{◌&&◌, ◌||◌, int_lt, int_le, unsigned_abs, Ok, Err}
use Rattle.std.specs.Int.{w128, int_shr}
use Rattle.std.proofs.lemmas.Bool.Decides.{nat_tests}
use Rattle.ak_words.specs.declared.int_type.IntType.{IntType}
use Rattle.ak_words.specs.declared.number.Num.{Num}
use Rattle.ak_words.specs.declared.operation.Op.TheVariants.{Shl, Shr}
use Rattle.ak_words.specs.declared.rule.Rule.TheVariants.{C3}
use Rattle.ak_words.specs.Num.{num}
use Rattle.ak_words.specs.Op.{exact_result, rule_of, result_of, is_count, overflows}
use Rattle.ak_words.proofs.Types.{width_bounds}
use Rattle.ak_words.proofs.Values.{left_read, right_read}

-- a count is below 64
pub count_below : (t : IntType) (y : ℤ) → is_count t y ≡ true → unsigned_abs y < 64
count_below t y h = by (width_bounds t.bits t.known_width).1 y h
  where
    by : {m : ℕ} → m ≤ 64 → (y : ℤ) → (int_le (pos 0) y && int_lt y (pos m)) ≡ true → unsigned_abs y < 64
    by b (pos n) h = grind (arith, nat_tests)
    by b (negsuc n) h = cc

-- no count
pub left_result-no_count : (a b : Num) → is_count a.ty b.value ≡ false → Err C3 ≡ result_of Shl a b
unfolding rule_of
left_result-no_count a b h = rw h refl

pub right_result-no_count : (a b : Num) → is_count a.ty b.value ≡ false → Err C3 ≡ result_of Shr a b
unfolding rule_of
right_result-no_count a b h = rw h refl

-- the number shifted, as the code computes it
module _ (a b : Num) (k : ℕ) (within : is_count a.ty b.value ≡ true) (is : k ≡ unsigned_abs b.value) where
  shifted_read : to_z w128 ((of_z w128 a.value * 2 ^ k) % 2 ^ 128) ≡ a.value *ℤ pos (2 ^ unsigned_abs b.value)
  shifted_read = ap (λ j. to_z w128 ((of_z w128 a.value * 2 ^ j) % 2 ^ 128)) is ∙ left_read a (unsigned_abs b.value) (count_below a.ty b.value within)

  pub left_result-sign : (a.ty.signed && int_lt a.value (pos 0) || overflows a.ty (to_z w128 ((of_z w128 a.value * 2 ^ k) % 2 ^ 128))) ≡ true → Err C3 ≡ result_of Shl a b
  unfolding rule_of
  left_result-sign h =
      let lost : (a.ty.signed && int_lt a.value (pos 0) || overflows a.ty (a.value *ℤ pos (2 ^ unsigned_abs b.value))) ≡ true = ap (λ z. a.ty.signed && int_lt a.value (pos 0) || overflows a.ty z) (sym shifted_read) ∙ h in
      rw (within, lost) refl

  pub left_result : (r : Num) → (a.ty.signed && int_lt a.value (pos 0) || overflows a.ty (to_z w128 ((of_z w128 a.value * 2 ^ k) % 2 ^ 128))) ≡ false → r ≡ num a.ty (to_z w128 ((of_z w128 a.value * 2 ^ k) % 2 ^ 128)) → Ok r ≡ result_of Shl a b
  unfolding rule_of exact_result
  left_result r h e =
      let kept : (a.ty.signed && int_lt a.value (pos 0) || overflows a.ty (a.value *ℤ pos (2 ^ unsigned_abs b.value))) ≡ false = ap (λ z. a.ty.signed && int_lt a.value (pos 0) || overflows a.ty z) (sym shifted_read) ∙ h in
      rw (within, kept) (ap Ok (e ∙ ap (num a.ty) shifted_read))

  pub right_result : (r : Num) → r ≡ num a.ty (to_z w128 (of_z w128 (int_shr (to_z w128 (of_z w128 a.value)) k))) → Ok r ≡ result_of Shr a b
  unfolding rule_of exact_result
  right_result r e = rw within (ap Ok (e ∙ ap (num a.ty) (right_read a k ∙ ap (int_shr a.value) is)))
