-- Laws of `Num`: it is its type and its value, which fits i128 with room.
use Rattle.std.proofs.Common.{◌≡◌, ◌^◌, sym, ◌∙◌, ap, arith, ℤ, pos, ◌+ℤ◌, ◌≤ℤ◌, ◌<ℤ◌, to_z, of_z}
use Rattle.std.proofs.Math.Dec.{T_prop}
use Rattle.std.proofs.lemmas.Int.{ints, to_z-of_z}
use Rattle.std.specs.Prelude.{true, FitsSigned}
use Rattle.std.specs.Int.{w32, w128}
use Rattle.ak_words.specs.declared.int_type.IntType.{IntType}
use Rattle.ak_words.specs.declared.number.Num.{Num}
use Rattle.ak_words.specs.IntType.{int, least, IsInRange}
use Rattle.ak_words.specs.Wrapped.{residue, wrapped_value}
use Rattle.ak_words.specs.inner.InRange.{wrapped_value-in_range}
use Rattle.ak_words.specs.Num.{num}
use mathlib.Core.HLevel.{is_prop→PathP}
use Rattle.ak_words.proofs.Types.{int_type_is, range_bounds}
use Rattle.ak_words.proofs.Wraps.{wrapped_value-in_type, wrapped_value-residue}

-- a Num is its type and its value
pub num_is : (n : Num) (t : IntType) (z : ℤ) → n.ty ≡ t → n.value ≡ wrapped_value t z → n ≡ num t z
num_is n t z p q = λ i. record {
  ty = p i;
  value = q i;
  in_range = is_prop→PathP (λ j. IsInRange (p j) (q j)) (λ j. hlevel T_prop) n.in_range (wrapped_value-in_range t z) i;
}

pub value_fits : (n : Num) → FitsSigned w128 n.value
value_fits n = let h = range_bounds n.ty n.value n.in_range in let h0 = h.0 in let h1 = h.1 in omega (arith, ints)

-- a Num's value, as the code reads it
pub value_read : (n : Num) → to_z w128 (of_z w128 n.value) ≡ n.value
value_read n = to_z-of_z w128 n.value (value_fits n)

-- the bits of a Num give it back
pub num-residue : (n : Num) → num n.ty (pos (residue (2 ^ n.ty.bits) n.value)) ≡ n
num-residue n = sym (num_is n n.ty (pos (residue (2 ^ n.ty.bits) n.value)) (λ i. n.ty) (sym (wrapped_value-residue n.ty n.value ∙ wrapped_value-in_type n.ty n.value n.in_range)))

-- what the code reads of a number that was converted to int
pub read_int : (r n : Num) (t : IntType) → t.signed ≡ true → t.bits ≡ 32 → r ≡ num t (to_z w128 (of_z w128 n.value)) → to_z w32 (of_z w32 (to_z w128 (of_z w128 r.value))) ≡ wrapped_value int n.value
read_int r n t p q e =
    let is : r.value ≡ wrapped_value int n.value = ap (λ (x : Num). x.value) e ∙ ap (λ (x : IntType). wrapped_value x (to_z w128 (of_z w128 n.value))) (int_type_is t int p q) ∙ ap (wrapped_value int) (value_read n) in
    let h = wrapped_value-in_range int n.value in
    let h0 = h.0 in
    let h1 = h.1 in
    let fits : FitsSigned w32 (wrapped_value int n.value) = omega (arith, ints) in
    ap (λ x. to_z w32 (of_z w32 x)) (value_read r ∙ is) ∙ to_z-of_z w32 (wrapped_value int n.value) fits

-- an i32 as a Num
pub int_number : (n : Num) (v : ℤ) → n.ty.signed ≡ true → n.ty.bits ≡ 32 → n.value ≡ v → FitsSigned w32 v → n ≡ num int v
int_number n v p q e f =
    let low : least int ≤ℤ v = omega (arith, ints) in
    let high : v <ℤ (least int +ℤ pos (2 ^ 32)) = omega (arith, ints) in
    num_is n int v (int_type_is n.ty int p q) (e ∙ sym (wrapped_value-in_type int v (low, high)))
