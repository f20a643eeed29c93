-- What is told by hand of types holds.
use Rattle.std.proofs.Common.{◌≡◌, ℕ, true, false, [], ◌∷◌, Some, refl, sym, ap, subst, arith}
use Rattle.ak_words.specs.declared.int_type.IntType.{IntType}
use Rattle.ak_words.specs.declared.operation.Op.TheVariants as ops
use Rattle.ak_words.specs.IntType.{char, int, long}
use Rattle.block_store.specs.declared.values.Access.{Access}
use Rattle.block_store.specs.declared.values.Access.TheVariants as accesses
use Rattle.c_tree.specs.Typed as tree
use Rattle.c_meaning.specs.Control.{Variable, unset, holds, lies}
use Rattle.c_meaning.specs.Values.{on_numbers}
use Rattle.c_meaning.specs.Kinds.{AllHold, HasKind, TakesTwo, IsTypedControl}
use Rattle.c_meaning.specs.Rows.{int_ty, v, op_of, func, ints, in_register, returns, k}
use Rattle.c_meaning.specs.KindRows.{a_null, multiplies, holding, ValuesAreTold, OperatorsAreTold, ThreadsAreTold}

int_or_char : int ≡ char → ⊥
int_or_char e = let bits : ◌≡◌ {A = ℕ} 32 8 = ap (λ (t : IntType). t.bits) e in omega arith

int_or_long : int ≡ long → ⊥
int_or_long e = let bits : ◌≡◌ {A = ℕ} 32 64 = ap (λ (t : IntType). t.bits) e in omega arith

pub values_are_told : ValuesAreTold
values_are_told = record {
  int_is_int = refl;
  int_is_no_char = int_or_char;
  int_is_no_pointer = λ h. h;
  int_is_not_void = λ h. h;
  null_is_a_pointer = tt;
  null_is_no_int = λ h. h;
}

pub operators_are_told : OperatorsAreTold
operators_are_told = record {
  ints = ((refl, refl), refl);
  int_and_long = λ to h. int_or_long h.0.1;
  pointer_first = refl;
  number_first = refl;
  two_pointers = λ to h. h;
  from_a_number = λ to h. h;
}

abbrev main : tree.Func
main = func 0 (ints 2) (tree.assign (v 0) (op_of ops.Mul (v 0) (v 1)) ∷ returns (k 0) ∷ [])

no_left : (from how to : Access) → HasKind from a_null → TakesTwo (on_numbers ops.Mul) from how to → ⊥
no_left (accesses.Number t) how to kind h = kind
no_left accesses.Pointer how to kind h = h

no_right : (from how to : Access) → HasKind how a_null → TakesTwo (on_numbers ops.Mul) from how to → ⊥
no_right from (accesses.Number t) to kind h = kind
no_right (accesses.Number t) accesses.Pointer to kind h = h
no_right accesses.Pointer accesses.Pointer to kind h = h

-- there is no function but main
locals_of : (a b : Variable) → IsTypedControl multiplies (holding a b) → AllHold (ints 2) (a ∷ b ∷ [])
locals_of a b h =
    let found : Some main ≡ Some h.func = h.found in
    let same : main ≡ h.func = cc in
    let P : tree.Func → Type 0 = λ f. AllHold f.locals (a ∷ b ∷ []) in
    subst P (sym same) h.locals

pub threads_are_told : ThreadsAreTold
threads_are_told = record {
  two_ints = record {
    func = main;
    found = refl;
    locals = ((refl, refl), ((refl, refl), tt));
    point = (accesses.Number int, refl, (accesses.Number int, accesses.Number int, refl, ((refl, refl), refl), ((in_register int_ty, refl, (refl, refl)), tt)));
    callers = refl;
  };
  left_pointer = λ h. no_left h.point.2.0 h.point.0 h.point.2.1 h.point.2.2 h.point.2.3;
  right_pointer = λ h. no_right h.point.2.0 h.point.0 h.point.2.1 h.point.1 h.point.2.3;
  one_unset = record { func = main; found = refl; locals = (tt, ((refl, refl), tt)); point = tt; callers = refl };
  held_pointer = λ h. (locals_of unset (holds a_null) h).1.0.1;
  in_a_block = λ h. let e : false ≡ true = (locals_of (lies 0) unset h).0 in absurd cc;
}
