-- The definitions of types put to the test: what is of a type, and what isn't, told by hand.
use Rattle.std.specs.Prelude.{[], ◌∷◌, pos}
use Rattle.ak_words.specs.declared.operation.Op.TheVariants as ops
use Rattle.ak_words.specs.IntType.{char, int, long}
use Rattle.ak_words.specs.Num.{num}
use Rattle.block_store.specs.declared.values.Access.{Access}
use Rattle.block_store.specs.declared.values.Access.TheVariants as accesses
use Rattle.block_store.specs.declared.values.Ptr.TheVariants.{Null}
use Rattle.block_store.specs.declared.values.Value.{Value}
use Rattle.block_store.specs.declared.values.Value.TheVariants as values
use Rattle.c_tree.specs.Typed as tree
use Rattle.c_meaning.specs.Control.{Control, Variable, unset, holds, lies, leaves, second_of, to_local, gives, begins}
use Rattle.c_meaning.specs.Values.{on_numbers, forward, backward}
use Rattle.c_meaning.specs.Kinds.{HasType, TakesTwo, IsTypedControl}
use Rattle.c_meaning.specs.Rows.{int_ty, int_star, v, op_of, ints, main_only, returns, k}

-- an int
abbrev pub an_int : Value
an_int = values.Num (num int (pos 3))

-- a null pointer
abbrev pub a_null : Value
a_null = values.Pointer Null

-- int a;int b;a=a*b; in main
abbrev pub multiplies : tree.Typed
multiplies = main_only (ints 2) (tree.assign (v 0) (op_of ops.Mul (v 0) (v 1)) ∷ returns (k 0) ∷ [])

-- main, where a*b has this value for a and that for b
abbrev pub multiplying : (a b : Value) → Control
multiplying a b = record {
  function = 0;
  locals = holds an_int ∷ holds an_int ∷ [];
  point = gives b (second_of 0 (on_numbers ops.Mul) a (to_local 0 leaves));
  callers = [];
  touched = [];
}

-- main, where its two locals hold these
abbrev pub holding : (a b : Variable) → Control
holding a b = record { function = 0; locals = a ∷ b ∷ []; point = begins leaves; callers = []; touched = [] }

-- an int is an int, and no char, no pointer and nothing of type void; a null pointer is of each pointer type
pub record ValuesAreTold : Type 0 where
  pub int_is_int : HasType int_ty an_int
  pub int_is_no_char : HasType (tree.integer char) an_int → ⊥
  pub int_is_no_pointer : HasType int_star an_int → ⊥
  pub int_is_not_void : HasType tree.void an_int → ⊥
  pub null_is_a_pointer : HasType int_star a_null
  pub null_is_no_int : HasType int_ty a_null → ⊥

-- + takes two ints, or a pointer and a number, whichever stands first; no two pointers, and no int beside a long
pub record OperatorsAreTold : Type 0 where
  pub ints : TakesTwo (on_numbers ops.Add) (accesses.Number int) (accesses.Number int) (accesses.Number int)
  pub int_and_long : (to : Access) → TakesTwo (on_numbers ops.Add) (accesses.Number int) (accesses.Number long) to → ⊥
  pub pointer_first : TakesTwo (forward 4) accesses.Pointer (accesses.Number int) accesses.Pointer
  pub number_first : TakesTwo (forward 4) (accesses.Number int) accesses.Pointer accesses.Pointer
  pub two_pointers : (to : Access) → TakesTwo (forward 4) accesses.Pointer accesses.Pointer to → ⊥
  pub from_a_number : (to : Access) → TakesTwo (backward 4) (accesses.Number int) accesses.Pointer to → ⊥

-- a thread whose locals and operands are ints, and threads of which one isn't
pub record ThreadsAreTold : Type 0 where
  pub two_ints : IsTypedControl multiplies (multiplying an_int an_int)
  pub left_pointer : IsTypedControl multiplies (multiplying a_null an_int) → ⊥
  pub right_pointer : IsTypedControl multiplies (multiplying an_int a_null) → ⊥
  pub one_unset : IsTypedControl multiplies (holding unset (holds an_int))
  pub held_pointer : IsTypedControl multiplies (holding unset (holds a_null)) → ⊥
  pub in_a_block : IsTypedControl multiplies (holding (lies 0) unset) → ⊥
