-- What operators give of values (C11 6.3, 6.5). In a well typed program each gets values of the kinds that it takes; of others the
-- definitions say C16.
use Rattle.std.specs.Prelude.{ℕ, Bool, true, false, not, ℤ, pos, neg_ℤ, ◌-ℤ◌, List, Option, Some, None, Result, Ok, Err, slice_get}
use Rattle.std.specs.Ordering.{int_eq}
use Rattle.ak_words.specs.declared.int_type.IntType.{IntType}
use Rattle.ak_words.specs.declared.number.Num.{Num}
use Rattle.ak_words.specs.declared.operation.Op.{Op}
use Rattle.ak_words.specs.declared.operation.Op.TheVariants as ops
use Rattle.ak_words.specs.declared.rule.Rule.{Rule}
use Rattle.ak_words.specs.declared.rule.Rule.TheVariants.{C16}
use Rattle.ak_words.specs.IntType.{int, long, promoted_type, common_type}
use Rattle.ak_words.specs.Num.{num}
use Rattle.ak_words.specs.Op.{truth, result_of}
use Rattle.block_store.specs.declared.values.Access.{Access}
use Rattle.block_store.specs.declared.values.Access.TheVariants as accesses
use Rattle.block_store.specs.declared.values.Ptr.{Ptr}
use Rattle.block_store.specs.declared.values.Value.{Value}
use Rattle.block_store.specs.declared.values.Value.TheVariants as values
use Rattle.block_store.specs.Blocks.{Blocks}
use Rattle.block_store.specs.Pointers.{moved, indexed, tested, compared, difference}
use Rattle.c_tree.specs.Typed as tree
use Rattle.c_tree.specs.TypedLayout.{size_in}

-- ---- types

-- how an object of this type is accessed: a number as such, also an atomic one, and a pointer
abbrev pub access_of_type : tree.Ty → Access
access_of_type (tree.integer t) = accesses.Number t
access_of_type (tree.atomic t) = accesses.Number t
access_of_type t = accesses.Pointer

-- a number, also an atomic one, or a pointer: its objects have values
abbrev pub is_scalar : tree.Ty → Bool
is_scalar (tree.integer t) = true
is_scalar (tree.atomic t) = true
is_scalar (tree.pointer t) = true
is_scalar t = false

-- the type of an atomic number
abbrev pub is_atomic : tree.Ty → Bool
is_atomic (tree.atomic t) = true
is_atomic t = false

-- the size of what a pointer of this type points to
abbrev pub element_size : List tree.Layout → tree.Ty → ℕ
element_size structs (tree.pointer t) = size_in structs t
element_size structs t = 0

-- the offset that was found, or 0
abbrev pub offset_or_0 : Option ℕ → ℕ
offset_or_0 (Some offset) = offset
offset_or_0 None = 0

-- where a member begins in a struct of this layout, in bytes from the struct's start
abbrev pub offset_in : Option tree.Layout → (member : ℕ) → ℕ
offset_in None member = 0
offset_in (Some l) member = offset_or_0 (slice_get l.offsets member)

-- where a member begins in an object of this type, which is that of a struct (C11 6.7.2.1)
abbrev pub member_offset : List tree.Layout → tree.Ty → (member : ℕ) → ℕ
member_offset structs (tree.structure number) member = offset_in (slice_get structs number) member
member_offset structs t member = 0

-- ---- values

-- a truth value as an int, 0 or 1 (C11 6.5.3.3 p5, 6.5.8 p6, 6.5.9 p3)
abbrev pub int_of : Bool → Value
int_of b = values.Num (num int (truth b))

-- the result of an operator on numbers, as a value
abbrev pub value_of : Result Num Rule → Result Value Rule
value_of (Ok n) = Ok (values.Num n)
value_of (Err rule) = Err rule

-- the result of a pointer's move, as a value
abbrev pub pointer_of : Result Ptr Rule → Result Value Rule
pointer_of (Ok p) = Ok (values.Pointer p)
pointer_of (Err rule) = Err rule

-- the answer of a test or a comparison, as an int
abbrev pub int_result : Result Bool Rule → Result Value Rule
int_result (Ok b) = Ok (int_of b)
int_result (Err rule) = Err rule

-- the difference of two pointers, as a long (C11 6.5.6 p9; its type is this project's profile)
abbrev pub long_result : Result ℤ Rule → Result Value Rule
long_result (Ok z) = Ok (values.Num (num long z))
long_result (Err rule) = Err rule

-- whether a value counts as true: a number other than 0, a pointer other than null; C9 of a dead block (C11 6.5.3.3 p5, 6.8.4.1 p2)
abbrev pub truth_of : Blocks → Value → Result Bool Rule
truth_of blocks (values.Num n) = Ok (not (int_eq n.value (pos 0)))
truth_of blocks (values.Pointer p) = tested blocks p

-- the opposite answer of a test, as ! gives it (C11 6.5.3.3 p5)
abbrev pub opposite : Result Bool Rule → Result Bool Rule
opposite (Ok b) = Ok (not b)
opposite (Err rule) = Err rule

-- a conversion (C11 6.3.1.3, for signed types this project's profile); a pointer keeps its value
abbrev pub converted : tree.Ty → Value → Value
converted (tree.integer t) (values.Num n) = values.Num (num t n.value)
converted t v = v

-- 0 minus a number, modulo its type's range: to add this is to take the number away, also where it is the least one (C11 7.17.7.5)
abbrev pub opposite_of : Num → Num
opposite_of n = num n.ty (pos 0 -ℤ n.value)

-- ---- operations

-- on one value: a conversion; whether it's 0 or null; whether it isn't; the pointer to a member at this offset
pub data Unary : Type 0 where
  converts : (ty : tree.Ty) → Unary
  negates : Unary
  tests : Unary
  selects : (offset : ℕ) → Unary

-- on two values: an operator on numbers; a pointer plus a number of elements of a size, whichever stands first, or minus one; the
-- elements between two pointers; a comparison of two pointers
pub data Binary : Type 0 where
  on_numbers : (op : Op) → Binary
  forward : (size : ℕ) → Binary
  backward : (size : ℕ) → Binary
  distance : (size : ℕ) → Binary
  on_pointers : (op : Op) → Binary

-- the pointer to a member, at this offset in the struct that a pointer points to (C11 6.5.2.3)
abbrev pub selected : Blocks → (offset : ℕ) → Value → Result Value Rule
selected blocks offset (values.Pointer p) = pointer_of (moved blocks p (pos offset))
selected blocks offset (values.Num n) = Err C16

-- what an operation on one value gives, or the rule that it breaks
abbrev pub of_one : Blocks → Unary → Value → Result Value Rule
of_one blocks (converts ty) v = Ok (converted ty v)
of_one blocks negates v = int_result (opposite (truth_of blocks v))
of_one blocks tests v = int_result (truth_of blocks v)
of_one blocks (selects offset) v = selected blocks offset v

-- what an operation on two values gives, or the rule that it breaks
abbrev pub of_two : Blocks → Binary → Value → Value → Result Value Rule
of_two blocks (on_numbers op) (values.Num a) (values.Num b) = value_of (result_of op a b)
of_two blocks (forward size) (values.Pointer p) (values.Num n) = pointer_of (indexed blocks p n.value size)
of_two blocks (forward size) (values.Num n) (values.Pointer p) = pointer_of (indexed blocks p n.value size)
of_two blocks (backward size) (values.Pointer p) (values.Num n) = pointer_of (indexed blocks p (neg_ℤ n.value) size)
of_two blocks (distance size) (values.Pointer p) (values.Pointer q) = long_result (difference blocks p q size)
of_two blocks (on_pointers op) (values.Pointer p) (values.Pointer q) = int_result (compared blocks op p q)
of_two blocks op a b = Err C16

-- ---- compound assignment (C11 6.5.16.2)

-- the types in which a op b is computed: for a shift each operand's promoted type, and else their common type
abbrev pub operand_types : Op → (a b : IntType) → IntType × IntType
operand_types ops.Shl a b = (promoted_type a, promoted_type b)
operand_types ops.Shr a b = (promoted_type a, promoted_type b)
operand_types op a b = (common_type a b, common_type a b)

-- a op b, once each operand is converted to its type of these two
abbrev pub computed : Op → IntType × IntType → Num → Num → Result Value Rule
computed op types a b = value_of (result_of op (num types.0 a.value) (num types.1 b.value))

-- a result, converted to the type of the left side (C11 6.5.16.1 p2)
abbrev pub converted_result : tree.Ty → Result Value Rule → Result Value Rule
converted_result ty (Ok v) = Ok (converted ty v)
converted_result ty (Err rule) = Err rule

-- what a op= b stores in an object of this type, where a and b are these values
abbrev pub updated : List tree.Layout → Blocks → tree.Ty → Op → (a b : Value) → Result Value Rule
updated structs blocks ty op (values.Num a) (values.Num b) = converted_result ty (computed op (operand_types op a.ty b.ty) a b)
updated structs blocks ty ops.Add (values.Pointer p) (values.Num n) = of_two blocks (forward (element_size structs ty)) (values.Pointer p) (values.Num n)
updated structs blocks ty ops.Sub (values.Pointer p) (values.Num n) = of_two blocks (backward (element_size structs ty)) (values.Pointer p) (values.Num n)
updated structs blocks ty op a b = Err C16

-- the operator -
abbrev pub is_minus : Op → Bool
is_minus ops.Sub = true
is_minus op = false
