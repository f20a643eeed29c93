-- The rules of C11 6.3 and 6.5 on typed operands: the typed node, or the one fault at its place.
use Rattle.std.specs.Prelude.{ℕ, Bool, true, false, ◌||◌, nat_eq, pos, negsuc, if◌then◌else◌, Option, Some, None}
use Rattle.std.specs.Ordering.{int_eq}
use Rattle.ak_words.specs.declared.int_type.IntType.{IntType}
use Rattle.ak_words.specs.declared.operation.Op.{Op}
use Rattle.ak_words.specs.declared.operation.Op.TheVariants as ops
use Rattle.ak_words.specs.IntType.{int, long, unsigned_long, promoted_type, common_type}
use Rattle.ak_words.specs.Op.{result_type}
use Rattle.ak_words.specs.Wrapped.{wrapped_value}
use Rattle.c_lex.specs.declared.refusal.Kind.TheVariants.{UnknownName, TypeMismatch, NotAnLvalue, BadSize, OutsideSubset}
use Rattle.c_tree.specs.declared.syntax.Name.{Name}
use Rattle.c_tree.specs.Typed.{Ty, void, integer, atomic, pointer, array, structure, Expr, at, ExprNode, num, null, literal, global, local, deref, member, address_of, decay, convert, not_, binary, choose, pointer_add, pointer_sub, pointer_diff, pointer_compare, pointer_test, place_of, type_of, node_of}
use Rattle.c_tree.specs.TypedLayout.{size_in}
use Rattle.c_typing.specs.Faults.{Judged, typed, refuse, unless, ◌>>=◌}
use Rattle.c_typing.specs.Types.{same_int, same_type, is_void, value_type, has_size}
use Rattle.c_typing.specs.Scope.{Context, member_of}

-- ---- conversions (6.3)

-- the value of an operand: an array becomes a pointer to its first element, and an atomic number is read as the number (6.3.2.1 p2, p3)
abbrev pub value_by : Ty → Expr → Expr
value_by (array t n) e = at (place_of e) (pointer t) (decay e)
value_by (atomic t) e = at (place_of e) (integer t) (convert e)
value_by t e = e

-- the value of a typed operand
abbrev pub value_of : Expr → Expr
value_of e = value_by (type_of e) e

-- a number of type s, converted to type t where that is another (6.3.1.3)
abbrev pub converted : IntType → IntType → Expr → Expr
converted s t e = if same_int s t then e else at (place_of e) (integer t) (convert e)

-- the constant 0: a token, and no larger expression; NULL is a pointer to void besides (6.3.2.3 p3)
abbrev pub is_zero : ExprNode → Bool
is_zero (num t value) = int_eq value (pos 0)
is_zero node = false

-- the expression, if it fits
abbrev pub fitted_if : Expr → Bool → Option Expr
fitted_if e fine = if fine then Some e else None

-- a pointer to s where one to t is wanted: the same type, or void on one of the two sides
abbrev pub pointer_fitted : (s t : Ty) → Expr → Option Expr
pointer_fitted s t e =
    if same_type s t then Some e
    else fitted_if (at (place_of e) (pointer t) (convert e)) (is_void s || is_void t)

-- an expression of type s where type t is wanted, as by assignment (6.5.16.1), converted: a number for a number, also for an atomic
-- one, a pointer to the same type,
-- any pointer for or from a `void *`, the constant 0 for a pointer, and the same struct; or none where it doesn't fit
abbrev pub fitted_by : (s t : Ty) → Expr → Option Expr
fitted_by (integer s) (integer t) e = Some (converted s t e)
fitted_by (integer s) (atomic t) e = Some (converted s t e)
fitted_by (integer s) (pointer t) e = fitted_if (at (place_of e) (pointer t) null) (is_zero (node_of e))
fitted_by (pointer s) (pointer t) e = pointer_fitted s t e
fitted_by (structure m) (structure n) e = fitted_if e (nat_eq m n)
fitted_by s t e = None

-- an expression where this type is wanted, by the type that it has
abbrev pub fitted : Ty → Expr → Option Expr
fitted t e = fitted_by (type_of e) t e

-- the same, or TypeMismatch at a place
abbrev pub or_mismatch : {A : Type 0} → ℕ → Option A → Judged A
or_mismatch place (Some x) = typed x
or_mismatch place None = refuse place TypeMismatch

-- a condition: a number, or whether a pointer isn't null, which is asked at the pointer's own place (6.8.4.1, 6.5.13 to 6.5.15)
abbrev pub tested_by : (place : ℕ) → Ty → Expr → Judged Expr
tested_by place (integer t) e = typed e
tested_by place (pointer t) e = typed (at (place_of e) (integer int) (pointer_test e))
tested_by place t e = refuse place TypeMismatch

-- an expression as a condition, by the type that it has
abbrev pub tested : (place : ℕ) → Expr → Judged Expr
tested place e = tested_by place (type_of e) e

-- ---- names of objects and what they lead to

-- what designates an object (6.3.2.1 p1)
abbrev pub is_lvalue : ExprNode → Bool
is_lvalue (literal n) = true
is_lvalue (global n) = true
is_lvalue (local n) = true
is_lvalue (deref p) = true
is_lvalue (member e m) = true
is_lvalue node = false

-- *p (6.5.3.2): of a pointer to void too, which gives nothing (this project's profile)
abbrev pub target_by : ℕ → Ty → Expr → Judged Expr
target_by place (pointer t) p = typed (at place t (deref p))
target_by place t p = refuse place TypeMismatch

-- the object that an expression points to, by the type that it has
abbrev pub target : ℕ → Expr → Judged Expr
target place p = target_by place (type_of p) p

-- &e (6.5.3.2)
abbrev pub address : ℕ → Expr → Judged Expr
address place e = if is_lvalue (node_of e) then typed (at place (pointer (type_of e)) (address_of e)) else refuse place NotAnLvalue

-- e.m (6.5.2.3): of a struct that has the member
abbrev pub member_found : ℕ → Expr → Option (ℕ × Ty) → Judged Expr
member_found place e None = refuse place UnknownName
member_found place e (Some (m, t)) = typed (at place t (member e m))

-- e.m where e has this type: a mismatch where that is no struct
abbrev pub selected_by : Context → ℕ → Ty → Expr → Name → Judged Expr
selected_by c place (structure number) e m = member_found place e (member_of c number m)
selected_by c place t e m = refuse place TypeMismatch

-- e.m, by the type of e
abbrev pub selected : Context → ℕ → Expr → Name → Judged Expr
selected c place e m = selected_by c place (type_of e) e m

-- p->m is (*p).m
abbrev pub pointed : Context → ℕ → Expr → Name → Judged Expr
pointed c place p m = target place p >>= λ e. selected c place e m

-- ---- unary operators (6.5.3.3)

-- -e is 0 - e, promoted
abbrev pub minus_by : ℕ → Ty → Expr → Judged Expr
minus_by place (integer t) e =
    typed (at place (integer (promoted_type t)) (binary ops.Sub (at place (integer (promoted_type t)) (num (promoted_type t) (pos 0))) (converted t (promoted_type t) e)))
minus_by place t e = refuse place TypeMismatch

-- +e is e, promoted, and no object
abbrev pub plus_by : ℕ → Ty → Expr → Judged Expr
plus_by place (integer t) e = typed (at place (integer (promoted_type t)) (convert e))
plus_by place t e = refuse place TypeMismatch

-- !e is whether a number is 0 or a pointer is null; the pointer is tested at the `!`
abbrev pub not_by : ℕ → Ty → Expr → Judged Expr
not_by place (integer t) e = typed (at place (integer int) (not_ e))
not_by place (pointer t) e = typed (at place (integer int) (not_ (at place (integer int) (pointer_test e))))
not_by place t e = refuse place TypeMismatch

-- ~e is e exclusive or all ones, promoted
abbrev pub complement_by : ℕ → Ty → Expr → Judged Expr
complement_by place (integer t) e =
    typed (at place (integer (promoted_type t)) (binary ops.Xor (converted t (promoted_type t) e) (at place (integer (promoted_type t)) (num (promoted_type t) (wrapped_value (promoted_type t) (negsuc 0))))))
complement_by place t e = refuse place TypeMismatch

-- ---- binary operators (6.5.5 to 6.5.12)

-- an operation on numbers is done in their common type (6.3.1.8)
abbrev pub arithmetic : ℕ → Op → IntType → Expr → IntType → Expr → Expr
arithmetic place op s a t b = at place (integer (result_type op (common_type s t)))
    (binary op (converted s (common_type s t) a) (converted t (common_type s t) b))

-- a shift: each operand is promoted by itself, and the left one has the result's type (6.5.7 p3)
abbrev pub shifted : ℕ → Op → IntType → Expr → IntType → Expr → Expr
shifted place op s a t b = at place (integer (promoted_type s)) (binary op (converted s (promoted_type s) a) (converted t (promoted_type t) b))

-- a pointer to elements that have a size, and so can be counted (6.5.6 p2)
abbrev pub sized : Context → ℕ → Ty → Judged (Unit {0})
sized c place target = unless place BadSize (has_size c.structs target)

-- what two operands are
pub data Operands : Type 0 where
  numbers : (s t : IntType) → Operands
  pointer_number : (target : Ty) (s : IntType) → Operands
  number_pointer : (s : IntType) (target : Ty) → Operands
  pointers : (s t : Ty) → Operands
  others : Operands

-- what operands of these two types are
abbrev pub operands : Ty → Ty → Operands
operands (integer s) (integer t) = numbers s t
operands (integer s) (pointer t) = number_pointer s t
operands (pointer t) (integer s) = pointer_number t s
operands (pointer s) (pointer t) = pointers s t
operands s t = others

-- a pointer moved up by a number of elements, whichever of the two stands first (C11 6.5.6 p8)
abbrev pub moved_up : Context → ℕ → Ty → Expr → Expr → Judged Expr
moved_up c place target a b = sized c place target >>= λ u. typed (at place (pointer target) (pointer_add a b))

-- a pointer moved down by a number of elements (C11 6.5.6 p8)
abbrev pub moved_down : Context → ℕ → Ty → Expr → Expr → Judged Expr
moved_down c place target p n = sized c place target >>= λ u. typed (at place (pointer target) (pointer_sub p n))

-- a + b
abbrev pub sum : Context → ℕ → Operands → Expr → Expr → Judged Expr
sum c place (numbers s t) a b = typed (arithmetic place ops.Add s a t b)
sum c place (pointer_number target s) a b = moved_up c place target a b
sum c place (number_pointer s target) a b = moved_up c place target a b
sum c place (pointers s t) a b = refuse place TypeMismatch
sum c place others a b = refuse place TypeMismatch

-- the number of elements between two pointers of one type
abbrev pub distance : Context → ℕ → Ty → Ty → Expr → Expr → Judged Expr
distance c place s t p q =
    unless place TypeMismatch (same_type s t) >>= λ u. sized c place s >>= λ v. typed (at place (integer long) (pointer_diff p q))

-- a - b
abbrev pub difference : Context → ℕ → Operands → Expr → Expr → Judged Expr
difference c place (numbers s t) a b = typed (arithmetic place ops.Sub s a t b)
difference c place (pointer_number target s) a b = moved_down c place target a b
difference c place (pointers s t) a b = distance c place s t a b
difference c place (number_pointer s target) a b = refuse place TypeMismatch
difference c place others a b = refuse place TypeMismatch

-- two pointers compared, if they fit
abbrev pub compared : ℕ → Op → Bool → Expr → Expr → Judged Expr
compared place op fits p q = if fits then typed (at place (integer int) (pointer_compare op p q)) else refuse place TypeMismatch

-- the null pointer of a type, for the constant 0
abbrev pub null_for : Ty → Expr → Expr
null_for target e = at (place_of e) (pointer target) null

-- a == b and a != b: numbers, pointers to one type, a pointer and a `void *`, a pointer and the constant 0 (6.5.9)
abbrev pub equality : ℕ → Op → Operands → Expr → Expr → Judged Expr
equality place op (numbers s t) a b = typed (arithmetic place op s a t b)
equality place op (pointers s t) a b = compared place op (same_type s t || is_void s || is_void t) a b
equality place op (pointer_number target s) a b = compared place op (is_zero (node_of b)) a (null_for target b)
equality place op (number_pointer s target) a b = compared place op (is_zero (node_of a)) (null_for target a) b
equality place op others a b = refuse place TypeMismatch

-- a < b and its kin: numbers, and pointers to one type (6.5.8)
abbrev pub order : ℕ → Op → Operands → Expr → Expr → Judged Expr
order place op (numbers s t) a b = typed (arithmetic place op s a t b)
order place op (pointers s t) a b = compared place op (same_type s t) a b
order place op (pointer_number target s) a b = refuse place TypeMismatch
order place op (number_pointer s target) a b = refuse place TypeMismatch
order place op others a b = refuse place TypeMismatch

-- a shift of numbers
abbrev pub shift : ℕ → Op → Operands → Expr → Expr → Judged Expr
shift place op (numbers s t) a b = typed (shifted place op s a t b)
shift place op what a b = refuse place TypeMismatch

-- the other operators, which are for numbers alone
abbrev pub on_numbers : ℕ → Op → Operands → Expr → Expr → Judged Expr
on_numbers place op (numbers s t) a b = typed (arithmetic place op s a t b)
on_numbers place op what a b = refuse place TypeMismatch

-- a binary operator on two values, by what they are
unfoldable pub operated_by : Context → ℕ → Op → Operands → Expr → Expr → Judged Expr
operated_by c place ops.Add what a b = sum c place what a b
operated_by c place ops.Sub what a b = difference c place what a b
operated_by c place ops.Eq what a b = equality place ops.Eq what a b
operated_by c place ops.Ne what a b = equality place ops.Ne what a b
operated_by c place ops.Lt what a b = order place ops.Lt what a b
operated_by c place ops.Le what a b = order place ops.Le what a b
operated_by c place ops.Gt what a b = order place ops.Gt what a b
operated_by c place ops.Ge what a b = order place ops.Ge what a b
operated_by c place ops.Shl what a b = shift place ops.Shl what a b
operated_by c place ops.Shr what a b = shift place ops.Shr what a b
operated_by c place op what a b = on_numbers place op what a b

-- a binary operator on two values
abbrev pub operated : Context → ℕ → Op → Expr → Expr → Judged Expr
operated c place op a b = operated_by c place op (operands (type_of a) (type_of b)) a b

-- a[b] is *(a + b) (6.5.2.1)
abbrev pub element : Context → ℕ → Expr → Expr → Judged Expr
element c place a b = sum c place (operands (type_of a) (type_of b)) a b >>= target place

-- condition ? b : d, where both are numbers, in their common type (6.5.15)
abbrev pub chosen_by : ℕ → Operands → Expr → Expr → Expr → Judged Expr
chosen_by place (numbers s t) e a b =
    typed (at place (integer (common_type s t)) (choose e (converted s (common_type s t) a) (converted t (common_type s t) b)))
chosen_by place what e a b = refuse place TypeMismatch

-- condition ? a : b, by the types of a and b
abbrev pub chosen : ℕ → Expr → Expr → Expr → Judged Expr
chosen place e a b = chosen_by place (operands (type_of a) (type_of b)) e a b

-- ---- casts and sizes

-- a number where a pointer is wanted: the constant 0 is one; of no other number is there a cast in the language
abbrev pub cast_number_by : ℕ → Ty → Bool → Expr → Judged Expr
cast_number_by place t zero_constant e = if zero_constant then typed (null_for t e) else refuse place (OutsideSubset 11)

-- (t)e where e has type s (6.5.4): anything to void; number to number, pointer to pointer, the constant 0 to a pointer; between other
-- numbers and pointers there are no casts in the language
abbrev pub cast_by : ℕ → (s t : Ty) → Expr → Judged Expr
cast_by place s void e = typed (at place void (convert e))
cast_by place (integer s) (integer t) e = typed (at place (integer t) (convert e))
cast_by place (pointer s) (pointer t) e = typed (at place (pointer t) (convert e))
cast_by place (integer s) (pointer t) e = cast_number_by place t (is_zero (node_of e)) e
cast_by place (pointer s) (integer t) e = refuse place (OutsideSubset 11)
cast_by place s t e = refuse place TypeMismatch

-- (t)e, by the type of e; to an atomic number it is a conversion to the number
abbrev pub cast : ℕ → Ty → Expr → Judged Expr
cast place t e = cast_by place (type_of e) (value_type t) e

-- sizeof, of a type that has a size (6.5.3.4)
abbrev pub size_number : Context → ℕ → Ty → Judged Expr
size_number c place t =
    unless place BadSize (has_size c.structs t) >>= λ u. typed (at place (integer unsigned_long) (num unsigned_long (pos (size_in c.structs t))))
