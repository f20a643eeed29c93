-- Integer constant expressions (C11 6.6 p6; this project's profile has fewer forms).
use Rattle.std.specs.Prelude.{Bool, true, false, ◌&&◌, if◌then◌else◌, pos, Option, Some, None, Result, Ok, Err}
use Rattle.std.specs.Ordering.{int_eq}
use Rattle.ak_words.specs.declared.number.Num.{Num}
use Rattle.ak_words.specs.declared.operation.Op.{Op}
use Rattle.ak_words.specs.declared.rule.Rule.{Rule}
use Rattle.ak_words.specs.IntType.{int}
use Rattle.ak_words.specs.Num.{num as number}
use Rattle.ak_words.specs.Op.{truth, result_of}
use Rattle.c_tree.specs.declared.syntax.PrefixOp.{PrefixOp}
use Rattle.c_tree.specs.declared.syntax.PrefixOp.TheVariants as prefixes
use Rattle.c_tree.specs.declared.syntax.BinaryOp.{BinaryOp}
use Rattle.c_tree.specs.declared.syntax.BinaryOp.TheVariants as binaries
use Rattle.c_tree.specs.Syntax as source
use Rattle.c_tree.specs.Typed.{Ty, integer, Expr, at, ExprNode, num, convert, not_, binary}
use Rattle.c_typing.specs.Scope.{Context, Binding, enumerator_name, library_name, constant, meaning_of}

-- a name that stands for a constant: an enumerator, or one of the library
abbrev pub is_constant_name : Option Binding → Bool
is_constant_name (Some (enumerator_name value)) = true
is_constant_name (Some (library_name (constant value))) = true
is_constant_name m = false

-- the operators - + ~ and !, which may stand in an integer constant expression
abbrev pub is_constant_prefix : PrefixOp → Bool
is_constant_prefix prefixes.Minus = true
is_constant_prefix prefixes.Plus = true
is_constant_prefix prefixes.Not = true
is_constant_prefix prefixes.Complement = true
is_constant_prefix prefixes.Deref = false
is_constant_prefix prefixes.AddressOf = false

-- the operators on two numbers, which may stand in an integer constant expression; && and || may not (this project's profile)
abbrev pub is_constant_binary : BinaryOp → Bool
is_constant_binary (binaries.Value op) = true
is_constant_binary binaries.AndAnd = false
is_constant_binary binaries.OrOr = false

-- the forms: constants, sizeof of a type, - + ~ ! before one, and the operators on two numbers between two of them; brackets
-- change nothing
abbrev pub is_constant : Context → source.Expr → Bool
is_constant c (source.name n) = is_constant_name (meaning_of c n)
is_constant c (source.int place value) = true
is_constant c (source.char place value) = true
is_constant c (source.sizeof_type place t) = true
is_constant c (source.group e) = is_constant c e
is_constant c (source.prefix place op e) = is_constant_prefix op && is_constant c e
is_constant c (source.binary place op a b) = is_constant_binary op && is_constant c a && is_constant c b
is_constant c e = false

-- a number converted to an integer type
abbrev pub at_type : Ty → Option Num → Option Num
at_type (integer t) (Some n) = Some (number t n.value)
at_type t n = None

-- the number that an operation gives, or none where it breaks a rule
abbrev pub if_unbroken : Result Num Rule → Option Num
if_unbroken (Ok n) = Some n
if_unbroken (Err rule) = None

-- the value of an operation on two values, if both are known and it breaks no rule
abbrev pub both_values : Op → Option Num → Option Num → Option Num
both_values op (Some a) (Some b) = if_unbroken (result_of op a b)
both_values op None b = None
both_values op (Some a) None = None

-- the value of !e, an int: 1 where e is 0, and else 0 (C11 6.5.3.3 p5)
abbrev pub is_zero_value : Option Num → Option Num
is_zero_value (Some n) = Some (number int (truth (int_eq n.value (pos 0))))
is_zero_value None = None

abbrev mutual
  -- the value of a typed expression, if it is made of numbers, conversions and operations alone
  pub value : Expr → Option Num
  value (at place ty node) = value_in ty node

  -- the value of what an expression of this type does, if it is made of those alone
  pub value_in : Ty → ExprNode → Option Num
  value_in ty (num t z) = Some (number t z)
  value_in ty (convert e) = at_type ty (value e)
  value_in ty (not_ e) = is_zero_value (value e)
  value_in ty (binary op a b) = both_values op (value a) (value b)
  value_in ty node = None

-- the value of an integer constant expression: none where the expression is none, or breaks a rule
abbrev pub constant_value : Context → source.Expr → Expr → Option Num
constant_value c e x = if is_constant c e then value x else None
