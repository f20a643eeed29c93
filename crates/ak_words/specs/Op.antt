use Rattle.std.specs.Prelude.{◌^◌, Bool, not, ◌&&◌, ◌||◌, if◌then◌else◌, ℤ, pos, ◌+ℤ◌, ◌-ℤ◌, ◌*ℤ◌, int_lt, int_le, int_div, int_rem, unsigned_abs, bit_and, bit_or, bit_xor, Option, Some, None, Result, Ok, Err}
use Rattle.std.specs.Int.{int_shr}
use Rattle.std.specs.Ordering.{int_eq}
use Rattle.std.specs.Result.{result_unwrap_or}
use Rattle.ak_words.specs.declared.int_type.IntType.{IntType}
use Rattle.ak_words.specs.declared.number.Num.{Num}
use Rattle.ak_words.specs.declared.operation.Op.{Op}
use Rattle.ak_words.specs.declared.operation.Op.TheVariants.{Add, Sub, Mul, Div, Rem, Shl, Shr, And, Or, Xor, Eq, Ne, Lt, Le, Gt, Ge}
use Rattle.ak_words.specs.declared.rule.Rule.{Rule}
use Rattle.ak_words.specs.declared.rule.Rule.TheVariants.{C1, C2, C3}
use Rattle.ak_words.specs.IntType.{int, is_held}
use Rattle.ak_words.specs.Wrapped.{residue, bit_pattern}
use Rattle.ak_words.specs.Num.{num}

-- what a comparison gives: 1 or 0
abbrev pub truth : Bool → ℤ
truth b = if b then pos 1 else pos 0

-- the result of an operation, on whole numbers without bound (C11 6.5.5 to 6.5.12): a quotient is truncated toward zero, a
-- right shift rounds down (this project's profile), and of a bitwise operator these are the result's bits
unfoldable pub exact_result : Op → IntType → ℤ → ℤ → ℤ
exact_result Add t x y = x +ℤ y
exact_result Sub t x y = x -ℤ y
exact_result Mul t x y = x *ℤ y
exact_result Div t x y = int_div x y
exact_result Rem t x y = int_rem x y
exact_result Shl t x y = x *ℤ pos (2 ^ unsigned_abs y)
exact_result Shr t x y = int_shr x (unsigned_abs y)
exact_result And t x y = pos (bit_and (bit_pattern t x) (bit_pattern t y))
exact_result Or t x y = pos (bit_or (bit_pattern t x) (bit_pattern t y))
exact_result Xor t x y = pos (bit_xor (bit_pattern t x) (bit_pattern t y))
exact_result Eq t x y = truth (int_eq x y)
exact_result Ne t x y = truth (not (int_eq x y))
exact_result Lt t x y = truth (int_lt x y)
exact_result Le t x y = truth (int_le x y)
exact_result Gt t x y = truth (int_lt y x)
exact_result Ge t x y = truth (int_le y x)

-- the type is signed and does not hold z: an unsigned result never overflows, but is reduced (C11 6.2.5 p9)
abbrev pub overflows : IntType → ℤ → Bool
overflows t z = t.signed && not (is_held t z)

-- y counts places of the type: it lies from 0 to below the width
abbrev pub is_count : IntType → ℤ → Bool
is_count t y = int_le (pos 0) y && int_lt y (pos t.bits)

-- the rule that is broken where the test holds
abbrev pub rule_if : Rule → Bool → Option Rule
rule_if rule b = if b then Some rule else None

-- the rule that an operation breaks, if any (C11 6.5 p5, 6.5.5, 6.5.7)
unfoldable pub rule_of : Op → IntType → ℤ → ℤ → Option Rule
rule_of Add t x y = rule_if C1 (overflows t (x +ℤ y))
rule_of Sub t x y = rule_if C1 (overflows t (x -ℤ y))
rule_of Mul t x y = rule_if C1 (overflows t (x *ℤ y))
rule_of Div t x y = if int_eq y (pos 0) then Some C2 else rule_if C1 (overflows t (int_div x y))
rule_of Rem t x y = if int_eq y (pos 0) then Some C2 else rule_if C1 (overflows t (int_div x y))
rule_of Shl t x y = rule_if C3 (not (is_count t y) || (t.signed && int_lt x (pos 0) || overflows t (x *ℤ pos (2 ^ unsigned_abs y))))
rule_of Shr t x y = rule_if C3 (not (is_count t y))
rule_of op t x y = None

-- a comparison gives an int, and each other operation its left operand's type
abbrev pub result_type : Op → IntType → IntType
result_type Eq t = int
result_type Ne t = int
result_type Lt t = int
result_type Le t = int
result_type Gt t = int
result_type Ge t = int
result_type op t = t

-- the broken rule, and else the number
abbrev pub outcome : Option Rule → Num → Result Num Rule
outcome None n = Ok n
outcome (Some rule) n = Err rule

-- a result z of + - * /: C1 where it overflows the type, and else the number that it becomes there
abbrev pub arithmetic_result : IntType → ℤ → Result Num Rule
arithmetic_result t z = outcome (rule_if C1 (overflows t z)) (num t z)

-- an operation on C's integers: the rule that it breaks, and else what its exact result becomes at the result's type, which
-- is the exact result wherever that type holds it
abbrev pub result_of : Op → Num → Num → Result Num Rule
result_of op a b = outcome (rule_of op a.ty a.value b.value) (num (result_type op a.ty) (exact_result op a.ty a.value b.value))

-- what stands for the result where a rule is broken, before it wraps (this project's profile): a zero divisor gives 0,
-- and so does the remainder of a quotient that overflows; a shift's count is taken modulo the width
unfoldable pub replacement : Op → IntType → ℤ → ℤ → ℤ
replacement Add t x y = x +ℤ y
replacement Sub t x y = x -ℤ y
replacement Mul t x y = x *ℤ y
replacement Div t x y = if int_eq y (pos 0) then pos 0 else int_div x y
replacement Shl t x y = x *ℤ pos (2 ^ residue t.bits y)
replacement Shr t x y = int_shr x (residue t.bits y)
replacement op t x y = pos 0

-- an operation that always gives a number: where no rule is broken that of `result_of`
abbrev pub wrapped_result : Op → Num → Num → Num
wrapped_result op a b = result_unwrap_or (result_of op a b) (num a.ty (replacement op a.ty a.value b.value))
