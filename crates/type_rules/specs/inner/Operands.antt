-- What two operands are, as the code has it.
use Rattle.type_rules.specs.declared.operators.Operands.{Operands as CodeOperands}
use Rattle.type_rules.specs.declared.operators.Operands.TheVariants as codes
use Rattle.c_tree.specs.TypedViews.{type_view}
use Rattle.c_typing.specs.Rules.{Operands, numbers, pointer_number, number_pointer, pointers, others}

-- what two operands are, by what the code says of them
abbrev pub operands_view : CodeOperands → Operands
operands_view (codes.Numbers s t) = numbers s t
operands_view (codes.PointerNumber target s) = pointer_number (type_view target.now) s
operands_view (codes.NumberPointer s target) = number_pointer s (type_view target.now)
operands_view (codes.Pointers s t) = pointers (type_view s.now) (type_view t.now)
operands_view codes.Others = others
