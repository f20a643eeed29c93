-- The operand of sizeof, as the readers have it.
use Rattle.c_tree.specs.SyntaxViews.{boxed_expr_view, type_name_view}
use Rattle.parse_expressions.specs.declared.expressions.SizeofOperand.{SizeofOperand}
use Rattle.parse_expressions.specs.declared.expressions.SizeofOperand.TheVariants as operands
use Rattle.c_grammar.specs.inner.Reading as reading

-- the operand of sizeof that the code read, a type or an expression, as the readers have it
abbrev pub sized_view : SizeofOperand → reading.Sized
sized_view (operands.Type t) = reading.a_type (type_name_view t)
sized_view (operands.Expr e) = reading.an_expr (boxed_expr_view e)
