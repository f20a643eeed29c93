-- What the code chooses by, as the readers have it.
use Rattle.parse_tokens.specs.declared.peeking.OperandStart.{OperandStart}
use Rattle.parse_tokens.specs.declared.peeking.OperandStart.TheVariants as operands
use Rattle.parse_tokens.specs.declared.peeking.PostStart.{PostStart}
use Rattle.parse_tokens.specs.declared.peeking.PostStart.TheVariants as posts
use Rattle.parse_tokens.specs.declared.peeking.UnaryStart.{UnaryStart}
use Rattle.parse_tokens.specs.declared.peeking.UnaryStart.TheVariants as unaries
use Rattle.parse_tokens.specs.declared.peeking.SpecStart.{SpecStart}
use Rattle.parse_tokens.specs.declared.peeking.SpecStart.TheVariants as specs
use Rattle.c_grammar.specs.inner.Reading as reading

-- which primary is next: the code's answer, as the readers have it
abbrev pub operand_view : OperandStart → reading.Operand
operand_view operands.Name = reading.Named
operand_view operands.Int = reading.AnInt
operand_view operands.Char = reading.AChar
operand_view operands.Text = reading.Texts
operand_view operands.Null = reading.NullWord

-- which postfix operator is next: the code's answer, as the readers have it
abbrev pub post_view : PostStart → reading.PostStart
post_view posts.Bracket = reading.Bracket
post_view posts.Dot = reading.Dot
post_view posts.Arrow = reading.Arrow

-- which unary expression or cast is next: the code's answer, as the readers have it
abbrev pub unary_view : UnaryStart → reading.UnaryStart
unary_view unaries.Primary = reading.Primary
unary_view unaries.Paren = reading.Paren
unary_view unaries.Prefix = reading.Prefix
unary_view unaries.Sizeof = reading.Sizeof

-- which specifier is next: the code's answer, as the readers have it
abbrev pub spec_view : SpecStart → reading.SpecStart
spec_view specs.Word = reading.TypeWords
spec_view specs.Struct = reading.StructWord
spec_view specs.Enum = reading.EnumWord
