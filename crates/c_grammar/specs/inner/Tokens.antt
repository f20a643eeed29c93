-- Classes of tokens, and readers of one token at a level.
use Rattle.std.specs.Prelude.{ℕ, ◌+◌, ◌==◌, Option, Some, None, Bool, true, false, ◌||◌}
use denote.Enum.Bare.{sameb}
use Rattle.ak_words.specs.declared.number.Num.{Num}
use Rattle.ak_words.specs.declared.operation.Op.TheVariants as ops
use Rattle.c_lex.specs.declared.token.Word.{Word}
use Rattle.c_lex.specs.declared.token.Word.TheVariants as words
use Rattle.c_lex.specs.declared.token.Mark.{Mark}
use Rattle.c_lex.specs.declared.token.Mark.TheVariants as marks
use Rattle.c_grammar.specs.declared.terminal.TerminalKind.{TerminalKind}
use Rattle.c_grammar.specs.declared.terminal.TerminalKind.TheVariants as kinds
use Rattle.c_grammar.specs.declared.terminal.Terminal.{Terminal}
use Rattle.c_lex.specs.contracts.token.Word.{the_type as word_type}
use Rattle.c_lex.specs.contracts.token.Mark.{the_type as mark_type}
use Rattle.c_tree.specs.declared.syntax.Name.{Name}
use Rattle.c_tree.specs.declared.syntax.Span.{Span}
use Rattle.c_tree.specs.declared.syntax.TypeWord.{TypeWord}
use Rattle.c_tree.specs.declared.syntax.TypeWord.TheVariants as types
use Rattle.c_tree.specs.declared.syntax.Storage.{Storage}
use Rattle.c_tree.specs.declared.syntax.Storage.TheVariants as storages
use Rattle.c_tree.specs.declared.syntax.PrefixOp.{PrefixOp}
use Rattle.c_tree.specs.declared.syntax.PrefixOp.TheVariants as prefixes
use Rattle.c_tree.specs.declared.syntax.BinaryOp.{BinaryOp}
use Rattle.c_tree.specs.declared.syntax.BinaryOp.TheVariants.{Value, AndAnd, OrOr}
use Rattle.c_tree.specs.declared.syntax.StepOp.{StepOp}
use Rattle.c_tree.specs.declared.syntax.StepOp.TheVariants as steps
use Rattle.c_tree.specs.declared.syntax.AssignOp.{AssignOp}
use Rattle.c_tree.specs.declared.syntax.AssignOp.TheVariants as assigns
use Rattle.c_grammar.specs.Leaves.{operator, derivation, if_so, first_of, beyond}
use Rattle.c_grammar.specs.Grammar.{height}
use Rattle.c_grammar.specs.inner.Readers.{Reads, Sort, a_name, a_type, an_int, a_char, a_text, a_word, a_mark, take, deep}

-- ---- the token of a level with so much room, which is 0 where the level is above 128

-- a token that isn't counted
abbrev pub tok : {A : Type 0} → ℕ → (Terminal → Option A) → Reads A
tok room class = take class (λ c. deep room) (λ c. c)

-- an operator of the full expression
abbrev pub counted_tok : {A : Type 0} → ℕ → (Terminal → Option A) → Reads A
counted_tok room class = take class (λ c. first_of (deep room) (beyond (operator (c + 1)))) (λ c. c + 1)

-- a star or a dimension, behind n of them
abbrev pub derived_tok : {A : Type 0} → ℕ → ℕ → (Terminal → Option A) → Reads A
derived_tok room n class = take class (λ c. first_of (deep room) (beyond (derivation (n + 1)))) (λ c. c)

-- ---- classes of one token

-- the name from the one place to the other, if a token of this kind is one
abbrev pub name_of_kind : TerminalKind → ℕ → ℕ → Option Name
name_of_kind kinds.Name from to = Some (record { from = from; to = to })
name_of_kind _ from to = None

-- the name that the token is, if it is one
abbrev pub name_of : Terminal → Option Name
name_of t = name_of_kind t.kind t.from t.to

-- the type's name from the one place to the other, if a token of this kind is one
abbrev pub type_name_of_kind : TerminalKind → ℕ → ℕ → Option Name
type_name_of_kind kinds.TypeName from to = Some (record { from = from; to = to })
type_name_of_kind _ from to = None

-- the type's name that the token is, if it is one
abbrev pub type_name_of : Terminal → Option Name
type_name_of t = type_name_of_kind t.kind t.from t.to

-- the name from the one place to the other, be it a type's or not, if a token of this kind is one
abbrev pub tag_of_kind : TerminalKind → ℕ → ℕ → Option Name
tag_of_kind kinds.Name from to = Some (record { from = from; to = to })
tag_of_kind kinds.TypeName from to = Some (record { from = from; to = to })
tag_of_kind _ from to = None

-- the tag or member that the token is, if it is one
abbrev pub tag_of : Terminal → Option Name
tag_of t = tag_of_kind t.kind t.from t.to

-- the integer constant at the place, with its value, if a token of this kind is one
abbrev pub int_of_kind : TerminalKind → ℕ → Option (ℕ × Num)
int_of_kind (kinds.Int value) from = Some (from, value)
int_of_kind _ from = None

-- the integer constant that the token is, if it is one (C11 6.4.4.1)
abbrev pub int_of : Terminal → Option (ℕ × Num)
int_of t = int_of_kind t.kind t.from

-- the character constant at the place, with its value, if a token of this kind is one
abbrev pub char_of_kind : TerminalKind → ℕ → Option (ℕ × Num)
char_of_kind (kinds.Char value) from = Some (from, value)
char_of_kind _ from = None

-- the character constant that the token is, if it is one (C11 6.4.4.4)
abbrev pub char_of : Terminal → Option (ℕ × Num)
char_of t = char_of_kind t.kind t.from

-- the string literal from the one place to the other, if a token of this kind is one
abbrev pub text_of_kind : TerminalKind → ℕ → ℕ → Option Span
text_of_kind kinds.Text from to = Some (record { from = from; to = to })
text_of_kind _ from to = None

-- the string literal that the token is, if it is one (C11 6.4.5)
abbrev pub text_of : Terminal → Option Span
text_of t = text_of_kind t.kind t.from t.to

-- what a reserved word is in a class of words; any other token is nothing in it
abbrev pub word_of_kind : {A : Type 0} → (Word → Option A) → TerminalKind → Option A
word_of_kind f (kinds.Word w) = f w
word_of_kind f _ = None

-- what a mark is in a class of marks; any other token is nothing in it
abbrev pub mark_of_kind : {A : Type 0} → (Mark → Option A) → TerminalKind → Option A
mark_of_kind f (kinds.Mark m) = f m
mark_of_kind f _ = None

-- a word, and a mark, whose place the tree doesn't keep
abbrev pub word_is : Word → Terminal → Option (Unit {0})
word_is w t = word_of_kind (λ v. if_so (sameb word_type v w) tt) t.kind

-- this mark alone
abbrev pub mark_is : Mark → Terminal → Option (Unit {0})
mark_is m t = mark_of_kind (λ k. if_so (sameb mark_type k m) tt) t.kind

-- the place of a word, and of a mark
abbrev pub word_place : Word → Terminal → Option ℕ
word_place w t = word_of_kind (λ v. if_so (sameb word_type v w) t.from) t.kind

-- the place where this mark stands, if the token is it
abbrev pub mark_place : Mark → Terminal → Option ℕ
mark_place m t = mark_of_kind (λ k. if_so (sameb mark_type k m) t.from) t.kind

-- with what stands at its place
abbrev pub at_place : {A : Type 0} → ℕ → Option A → Option (ℕ × A)
at_place place None = None
at_place place (Some a) = Some (place, a)

-- the prefix operator that the mark is, if it is one (C11 6.5.3.2, 6.5.3.3)
abbrev pub prefix_of_mark : Mark → Option PrefixOp
prefix_of_mark marks.Minus = Some prefixes.Minus
prefix_of_mark marks.Plus = Some prefixes.Plus
prefix_of_mark marks.Bang = Some prefixes.Not
prefix_of_mark marks.Tilde = Some prefixes.Complement
prefix_of_mark marks.Star = Some prefixes.Deref
prefix_of_mark marks.Ampersand = Some prefixes.AddressOf
prefix_of_mark _ = None

-- the prefix operator that the token is, with its place
abbrev pub prefix_of : Terminal → Option (ℕ × PrefixOp)
prefix_of t = at_place t.from (mark_of_kind prefix_of_mark t.kind)

-- the increment or decrement that the mark is, if it is one (C11 6.5.2.4, 6.5.3.1)
abbrev pub step_of_mark : Mark → Option StepOp
step_of_mark marks.PlusPlus = Some steps.Increment
step_of_mark marks.MinusMinus = Some steps.Decrement
step_of_mark _ = None

-- the increment or decrement that the token is, with its place
abbrev pub step_of : Terminal → Option (ℕ × StepOp)
step_of t = at_place t.from (mark_of_kind step_of_mark t.kind)

-- the assignment operator that the mark is, if it is one (C11 6.5.16)
abbrev pub assign_of_mark : Mark → Option AssignOp
assign_of_mark marks.Assign = Some assigns.Plain
assign_of_mark marks.PlusAssign = Some assigns.Add
assign_of_mark marks.MinusAssign = Some assigns.Sub
assign_of_mark marks.StarAssign = Some assigns.Mul
assign_of_mark marks.SlashAssign = Some assigns.Div
assign_of_mark marks.PercentAssign = Some assigns.Rem
assign_of_mark marks.AmpersandAssign = Some assigns.And
assign_of_mark marks.BarAssign = Some assigns.Or
assign_of_mark marks.CaretAssign = Some assigns.Xor
assign_of_mark marks.ShiftLeftAssign = Some assigns.Shl
assign_of_mark marks.ShiftRightAssign = Some assigns.Shr
assign_of_mark _ = None

-- the assignment operator that the token is, with its place
abbrev pub assign_of : Terminal → Option (ℕ × AssignOp)
assign_of t = at_place t.from (mark_of_kind assign_of_mark t.kind)

-- the binary operator that the mark is, if it is one (C11 6.5.5 to 6.5.14)
abbrev pub op_of_mark : Mark → Option BinaryOp
op_of_mark marks.Star = Some (Value ops.Mul)
op_of_mark marks.Slash = Some (Value ops.Div)
op_of_mark marks.Percent = Some (Value ops.Rem)
op_of_mark marks.Plus = Some (Value ops.Add)
op_of_mark marks.Minus = Some (Value ops.Sub)
op_of_mark marks.ShiftLeft = Some (Value ops.Shl)
op_of_mark marks.ShiftRight = Some (Value ops.Shr)
op_of_mark marks.Less = Some (Value ops.Lt)
op_of_mark marks.Greater = Some (Value ops.Gt)
op_of_mark marks.LessEqual = Some (Value ops.Le)
op_of_mark marks.GreaterEqual = Some (Value ops.Ge)
op_of_mark marks.EqualEqual = Some (Value ops.Eq)
op_of_mark marks.NotEqual = Some (Value ops.Ne)
op_of_mark marks.Ampersand = Some (Value ops.And)
op_of_mark marks.Caret = Some (Value ops.Xor)
op_of_mark marks.Bar = Some (Value ops.Or)
op_of_mark marks.AndAnd = Some AndAnd
op_of_mark marks.OrOr = Some OrOr
op_of_mark _ = None

-- the operator, if it is of the height
abbrev pub of_height : ℕ → Option BinaryOp → Option BinaryOp
of_height h None = None
of_height h (Some op) = if_so (height op == h) op

-- the binary operator of a height
abbrev pub binary_of_mark : ℕ → Mark → Option BinaryOp
binary_of_mark h m = of_height h (op_of_mark m)

-- the binary operator of a height that the token is, with its place
abbrev pub binary_of : ℕ → Terminal → Option (ℕ × BinaryOp)
binary_of h t = at_place t.from (mark_of_kind (binary_of_mark h) t.kind)

-- the specifier that the word is by itself, if it is one: any of them but struct and enum (C11 6.7.1 to 6.7.3, and this project's profile)
abbrev pub type_of_word : Word → Option TypeWord
type_of_word words.Void = Some types.Void
type_of_word words.Char = Some types.Char
type_of_word words.Short = Some types.Short
type_of_word words.Int = Some types.Int
type_of_word words.Long = Some types.Long
type_of_word words.Signed = Some types.Signed
type_of_word words.Unsigned = Some types.Unsigned
type_of_word words.SizeT = Some types.SizeT
type_of_word words.ThrdT = Some types.ThrdT
type_of_word words.MtxT = Some types.MtxT
type_of_word words.Const = Some types.Const
type_of_word words.Register = Some types.Register
type_of_word words.Auto = Some types.Auto
type_of_word words.Atomic = Some types.Atomic
type_of_word _ = None

-- the specifier that the token is by itself, with its place
abbrev pub type_word_of : Terminal → Option (ℕ × TypeWord)
type_word_of t = at_place t.from (word_of_kind type_of_word t.kind)

-- static or inline, if the word is one of them (C11 6.7.1, 6.7.4)
abbrev pub storage_of_word : Word → Option Storage
storage_of_word words.Static = Some storages.Static
storage_of_word words.Inline = Some storages.Inline
storage_of_word _ = None

-- static or inline, if the token is one of them
abbrev pub storage_of : Terminal → Option Storage
storage_of t = word_of_kind storage_of_word t.kind

-- the end of the text
abbrev pub end_of_kind : TerminalKind → Option (Unit {0})
end_of_kind kinds.End = Some tt
end_of_kind _ = None

-- the token at the end of the text, and no other
abbrev pub end_of : Terminal → Option (Unit {0})
end_of t = end_of_kind t.kind

-- ---- sets of sorts

-- whether there is one
abbrev pub is_some : {A : Type 0} → Option A → Bool
is_some None = false
is_some (Some a) = true

-- this mark
abbrev pub is_mark : Mark → Sort → Bool
is_mark m (a_mark k) = sameb mark_type k m
is_mark m _ = false

-- this reserved word
abbrev pub is_word : Word → Sort → Bool
is_word w (a_word v) = sameb word_type v w
is_word w _ = false

-- a string literal
abbrev pub is_text : Sort → Bool
is_text a_text = true
is_text _ = false

-- a binary operator of the height
abbrev pub is_binary : ℕ → Sort → Bool
is_binary h (a_mark m) = is_some (binary_of_mark h m)
is_binary h _ = false

-- a name, be it a type's or not
abbrev pub is_tag : Sort → Bool
is_tag a_name = true
is_tag a_type = true
is_tag _ = false

-- a type's name
abbrev pub is_type_name : Sort → Bool
is_type_name a_type = true
is_type_name _ = false

-- a word that a type begins with
abbrev pub begins_type_word : Sort → Bool
begins_type_word (a_word w) = is_some (type_of_word w) || (sameb word_type w words.Struct || sameb word_type w words.Enum)
begins_type_word _ = false

-- what a type begins with: such a word, or a type's name
abbrev pub begins_type : Sort → Bool
begins_type s = is_type_name s || begins_type_word s

-- a token that an expression begins with
abbrev pub begins_expr : Sort → Bool
begins_expr a_name = true
begins_expr an_int = true
begins_expr a_char = true
begins_expr a_text = true
begins_expr (a_word w) = sameb word_type w words.Null || sameb word_type w words.Sizeof
begins_expr (a_mark m) = is_some (prefix_of_mark m) || sameb mark_type m marks.OpenParen
begins_expr _ = false

-- a token that a simple statement begins with
abbrev pub begins_simple : Sort → Bool
begins_simple (a_mark m) = is_some (step_of_mark m) || begins_expr (a_mark m)
begins_simple s = begins_expr s

-- static or inline
abbrev pub is_storage : Sort → Bool
is_storage (a_word w) = is_some (storage_of_word w)
is_storage _ = false

-- a token that what stands before a declared name may have
abbrev pub is_pointer : Sort → Bool
is_pointer (a_mark m) = sameb mark_type m marks.Star
is_pointer (a_word w) = sameb word_type w words.Const || sameb word_type w words.Restrict
is_pointer _ = false
