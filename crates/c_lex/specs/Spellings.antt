-- How words and marks are spelled (C11 6.4.1, 6.4.6), and the names that a program may not define.
use Rattle.std.specs.Prelude.{ℕ, List, [], ◌∷◌, codes, Option, nat_eq, Bool, ◌||◌}
use Rattle.std.specs.List.{find, list_any, starts_with}
use Rattle.std.specs.Str.{bytes_eq}
use Rattle.std.specs.Option.{is_some}
use Rattle.c_lex.specs.declared.token.Word.{Word}
use Rattle.c_lex.specs.declared.token.Word.TheVariants as words
use Rattle.c_lex.specs.declared.token.Mark.{Mark}
use Rattle.c_lex.specs.declared.token.Mark.TheVariants as marks

-- the bytes of a reserved word
unfoldable pub word_text : Word → List ℕ
word_text words.Auto = codes "auto"
word_text words.Break = codes "break"
word_text words.Case = codes "case"
word_text words.Char = codes "char"
word_text words.Const = codes "const"
word_text words.Continue = codes "continue"
word_text words.Default = codes "default"
word_text words.Do = codes "do"
word_text words.Double = codes "double"
word_text words.Else = codes "else"
word_text words.Enum = codes "enum"
word_text words.Extern = codes "extern"
word_text words.Float = codes "float"
word_text words.For = codes "for"
word_text words.Goto = codes "goto"
word_text words.If = codes "if"
word_text words.Inline = codes "inline"
word_text words.Int = codes "int"
word_text words.Long = codes "long"
word_text words.Register = codes "register"
word_text words.Restrict = codes "restrict"
word_text words.Return = codes "return"
word_text words.Short = codes "short"
word_text words.Signed = codes "signed"
word_text words.Sizeof = codes "sizeof"
word_text words.Static = codes "static"
word_text words.Struct = codes "struct"
word_text words.Switch = codes "switch"
word_text words.Typedef = codes "typedef"
word_text words.Union = codes "union"
word_text words.Unsigned = codes "unsigned"
word_text words.Void = codes "void"
word_text words.Volatile = codes "volatile"
word_text words.While = codes "while"
word_text words.Alignas = codes "_Alignas"
word_text words.Alignof = codes "_Alignof"
word_text words.Atomic = codes "_Atomic"
word_text words.Bool = codes "_Bool"
word_text words.Complex = codes "_Complex"
word_text words.Generic = codes "_Generic"
word_text words.Imaginary = codes "_Imaginary"
word_text words.Noreturn = codes "_Noreturn"
word_text words.StaticAssert = codes "_Static_assert"
word_text words.ThreadLocal = codes "_Thread_local"
word_text words.SizeT = codes "size_t"
word_text words.ThrdT = codes "thrd_t"
word_text words.MtxT = codes "mtx_t"
word_text words.Null = codes "NULL"

-- the reserved words: the 44 keywords in the order of C11 6.4.1, and then this project's own four
unfoldable pub all_words : List Word
all_words = words.Auto ∷ words.Break ∷ words.Case ∷ words.Char ∷ words.Const ∷ words.Continue ∷ words.Default ∷ words.Do
    ∷ words.Double ∷ words.Else ∷ words.Enum ∷ words.Extern ∷ words.Float ∷ words.For ∷ words.Goto ∷ words.If ∷ words.Inline
    ∷ words.Int ∷ words.Long ∷ words.Register ∷ words.Restrict ∷ words.Return ∷ words.Short ∷ words.Signed ∷ words.Sizeof
    ∷ words.Static ∷ words.Struct ∷ words.Switch ∷ words.Typedef ∷ words.Union ∷ words.Unsigned ∷ words.Void ∷ words.Volatile
    ∷ words.While ∷ words.Alignas ∷ words.Alignof ∷ words.Atomic ∷ words.Bool ∷ words.Complex ∷ words.Generic
    ∷ words.Imaginary ∷ words.Noreturn ∷ words.StaticAssert ∷ words.ThreadLocal
    ∷ words.SizeT ∷ words.ThrdT ∷ words.MtxT ∷ words.Null ∷ []

-- the reserved word that the bytes spell, if they do
unfoldable pub word_of : List ℕ → Option Word
word_of run = find (λ word. bytes_eq (word_text word) run) all_words

-- the bytes of a mark
unfoldable pub mark_text : Mark → List ℕ
mark_text marks.Ellipsis = codes "..."
mark_text marks.ShiftLeft = codes "<<"
mark_text marks.ShiftRight = codes ">>"
mark_text marks.LessEqual = codes "<="
mark_text marks.GreaterEqual = codes ">="
mark_text marks.EqualEqual = codes "=="
mark_text marks.NotEqual = codes "!="
mark_text marks.AndAnd = codes "&&"
mark_text marks.OrOr = codes "||"
mark_text marks.Arrow = codes "->"
mark_text marks.PlusPlus = codes "++"
mark_text marks.MinusMinus = codes "--"
mark_text marks.PlusAssign = codes "+="
mark_text marks.MinusAssign = codes "-="
mark_text marks.StarAssign = codes "*="
mark_text marks.SlashAssign = codes "/="
mark_text marks.PercentAssign = codes "%="
mark_text marks.AmpersandAssign = codes "&="
mark_text marks.BarAssign = codes "|="
mark_text marks.CaretAssign = codes "^="
mark_text marks.ShiftLeftAssign = codes "<<="
mark_text marks.ShiftRightAssign = codes ">>="
mark_text marks.Plus = codes "+"
mark_text marks.Minus = codes "-"
mark_text marks.Star = codes "*"
mark_text marks.Slash = codes "/"
mark_text marks.Percent = codes "%"
mark_text marks.Ampersand = codes "&"
mark_text marks.Bar = codes "|"
mark_text marks.Caret = codes "^"
mark_text marks.Tilde = codes "~"
mark_text marks.Bang = codes "!"
mark_text marks.Less = codes "<"
mark_text marks.Greater = codes ">"
mark_text marks.Assign = codes "="
mark_text marks.Question = codes "?"
mark_text marks.Colon = codes ":"
mark_text marks.Semicolon = codes ";"
mark_text marks.Comma = codes ","
mark_text marks.Dot = codes "."
mark_text marks.OpenParen = codes "("
mark_text marks.CloseParen = codes ")"
mark_text marks.OpenBracket = codes "["
mark_text marks.CloseBracket = codes "]"
mark_text marks.OpenBrace = codes "{"
mark_text marks.CloseBrace = codes "}"

-- the marks, in the order by which they are numbered
unfoldable pub all_marks : List Mark
all_marks = marks.Ellipsis ∷ marks.ShiftLeft ∷ marks.ShiftRight ∷ marks.LessEqual ∷ marks.GreaterEqual ∷ marks.EqualEqual ∷
    marks.NotEqual ∷ marks.AndAnd ∷ marks.OrOr ∷ marks.Arrow ∷ marks.PlusPlus ∷ marks.MinusMinus ∷ marks.PlusAssign ∷
    marks.MinusAssign ∷ marks.StarAssign ∷ marks.SlashAssign ∷ marks.PercentAssign ∷ marks.AmpersandAssign ∷
    marks.BarAssign ∷ marks.CaretAssign ∷ marks.ShiftLeftAssign ∷ marks.ShiftRightAssign ∷ marks.Plus ∷ marks.Minus ∷
    marks.Star ∷ marks.Slash ∷ marks.Percent ∷ marks.Ampersand ∷ marks.Bar ∷ marks.Caret ∷ marks.Tilde ∷ marks.Bang ∷
    marks.Less ∷ marks.Greater ∷ marks.Assign ∷ marks.Question ∷ marks.Colon ∷ marks.Semicolon ∷ marks.Comma ∷
    marks.Dot ∷ marks.OpenParen ∷ marks.CloseParen ∷ marks.OpenBracket ∷ marks.CloseBracket ∷ marks.OpenBrace ∷
    marks.CloseBrace ∷ []

-- the marks of three bytes, then those of two, then those of one
unfoldable pub longest_marks_first : List Mark
longest_marks_first = marks.Ellipsis ∷ marks.ShiftLeftAssign ∷ marks.ShiftRightAssign
    ∷ marks.ShiftLeft ∷ marks.ShiftRight ∷ marks.LessEqual ∷ marks.GreaterEqual ∷ marks.EqualEqual ∷ marks.NotEqual
    ∷ marks.AndAnd ∷ marks.OrOr ∷ marks.Arrow ∷ marks.PlusPlus ∷ marks.MinusMinus ∷ marks.PlusAssign ∷ marks.MinusAssign
    ∷ marks.StarAssign ∷ marks.SlashAssign ∷ marks.PercentAssign ∷ marks.AmpersandAssign ∷ marks.BarAssign ∷ marks.CaretAssign
    ∷ marks.Plus ∷ marks.Minus ∷ marks.Star ∷ marks.Slash ∷ marks.Percent ∷ marks.Ampersand ∷ marks.Bar ∷ marks.Caret
    ∷ marks.Tilde ∷ marks.Bang ∷ marks.Less ∷ marks.Greater ∷ marks.Assign ∷ marks.Question ∷ marks.Colon ∷ marks.Semicolon
    ∷ marks.Comma ∷ marks.Dot ∷ marks.OpenParen ∷ marks.CloseParen ∷ marks.OpenBracket ∷ marks.CloseBracket
    ∷ marks.OpenBrace ∷ marks.CloseBrace ∷ []

-- the longest mark that the bytes begin with, if they begin with one
unfoldable pub mark_of : List ℕ → Option Mark
mark_of bytes = find (λ mark. starts_with nat_eq bytes (mark_text mark)) longest_marks_first

-- the names of the library that the language has, which #define may not take
unfoldable pub library_names : List (List ℕ)
library_names = codes "printf" ∷ codes "malloc" ∷ codes "calloc" ∷ codes "realloc" ∷ codes "free" ∷ codes "memcpy"
    ∷ codes "thrd_create" ∷ codes "thrd_join"
    ∷ codes "mtx_init" ∷ codes "mtx_lock" ∷ codes "mtx_unlock" ∷ codes "mtx_destroy"
    ∷ codes "atomic_init" ∷ codes "atomic_store" ∷ codes "atomic_load" ∷ codes "atomic_fetch_add" ∷ codes "atomic_fetch_sub"
    ∷ codes "atomic_exchange" ∷ codes "atomic_compare_exchange_strong" ∷ codes "atomic_compare_exchange_weak"
    ∷ codes "mtx_plain" ∷ codes "thrd_success" ∷ codes "thrd_error" ∷ []

-- whether the bytes are one of these texts
abbrev pub is_one_of : List (List ℕ) → List ℕ → Bool
is_one_of texts bytes = list_any (λ text. bytes_eq text bytes) texts

-- whether #define may not take the name: it is a reserved word or the library's
unfoldable pub is_taken : List ℕ → Bool
is_taken name = is_some (word_of name) || is_one_of library_names name
