-- The types that words name, as the code lists them.
use Rattle.std.specs.Prelude.{List}
use Rattle.std.specs.Borrow.{Bor}
use Rattle.ak_words.specs.IntType.{char, int, unsigned_int, long, unsigned_long}
use Rattle.c_tree.specs.declared.syntax.TypeWord.{TypeWord}
use Rattle.c_tree.specs.Typed.{Ty, void, integer, mutex}
use Rattle.type_context.specs.declared.words.Named.{Named}
use Rattle.type_context.specs.declared.words.Named.TheVariants as codes
use Rattle.c_typing.specs.Types.{unsigned_char, short, unsigned_short}

-- the type that one of the code's names for types stands for
abbrev pub named_view : Named → Ty
named_view codes.Void = void
named_view codes.Char = integer char
named_view codes.UnsignedChar = integer unsigned_char
named_view codes.Short = integer short
named_view codes.UnsignedShort = integer unsigned_short
named_view codes.Int = integer int
named_view codes.UnsignedInt = integer unsigned_int
named_view codes.Long = integer long
named_view codes.UnsignedLong = integer unsigned_long
named_view codes.Mutex = mutex

-- words, and the type that they name
abbrev pub row_view : Bor (List TypeWord) × Named → List TypeWord × Ty
row_view row = (row.0.now, named_view row.1)
