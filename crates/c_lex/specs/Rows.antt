-- Small texts with their tokens or their refusal, worked out by hand: the definitions, put to the test.
use Rattle.std.specs.Prelude.{◌≡◌, ℕ, pos, negsuc, List, [], ◌∷◌, codes, Ok, Err, refl}
use Prim.Native.String.{String}
use Rattle.ak_words.specs.declared.int_type.IntType.{IntType}
use Rattle.ak_words.specs.IntType.{int, unsigned_int, long, unsigned_long}
use Rattle.ak_words.specs.Num.{num}
use Rattle.ak_words.specs.Wrapped.{wrapped_value, residue}
use Rattle.c_lex.specs.declared.refusal.Kind.{Kind}
use Rattle.c_lex.specs.declared.refusal.Kind.TheVariants as kinds
use Rattle.c_lex.specs.declared.token.Word.TheVariants as words
use Rattle.c_lex.specs.declared.token.Mark.TheVariants as marks
use Rattle.c_lex.specs.declared.token.Token.{Token}
use Rattle.c_lex.specs.declared.token.TokenKind.TheVariants as tokens
use Rattle.c_lex.specs.Spellings.{word_text, all_words, word_of, mark_text, longest_marks_first, mark_of, library_names, is_taken}
use Rattle.c_lex.specs.Constants.{base_of, suffix_of, constant_of, no_constant, number_of}
use Rattle.c_lex.specs.Quoted.{simple_escapes, byte_of_value, octal_escape, hex_escape, escape, character_at, string_of, char_value, char_of}
use Rattle.c_lex.specs.Directives.{headers, is_line_end, is_header, is_include, has_form, define_of, directive_named, directive_of}
use Rattle.c_lex.specs.Items.{begins_number, start_of, item_at}
use Rattle.c_lex.specs.Tokens.{defined, token, refusal, reading_of}

-- the text has these tokens before its end
abbrev HasTokens : String → List Token → Type 0
HasTokens text all = reading_of (codes text) ≡ Ok all

-- the text is one constant of this type and value, which takes so many bytes
abbrev IsConstant : String → IntType → ℕ → ℕ → Type 0
IsConstant text t value len = HasTokens text (token (tokens.Int (num t (pos value))) 0 len ∷ [])

-- the text is refused so
abbrev IsRefused : String → ℕ → Kind → Type 0
IsRefused text place kind = reading_of (codes text) ≡ Err (refusal place kind)

-- small texts, each with its tokens or its refusal, worked out by hand
pub record Rows : Type 0 where
  pub nothing : HasTokens "" []
  pub names_and_marks : HasTokens "int a+++b..." (token (tokens.Word words.Int) 0 3 ∷ token tokens.Name 4 5 ∷ token (tokens.Mark marks.PlusPlus) 5 7
      ∷ token (tokens.Mark marks.Plus) 7 8 ∷ token tokens.Name 8 9 ∷ token (tokens.Mark marks.Ellipsis) 9 12 ∷ [])
  pub shifts : HasTokens "<<=<<<" (token (tokens.Mark marks.ShiftLeftAssign) 0 3 ∷ token (tokens.Mark marks.ShiftLeft) 3 5 ∷ token (tokens.Mark marks.Less) 5 6 ∷ [])
  pub longer_name : HasTokens "inty _1" (token tokens.Name 0 4 ∷ token tokens.Name 5 7 ∷ [])
  -- comments
  pub line_comment : HasTokens "a//b\nc//" (token tokens.Name 0 1 ∷ token tokens.Name 5 6 ∷ [])
  pub block_comment : HasTokens "a/*/b*c**/d" (token tokens.Name 0 1 ∷ token tokens.Name 10 11 ∷ [])
  pub open_comment : IsRefused "a/*/" 1 kinds.OpenLiteral
  -- constants
  pub zero_ : IsConstant "0" int 0 1
  pub most_int : IsConstant "2147483647" int 2147483647 10
  pub decimal_long : IsConstant "2147483648" long 2147483648 10
  pub hexadecimal_unsigned : IsConstant "0XfFffffFf" unsigned_int 4294967295 10
  pub octal : IsConstant "0777" int 511 4
  pub unsigned_suffix : IsConstant "4294967296u" unsigned_long 4294967296 11
  pub hexadecimal_most : IsConstant "0xffffffffffffffff" unsigned_long 18446744073709551615 18
  pub both_suffixes : IsConstant "1LLu" unsigned_long 1 4
  pub long_suffix : IsConstant "07l" long 7 3
  pub too_wide : IsRefused "18446744073709551615" 0 kinds.NumberTooWide
  pub far_too_wide : IsRefused "18446744073709551616u" 0 kinds.NumberTooWide
  pub mixed_suffix : IsRefused "1lL" 0 kinds.UnexpectedToken
  pub no_digits : IsRefused "0x" 0 kinds.UnexpectedToken
  pub no_octal : IsRefused " 08" 1 kinds.UnexpectedToken
  pub point : IsRefused "1." 0 (kinds.OutsideSubset 2)
  pub point_first : IsRefused ".5" 0 (kinds.OutsideSubset 2)
  pub exponent : IsRefused "1e+5" 0 (kinds.OutsideSubset 2)
  pub hexadecimal_exponent : IsRefused "0x1p3" 0 (kinds.OutsideSubset 2)
  pub hexadecimal_e : IsRefused "0x1e+3" 0 kinds.UnexpectedToken
  -- literals
  pub char_ : HasTokens "'a'" (token (tokens.Char (num int (pos 97))) 0 3 ∷ [])
  pub char_signed : HasTokens "'\\377'" (token (tokens.Char (num int (negsuc 0))) 0 6 ∷ [])
  pub char_escape : HasTokens "'\\''" (token (tokens.Char (num int (pos 39))) 0 4 ∷ [])
  pub char_wide : IsRefused "'\\400'" 0 kinds.NumberTooWide
  pub char_hex_wide : IsRefused "'\\x100'" 0 kinds.NumberTooWide
  pub char_empty : IsRefused "''" 0 kinds.UnexpectedToken
  pub char_two : IsRefused "'ab'" 0 kinds.UnexpectedToken
  pub char_least : IsRefused "'\\q\\400'" 0 kinds.NumberTooWide
  pub char_line : IsRefused "'a\n'" 0 kinds.OpenLiteral
  pub string_ : HasTokens "\"a\\\"'\\n\"x" (token tokens.Text 0 8 ∷ token tokens.Name 8 9 ∷ [])
  pub string_open : IsRefused "\"a\\\"b" 0 kinds.OpenLiteral
  pub string_escape : IsRefused "\"\\8\"" 0 kinds.UnexpectedToken
  pub string_hex : IsRefused "\"\\xg\"" 0 kinds.UnexpectedToken
  -- directives
  pub include_ : HasTokens " #  include<stdio.h> // it\na" (token tokens.Name 27 28 ∷ [])
  pub include_other : IsRefused "#include <math.h>" 0 (kinds.OutsideSubset 1)
  pub define_ : HasTokens "A\n#define A 0x10u \nA" (token tokens.Name 0 1 ∷ token (tokens.Int (num unsigned_int (pos 16))) 19 20 ∷ [])
  pub define_comment : IsRefused "\n#define A 1 /* */" 1 (kinds.OutsideSubset 1)
  pub define_twice : IsRefused "#define A 1\n#define A 1" 12 kinds.DoubleName
  pub define_word : IsRefused "#define int 1" 0 kinds.UnexpectedToken
  pub define_library : IsRefused "#define thrd_error 1" 0 kinds.UnexpectedToken
  pub define_calloc : IsRefused "#define calloc 1" 0 kinds.UnexpectedToken
  pub define_realloc : IsRefused "#define realloc 1" 0 kinds.UnexpectedToken
  pub define_atomic : IsRefused "#define atomic_compare_exchange_weak 1" 0 kinds.UnexpectedToken
  pub define_atomic_type : HasTokens "#define atomic_int 1\natomic_int" (token (tokens.Int (num int (pos 1))) 21 31 ∷ [])
  pub define_wide : IsRefused "#define A 18446744073709551616" 10 kinds.NumberTooWide
  pub define_float : IsRefused "#define A 1." 0 (kinds.OutsideSubset 1)
  pub directive_other : IsRefused "#if 1" 0 (kinds.OutsideSubset 1)
  pub hash_late : IsRefused "a #" 2 kinds.BadByte
  pub hash_after_comment : IsRefused "/* */#define A 1" 5 kinds.BadByte
  pub bad : IsRefused "a@" 1 kinds.BadByte

pub rows : Rows
unfolding word_text all_words word_of mark_text longest_marks_first mark_of library_names is_taken base_of suffix_of constant_of no_constant number_of simple_escapes byte_of_value octal_escape hex_escape escape character_at string_of char_value char_of headers is_line_end is_header is_include has_form define_of directive_named directive_of begins_number start_of item_at defined wrapped_value residue
rows = record {
  nothing = refl;
  names_and_marks = refl;
  shifts = refl;
  longer_name = refl;
  line_comment = refl;
  block_comment = refl;
  open_comment = refl;
  zero_ = refl;
  most_int = refl;
  decimal_long = refl;
  hexadecimal_unsigned = refl;
  octal = refl;
  unsigned_suffix = refl;
  hexadecimal_most = refl;
  both_suffixes = refl;
  long_suffix = refl;
  too_wide = refl;
  far_too_wide = refl;
  mixed_suffix = refl;
  no_digits = refl;
  no_octal = refl;
  point = refl;
  point_first = refl;
  exponent = refl;
  hexadecimal_exponent = refl;
  hexadecimal_e = refl;
  char_ = refl;
  char_signed = refl;
  char_escape = refl;
  char_wide = refl;
  char_hex_wide = refl;
  char_empty = refl;
  char_two = refl;
  char_least = refl;
  char_line = refl;
  string_ = refl;
  string_open = refl;
  string_escape = refl;
  string_hex = refl;
  include_ = refl;
  include_other = refl;
  define_ = refl;
  define_comment = refl;
  define_twice = refl;
  define_word = refl;
  define_library = refl;
  define_calloc = refl;
  define_realloc = refl;
  define_atomic = refl;
  define_atomic_type = refl;
  define_wide = refl;
  define_float = refl;
  directive_other = refl;
  hash_late = refl;
  hash_after_comment = refl;
  bad = refl;
}
