-- The classes of bytes, by the names that the code gives them.
use Rattle.std.specs.Prelude.{ℕ, Bool}
use Rattle.c_lex.specs.declared.byte.Class.{Class}
use Rattle.c_lex.specs.declared.byte.Class.TheVariants as classes
use Rattle.c_lex.specs.Directives.{is_before_bracket}
use Rattle.c_lex.specs.Bytes.{is_white, is_digit, is_octal_digit, is_hex_digit, is_letter, is_name_byte, is_in_line}

-- whether a byte is of the class
abbrev pub is_in : Class → ℕ → Bool
is_in classes.White = is_white
is_in classes.Digit = is_digit
is_in classes.OctalDigit = is_octal_digit
is_in classes.HexDigit = is_hex_digit
is_in classes.Letter = is_letter
is_in classes.Name = is_name_byte
is_in classes.Line = is_in_line
is_in classes.BeforeBracket = is_before_bracket
