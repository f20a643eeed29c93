-- Numbers (C11 6.4.8), and which of them are integer constants, of which type (C11 6.4.4.1).
use Rattle.std.specs.Prelude.{ℕ, ◌+◌, ◌==◌, nat_eq, pos, Bool, ◌&&◌, ◌||◌, if◌then◌else◌, List, [], ◌∷◌, take, drop, codes, Option, Some, None, Result, Err}
use Rattle.std.specs.List.{prefix_len, find, list_any, starts_with}
use Rattle.std.specs.Option.{option_map, ok_or}
use Rattle.std.specs.Str.Parse.{digits_value}
use Rattle.ak_words.specs.declared.int_type.IntType.{IntType}
use Rattle.ak_words.specs.declared.number.Num.{Num}
use Rattle.ak_words.specs.IntType.{int, unsigned_int, long, unsigned_long, is_held}
use Rattle.ak_words.specs.Num.{num}
use Rattle.c_lex.specs.declared.constant.Base.{Base}
use Rattle.c_lex.specs.declared.constant.Base.TheVariants as bases
use Rattle.c_lex.specs.declared.constant.Suffix.{Suffix}
use Rattle.c_lex.specs.declared.constant.Suffix.TheVariants as suffixes
use Rattle.c_lex.specs.declared.refusal.Kind.{Kind}
use Rattle.c_lex.specs.declared.refusal.Kind.TheVariants as kinds
use Rattle.c_lex.specs.Bytes.{is_digit, is_octal_digit, is_hex_digit, is_name_byte}
use Rattle.c_lex.specs.Spellings.{is_one_of}

-- e, E, p and P
abbrev pub is_exponent : ℕ → Bool
is_exponent byte = byte == 101 || byte == 69 || byte == 112 || byte == 80

-- + and -
abbrev pub is_sign : ℕ → Bool
is_sign byte = byte == 43 || byte == 45

-- what a number goes on with: digits, letters, _ and points, and a sign directly after e, E, p or P
abbrev pub goes_on : (after_exponent : Bool) → ℕ → Bool
goes_on after_exponent byte = is_name_byte byte || byte == 46 || after_exponent && is_sign byte

-- how far a number goes
abbrev pub number_len : (after_exponent : Bool) → List ℕ → ℕ
number_len after_exponent [] = 0
number_len after_exponent (byte ∷ bytes) =
    if goes_on after_exponent byte then 1 + number_len (is_exponent byte) bytes else 0

-- ---- integer constants

-- hexadecimal after 0x or 0X, octal after another 0, and else decimal
unfoldable pub base_of : List ℕ → Base
base_of run =
    if starts_with nat_eq run (codes "0x") || starts_with nat_eq run (codes "0X") then bases.Hexadecimal
    else (if starts_with nat_eq run (codes "0") then bases.Octal else bases.Decimal)

-- how many bytes stand before the digits
abbrev pub prefix_of : Base → ℕ
prefix_of bases.Decimal = 0
prefix_of bases.Octal = 0
prefix_of bases.Hexadecimal = 2

-- how many digits there are in a base
abbrev pub radix_of : Base → ℕ
radix_of bases.Decimal = 10
radix_of bases.Octal = 8
radix_of bases.Hexadecimal = 16

-- the digits of a base
abbrev pub is_digit_of : Base → ℕ → Bool
is_digit_of bases.Decimal = is_digit
is_digit_of bases.Octal = is_octal_digit
is_digit_of bases.Hexadecimal = is_hex_digit

-- u, and l or ll, in either case, in either order; the two letters of ll are alike
unfoldable pub suffix_of : List ℕ → Option Suffix
suffix_of bytes =
    if is_one_of ([] ∷ []) bytes then Some suffixes.Plain
    else (if is_one_of (codes "u" ∷ codes "U" ∷ []) bytes then Some suffixes.Unsigned
    else (if is_one_of (codes "l" ∷ codes "L" ∷ codes "ll" ∷ codes "LL" ∷ []) bytes then Some suffixes.Long
    else (if is_one_of (codes "ul" ∷ codes "uL" ∷ codes "ull" ∷ codes "uLL" ∷ codes "Ul" ∷ codes "UL" ∷ codes "Ull" ∷ codes "ULL"
    ∷ codes "lu" ∷ codes "lU" ∷ codes "Lu" ∷ codes "LU" ∷ codes "llu" ∷ codes "llU" ∷ codes "LLu" ∷ codes "LLU" ∷ []) bytes
    then Some suffixes.UnsignedLong else None)))

-- the types that a decimal constant may have, in order (C11 6.4.4.1 p5, with long long as long)
abbrev pub decimal_types : Suffix → List IntType
decimal_types suffixes.Plain = int ∷ long ∷ []
decimal_types suffixes.Unsigned = unsigned_int ∷ unsigned_long ∷ []
decimal_types suffixes.Long = long ∷ []
decimal_types suffixes.UnsignedLong = unsigned_long ∷ []

-- the types that an octal or hexadecimal constant may have, in order
abbrev pub other_types : Suffix → List IntType
other_types suffixes.Plain = int ∷ unsigned_int ∷ long ∷ unsigned_long ∷ []
other_types suffixes.Unsigned = unsigned_int ∷ unsigned_long ∷ []
other_types suffixes.Long = long ∷ unsigned_long ∷ []
other_types suffixes.UnsignedLong = unsigned_long ∷ []

-- the types that a constant may have, in order
abbrev pub types_of : Base → Suffix → List IntType
types_of bases.Decimal suffix = decimal_types suffix
types_of bases.Octal suffix = other_types suffix
types_of bases.Hexadecimal suffix = other_types suffix

-- the value, in the first of the types that holds it
abbrev pub first_holding : List IntType → ℕ → Option Num
first_holding types value = option_map (λ t. num t (pos value)) (find (λ t. is_held t (pos value)) types)

-- what digits in a base with a suffix stand for
unfoldable pub constant_of : Base → Suffix → List ℕ → Option Num
constant_of base suffix digits = first_holding (types_of base suffix) (digits_value (radix_of base) digits)

-- whether a byte of a number that is no integer constant makes it a floating one: a point, or the exponent's letter
abbrev pub is_floating_byte : Base → ℕ → Bool
is_floating_byte bases.Decimal byte = byte == 46 || byte == 101 || byte == 69
is_floating_byte bases.Octal byte = byte == 46 || byte == 101 || byte == 69
is_floating_byte bases.Hexadecimal byte = byte == 46 || byte == 112 || byte == 80

-- why a number that is no integer constant is refused: it is a floating constant (feature 2), or no constant at all
unfoldable pub no_constant : Base → List ℕ → Kind
no_constant base run = if list_any (is_floating_byte base) run then kinds.OutsideSubset 2 else kinds.UnexpectedToken

-- so many digits, one or more, with a suffix are a constant
abbrev pub with_suffix : Base → (run : List ℕ) → (len : ℕ) → (digits : List ℕ) → Option Suffix → Result Num Kind
with_suffix base run len digits None = Err (no_constant base run)
with_suffix base run len digits (Some suffix) =
    if len == 0 then Err (no_constant base run) else ok_or (constant_of base suffix digits) kinds.NumberTooWide

-- what a number's bytes stand for, behind the prefix of its base: digits as far as they go, and then a suffix
abbrev pub number_in : Base → List ℕ → Result Num Kind
number_in base run =
    let body = drop (prefix_of base) run in
    let len = prefix_len (is_digit_of base) body in
    with_suffix base run len (take len body) (suffix_of (drop len body))

-- what a number's bytes stand for: an integer constant, or why not
unfoldable pub number_of : List ℕ → Result Num Kind
number_of run = number_in (base_of run) run
