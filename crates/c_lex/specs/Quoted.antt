-- Character constants and string literals (C11 6.4.4.4, 6.4.5).
use Rattle.std.specs.Prelude.{ℕ, zero, suc, ◌+◌, ◌-◌, ◌==◌, nat_le, min, pos, Bool, true, false, ◌&&◌, not, if◌then◌else◌, List, [], ◌∷◌, take, Option, Some, None, Result, Ok, Err}
use Rattle.std.specs.List.{prefix_len, list_any}
use Rattle.std.specs.Map.{lookup}
use Rattle.std.specs.Str.Parse.{digits_value}
use Rattle.ak_words.specs.declared.number.Num.{Num}
use Rattle.ak_words.specs.IntType.{int, char}
use Rattle.ak_words.specs.Num.{num}
use Rattle.c_lex.specs.declared.refusal.Kind.{Kind}
use Rattle.c_lex.specs.declared.refusal.Kind.TheVariants as kinds
use Rattle.c_lex.specs.declared.quoted.Character.{Character}
use Rattle.c_lex.specs.declared.quoted.Character.TheVariants as characters
use Rattle.c_lex.specs.declared.quoted.Spelled.{Spelled}
use Rattle.c_lex.specs.Bytes.{is_octal_digit, is_hex_digit}

-- how many bytes stand before the closing quote, if it comes before the line ends; a byte behind a backslash is hidden.
-- So many stood before these bytes already
abbrev pub closing : (quote : ℕ) → (hidden : Bool) → (before : ℕ) → List ℕ → Option ℕ
closing quote hidden before [] = None
closing quote hidden before (byte ∷ bytes) =
    if byte == 10 then None
    else (if byte == quote && not hidden then Some before
    else closing quote (byte == 92 && not hidden) (1 + before) bytes)

-- ---- what stands between the quotes

-- the letter behind the backslash of a simple escape, and the byte that the escape stands for
unfoldable pub simple_escapes : List (ℕ × ℕ)
simple_escapes = (110, 10) ∷ (116, 9) ∷ (114, 13) ∷ (97, 7) ∷ (98, 8) ∷ (102, 12) ∷ (118, 11) ∷ (92, 92) ∷ (39, 39) ∷ (34, 34) ∷ (63, 63) ∷ []

-- a byte by its value
unfoldable pub byte_of_value : ℕ → Character
byte_of_value value = if nat_le value 255 then characters.Byte value else characters.TooWide

-- a character and how many bytes spell it
abbrev pub spelled : Character → ℕ → Spelled
spelled character len = record { character = character; len = len }

-- one to three octal digits
unfoldable pub octal_escape : List ℕ → Spelled
octal_escape bytes =
    let len = min (prefix_len is_octal_digit bytes) 3 in
    spelled (byte_of_value (digits_value 8 (take len bytes))) (1 + len)

-- hexadecimal digits behind the x, one or more
unfoldable pub hex_escape : List ℕ → Spelled
hex_escape bytes =
    let len = prefix_len is_hex_digit bytes in
    if len == 0 then spelled characters.Unknown 2 else spelled (byte_of_value (digits_value 16 (take len bytes))) (2 + len)

-- a simple escape, if the letter has one
abbrev pub simple_escape : Option ℕ → Spelled
simple_escape None = spelled characters.Unknown 2
simple_escape (Some value) = spelled (characters.Byte value) 2

-- what an escape stands for, by the bytes behind its backslash
unfoldable pub escape : List ℕ → Spelled
escape [] = spelled characters.Unknown 1
escape (byte ∷ bytes) =
    if is_octal_digit byte then octal_escape (byte ∷ bytes)
    else (if byte == 120 then hex_escape bytes else simple_escape (lookup (λ letter. letter == byte) simple_escapes))

-- what the bytes begin with: an escape, or a byte that stands for itself
unfoldable pub character_at : List ℕ → Spelled
character_at [] = spelled characters.Unknown 1
character_at (byte ∷ bytes) = if byte == 92 then escape bytes else spelled (characters.Byte byte) 1

-- all characters, one behind the other; the bytes that the last one still takes are passed over
abbrev pub characters_of : (passed_over : ℕ) → List ℕ → List Character
characters_of passed_over [] = []
characters_of (suc n) (byte ∷ bytes) = characters_of n bytes
characters_of zero (byte ∷ bytes) =
    let next = character_at (byte ∷ bytes) in next.character ∷ characters_of (next.len - 1) bytes

-- ---- what the literal stands for

-- an octal or hexadecimal escape with a value that no byte has (C11 6.4.4.4p9)
abbrev pub is_too_wide : Character → Bool
is_too_wide (characters.Byte byte) = false
is_too_wide characters.TooWide = true
is_too_wide characters.Unknown = false

-- an escape that is none of C11 6.4.4.4p1
abbrev pub is_unknown : Character → Bool
is_unknown (characters.Byte byte) = false
is_unknown characters.TooWide = false
is_unknown characters.Unknown = true

-- the bytes of characters
abbrev pub bytes_of : List Character → List ℕ
bytes_of [] = []
bytes_of (characters.Byte byte ∷ rest) = byte ∷ bytes_of rest
bytes_of (characters.TooWide ∷ rest) = bytes_of rest
bytes_of (characters.Unknown ∷ rest) = bytes_of rest

-- the bytes that characters stand for: a value above 255 refuses the literal first, and then an escape that there isn't
abbrev pub bytes_or_kind : List Character → Result (List ℕ) Kind
bytes_or_kind all =
    if list_any is_too_wide all then Err kinds.NumberTooWide
    else (if list_any is_unknown all then Err kinds.UnexpectedToken else Ok (bytes_of all))

-- the bytes that a string stands for, by the bytes between its quotes
unfoldable pub string_of : List ℕ → Result (List ℕ) Kind
string_of body = bytes_or_kind (characters_of 0 body)

-- the value of a character constant: its byte as a char, as an int
unfoldable pub char_value : ℕ → Num
char_value byte = num int (num char (pos byte)).value

-- there is one byte and no more
abbrev pub one_char : Result (List ℕ) Kind → Result Num Kind
one_char (Err kind) = Err kind
one_char (Ok []) = Err kinds.UnexpectedToken
one_char (Ok (byte ∷ [])) = Ok (char_value byte)
one_char (Ok (byte ∷ other ∷ bytes)) = Err kinds.UnexpectedToken

-- the value of a character constant, by the bytes between its quotes
unfoldable pub char_of : List ℕ → Result Num Kind
char_of body = one_char (string_of body)
