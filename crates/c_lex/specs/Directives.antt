-- Directives (C11 6.10): six #includes, which say nothing here, and #define of an integer constant.
use Rattle.std.specs.Prelude.{ℕ, ◌+◌, ◌==◌, nat_eq, nat_lt, not, Bool, false, ◌&&◌, ◌||◌, if◌then◌else◌, List, [], ◌∷◌, length, drop, codes, Option, Some, None, Result, Ok, Err}
use Rattle.std.specs.List.{prefix_len, slice_range, starts_with}
use Rattle.std.specs.Str.{bytes_eq}
use Rattle.ak_words.specs.declared.number.Num.{Num}
use Rattle.c_lex.specs.declared.refusal.Kind.{Kind}
use Rattle.c_lex.specs.declared.refusal.Kind.TheVariants as kinds
use Rattle.c_lex.specs.declared.item.Item.{Item}
use Rattle.c_lex.specs.declared.item.Item.TheVariants as items
use Rattle.c_lex.specs.Bytes.{is_white, is_digit, is_letter, is_name_byte}
use Rattle.c_lex.specs.Spellings.{is_one_of}
use Rattle.c_lex.specs.Constants.{number_len, number_of}

-- where the bytes of a class end that stand from a place on
abbrev pub past : (ℕ → Bool) → List ℕ → ℕ → ℕ
past class bytes from = from + prefix_len class (drop from bytes)

-- the first byte, if there is one, is of the class
abbrev pub begins : (ℕ → Bool) → List ℕ → Bool
begins class [] = false
begins class (byte ∷ bytes) = class byte

-- from the place on stands white space, and then nothing or a // comment
unfoldable pub is_line_end : (line : List ℕ) → (from : ℕ) → Bool
is_line_end line from =
    let rest = drop (past is_white line from) line in
    length rest == 0 || starts_with nat_eq rest (codes "//")

-- the headers that a program may include
unfoldable pub headers : List (List ℕ)
headers = codes "<stdio.h>" ∷ codes "<stdlib.h>" ∷ codes "<string.h>" ∷ codes "<stddef.h>" ∷ codes "<threads.h>" ∷ codes "<stdatomic.h>" ∷ []

-- what may stand before the > of a header (C11 6.4.7)
abbrev pub is_before_bracket : ℕ → Bool
is_before_bracket byte = not (byte == 62)

-- a header goes from the one place to the > at the other, and then the line ends
unfoldable pub is_header : (line : List ℕ) → (from to : ℕ) → Bool
is_header line from to = nat_lt to (length line) && (is_one_of headers (slice_range line from (to + 1)) && is_line_end line (to + 1))

-- what stands behind `include` is a header
unfoldable pub is_include : (line : List ℕ) → (from : ℕ) → Bool
is_include line from =
    let header_from = past is_white line from in
    is_header line header_from (past is_before_bracket line header_from)

-- the value of a constant, which is none where no type holds it; and no constant is none at all
abbrev pub defined_value : Result Num Kind → Option (Option Num)
defined_value (Ok n) = Some (Some n)
defined_value (Err kinds.NumberTooWide) = Some None
defined_value (Err _) = None

-- the define, where the number is a constant
abbrev pub with_value : (name_from name_to number_from : ℕ) → Option (Option Num) → Item
with_value name_from name_to number_from None = items.Fault (kinds.OutsideSubset 1)
with_value name_from name_to number_from (Some value) =
    items.Define (record { name_from = name_from; name_to = name_to; number_from = number_from; value = value })

-- a letter begins the name, a digit begins the number, and behind it the line ends
unfoldable pub has_form : (line : List ℕ) → (name_from number_from number_to : ℕ) → Bool
has_form line name_from number_from number_to =
    begins is_letter (drop name_from line) && (begins is_digit (drop number_from line) && is_line_end line number_to)

-- what stands behind `define`: a name and a number
unfoldable pub define_of : (line : List ℕ) → (from : ℕ) → Item
define_of line from =
    let name_from = past is_white line from in
    let name_to = past is_name_byte line name_from in
    let number_from = past is_white line name_to in
    let number_to = number_from + number_len false (drop number_from line) in
    if has_form line name_from number_from number_to
    then with_value name_from name_to number_from (defined_value (number_of (slice_range line number_from number_to)))
    else items.Fault (kinds.OutsideSubset 1)

-- the directive whose name goes from the one place of its line to the other
unfoldable pub directive_named : (line : List ℕ) → (from to : ℕ) → Item
directive_named line from to =
    let name = slice_range line from to in
    if bytes_eq name (codes "include") then (if is_include line to then items.Blank else items.Fault (kinds.OutsideSubset 1))
    else (if bytes_eq name (codes "define") then define_of line to else items.Fault (kinds.OutsideSubset 1))

-- the directive on a line, which begins with its #; one of another form is outside the subset (feature 1)
unfoldable pub directive_of : (line : List ℕ) → Item
directive_of line =
    let from = past is_white line 1 in
    directive_named line from (past is_name_byte line from)
