-- What stands at a place of a text (C11 6.4, 6.10), by the bytes from there on.
use Rattle.std.specs.Prelude.{ℕ, ◌+◌, ◌==◌, nat_eq, Bool, false, ◌&&◌, ◌||◌, if◌then◌else◌, List, [], ◌∷◌, length, take, drop, codes, Option, Some, None, Result, Ok, Err}
use Rattle.std.specs.List.{prefix_len, starts_with}
use Rattle.ak_words.specs.declared.number.Num.{Num}
use Rattle.c_lex.specs.declared.refusal.Kind.{Kind}
use Rattle.c_lex.specs.declared.refusal.Kind.TheVariants as kinds
use Rattle.c_lex.specs.declared.token.Word.{Word}
use Rattle.c_lex.specs.declared.token.Mark.{Mark}
use Rattle.c_lex.specs.declared.token.TokenKind.TheVariants as tokens
use Rattle.c_lex.specs.declared.item.Item.{Item}
use Rattle.c_lex.specs.declared.item.Item.TheVariants as items
use Rattle.c_lex.specs.declared.item.Found.{Found}
use Rattle.c_lex.specs.declared.item.Start.{Start}
use Rattle.c_lex.specs.declared.item.Start.TheVariants as starts
use Rattle.c_lex.specs.Bytes.{is_white, is_digit, is_letter, is_name_byte, is_in_line}
use Rattle.c_lex.specs.Spellings.{word_of, mark_of, mark_text}
use Rattle.c_lex.specs.Constants.{number_len, number_of}
use Rattle.c_lex.specs.Quoted.{closing, string_of, char_of}
use Rattle.c_lex.specs.Directives.{begins, directive_of}

-- an item and how many bytes it takes
abbrev pub found : Item → ℕ → Found
found item len = record { item = item; len = len }

-- what refuses the text at this place
abbrev pub fault : Kind → Found
fault kind = found (items.Fault kind) 1

-- how many bytes a comment has behind its /*, up to the next */ with it, if there is one.
-- So many stood before these bytes already, the last of them a star or not
abbrev pub comment_len : (after_star : Bool) → (before : ℕ) → List ℕ → Option ℕ
comment_len after_star before [] = None
comment_len after_star before (byte ∷ bytes) =
    if after_star && byte == 47 then Some (1 + before) else comment_len (byte == 42) (1 + before) bytes

-- the comment, if it ends
abbrev pub block_comment : Option ℕ → Found
block_comment None = fault kinds.OpenLiteral
block_comment (Some len) = found items.Blank (2 + len)

-- a reserved word, or a name of the program's own
abbrev pub word_or_name : Option Word → Item
word_or_name None = items.Name
word_or_name (Some word) = items.Token (tokens.Word word)

-- an integer constant, or why not
abbrev pub number_item : Result Num Kind → ℕ → Found
number_item (Ok n) len = found (items.Token (tokens.Int n)) len
number_item (Err kind) len = fault kind

-- a character constant, or why not
abbrev pub char_item : Result Num Kind → ℕ → Found
char_item (Ok n) len = found (items.Token (tokens.Char n)) len
char_item (Err kind) len = fault kind

-- a character constant, by the bytes behind its opening quote and how many of them stand before the closing one
abbrev pub char_literal : List ℕ → Option ℕ → Found
char_literal bytes None = fault kinds.OpenLiteral
char_literal bytes (Some len) = char_item (char_of (take len bytes)) (len + 2)

-- a string, or why not
abbrev pub string_item : Result (List ℕ) Kind → ℕ → Found
string_item (Ok bytes) len = found (items.Token tokens.Text) len
string_item (Err kind) len = fault kind

-- a string, by the bytes behind its opening quote and how many of them stand before the closing one
abbrev pub string_literal : List ℕ → Option ℕ → Found
string_literal bytes None = fault kinds.OpenLiteral
string_literal bytes (Some len) = string_item (string_of (take len bytes)) (len + 2)

-- a mark, or a byte that begins nothing
abbrev pub mark_item : Option Mark → Found
mark_item None = fault kinds.BadByte
mark_item (Some mark) = found (items.Token (tokens.Mark mark)) (length (mark_text mark))

-- a number begins with a digit, or with a point and a digit
unfoldable pub begins_number : List ℕ → Bool
begins_number bytes = begins is_digit bytes || starts_with nat_eq bytes (codes ".") && begins is_digit (drop 1 bytes)

-- what may begin where these bytes do; a directive only where nothing but white space stands before it on its line
unfoldable pub start_of : (is_line_start : Bool) → List ℕ → Start
start_of is_line_start bytes =
    if begins is_white bytes then starts.White
    else (if starts_with nat_eq bytes (codes "//") then starts.LineComment
    else (if starts_with nat_eq bytes (codes "/*") then starts.BlockComment
    else (if is_line_start && starts_with nat_eq bytes (codes "#") then starts.Directive
    else (if begins is_letter bytes then starts.Name
    else (if begins_number bytes then starts.Number
    else (if starts_with nat_eq bytes (codes "'") then starts.Char
    else (if starts_with nat_eq bytes (codes "\"") then starts.Text else starts.Mark)))))))

-- the first byte, and all of the class that follow it
abbrev pub run : (ℕ → Bool) → List ℕ → ℕ
run class bytes = 1 + prefix_len class (drop 1 bytes)

-- what begins there, and how far it goes
abbrev pub item_from : Start → List ℕ → Found
item_from starts.White bytes = found items.Blank 1
item_from starts.LineComment bytes = found items.Blank (run is_in_line bytes)
item_from starts.BlockComment bytes = block_comment (comment_len false 0 (drop 2 bytes))
item_from starts.Directive bytes = let len = run is_in_line bytes in found (directive_of (take len bytes)) len
item_from starts.Name bytes = let len = run is_name_byte bytes in found (word_or_name (word_of (take len bytes))) len
item_from starts.Number bytes = let len = 1 + number_len false (drop 1 bytes) in number_item (number_of (take len bytes)) len
item_from starts.Char bytes = char_literal (drop 1 bytes) (closing 39 false 0 (drop 1 bytes))
item_from starts.Text bytes = string_literal (drop 1 bytes) (closing 34 false 0 (drop 1 bytes))
item_from starts.Mark bytes = mark_item (mark_of bytes)

-- what stands where these bytes begin
unfoldable pub item_at : (is_line_start : Bool) → List ℕ → Found
item_at is_line_start bytes = item_from (start_of is_line_start bytes) bytes
