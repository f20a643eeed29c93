-- What the tokens of a text are, and what refuses it (C11 6.4).
use Rattle.std.specs.Prelude.{◌≡◌, ℕ, zero, suc, ◌+◌, ◌-◌, ◌==◌, nat_le, Bool, true, ◌&&◌, ◌||◌, if◌then◌else◌, List, [], ◌∷◌, ◌++◌, length, Contains, Option, Some, None, Result, Ok, Err}
use Rattle.std.specs.List.{slice_range}
use Rattle.std.specs.Map.{lookup}
use Rattle.std.specs.Option.{is_some}
use Rattle.std.specs.Str.{bytes_eq}
use Rattle.ak_words.specs.declared.number.Num.{Num}
use Rattle.c_lex.specs.declared.refusal.Kind.{Kind}
use Rattle.c_lex.specs.declared.refusal.Kind.TheVariants as kinds
use Rattle.c_lex.specs.declared.refusal.Refusal.{Refusal}
use Rattle.c_lex.specs.declared.token.TokenKind.{TokenKind}
use Rattle.c_lex.specs.declared.token.TokenKind.TheVariants as tokens
use Rattle.c_lex.specs.declared.token.Token.{Token}
use Rattle.c_lex.specs.declared.item.Item.{Item}
use Rattle.c_lex.specs.declared.item.Item.TheVariants as items
use Rattle.c_lex.specs.declared.directive.Define.{Define}
use Rattle.c_lex.specs.Bytes.{is_white}
use Rattle.c_lex.specs.Spellings.{is_taken}
use Rattle.c_lex.specs.Quoted.{string_of}
use Rattle.c_lex.specs.Items.{item_at}

-- ---- the text from item to item

-- an item, with the place where it begins and the place where it ends
abbrev pub Piece : Type 0
Piece = ℕ × ℕ × Item

-- whether nothing but white space stands on the line, behind a byte
abbrev pub stays_line_start : Bool → ℕ → Bool
stays_line_start is_line_start byte = byte == 10 || is_white byte && is_line_start

-- the items one behind the other, from a place on; the bytes that the last one still takes are passed over
abbrev pub pieces : (is_line_start : Bool) → (place passed_over : ℕ) → List ℕ → List Piece
pieces is_line_start place passed_over [] = []
pieces is_line_start place (suc n) (byte ∷ bytes) = pieces is_line_start (1 + place) n bytes
pieces is_line_start place zero (byte ∷ bytes) =
    let next = item_at is_line_start (byte ∷ bytes) in
    (place, place + next.len, next.item) ∷ pieces (stays_line_start is_line_start byte) (1 + place) (next.len - 1) bytes

-- the items of a whole text
abbrev pub pieces_of : List ℕ → List Piece
pieces_of text = pieces true 0 0 text

-- ---- the tokens

-- the names that #define made stand for numbers so far
abbrev pub Names : Type 0
Names = List (List ℕ × Num)

-- how many there may be
abbrev pub most_names : ℕ
most_names = 1024

-- a refusal
abbrev pub refusal : ℕ → Kind → Refusal
refusal place kind = record { place = place; kind = kind }

-- a token
abbrev pub token : TokenKind → ℕ → ℕ → Token
token kind from to = record { kind = kind; from = from; to = to }

-- a name is the constant that it was defined as, and else a name of the program's own
abbrev pub named : Option Num → TokenKind
named None = tokens.Name
named (Some n) = tokens.Int n

-- the number of a define, or where no type holds it the refusal at its place
abbrev pub in_a_type : (place : ℕ) → Option Num → Result Num Refusal
in_a_type place None = Err (refusal place kinds.NumberTooWide)
in_a_type place (Some n) = Ok n

-- the number that a #define at a place makes its name stand for, or what refuses it
unfoldable pub defined : List ℕ → Names → (place : ℕ) → Define → Result Num Refusal
defined text names place d =
    let name = slice_range text (place + d.name_from) (place + d.name_to) in
    if is_taken name then Err (refusal place kinds.UnexpectedToken)
    else (if is_some (lookup (bytes_eq name) names) then Err (refusal place kinds.DoubleName)
    else (if nat_le most_names (length names) then Err (refusal (place + d.name_from) (kinds.TooMany 10))
    else in_a_type (place + d.number_from) d.value))

-- a token before others
abbrev pub with_token : Token → Result (List Token) Refusal → Result (List Token) Refusal
with_token t (Ok ts) = Ok (t ∷ ts)
with_token t (Err r) = Err r

-- what follows a #define where it stands for a number
abbrev pub after_define : Result Num Refusal → (Num → Result (List Token) Refusal) → Result (List Token) Refusal
after_define (Ok n) rest = rest n
after_define (Err r) rest = Err r

-- the tokens that the items make, where these names are defined; or the first refusal
abbrev pub reading : (text : List ℕ) → Names → List Piece → Result (List Token) Refusal
reading text names [] = Ok []
reading text names ((from, to, items.Blank) ∷ rest) = reading text names rest
reading text names ((from, to, items.Name) ∷ rest) =
    with_token (token (named (lookup (bytes_eq (slice_range text from to)) names)) from to) (reading text names rest)
reading text names ((from, to, items.Token kind) ∷ rest) = with_token (token kind from to) (reading text names rest)
reading text names ((from, to, items.Define d) ∷ rest) =
    after_define (defined text names from d) (λ n. reading text (names ++ (slice_range text (from + d.name_from) (from + d.name_to), n) ∷ []) rest)
reading text names ((from, to, items.Fault kind) ∷ rest) = Err (refusal from kind)

-- the tokens of a text but for its end, or its refusal
abbrev pub reading_of : List ℕ → Result (List Token) Refusal
reading_of text = reading text [] (pieces_of text)

-- the token that ends a text
abbrev pub end_of : List ℕ → Token
end_of text = token tokens.End (length text) (length text)

-- these are the tokens of the text, with its end as the last
abbrev pub AreTokens : List ℕ → List Token → Type 0
AreTokens text all = (front : List Token) × (all ≡ front ++ end_of text ∷ []) × (reading_of text ≡ Ok front)

-- ---- what a string stands for

-- the token is a string of the text
abbrev pub IsStringOf : List ℕ → Token → Type 0
IsStringOf text t = (all : List Token) × AreTokens text all × Contains all t × (t.kind ≡ tokens.Text)

-- the bytes that a string stands for: those between its quotes, with each escape as one byte
abbrev pub literal_of : List ℕ → Token → Result (List ℕ) Kind
literal_of text t = string_of (slice_range text (t.from + 1) (t.to - 1))
