-- How the lexer goes on from item to item.
use Rattle.std.specs.Prelude.{◌≡◌, ℕ, List, ◌∷◌, ◌++◌, map, Result, Ok, Err}
use Rattle.std.specs.Borrow.{Bor}
use Rattle.ak_words.specs.declared.number.Num.{Num}
use Rattle.c_lex.specs.declared.refusal.Refusal.{Refusal}
use Rattle.c_lex.specs.declared.token.Token.{Token}
use Rattle.c_lex.specs.declared.lexer.Names.{Names as NameMap}
use Rattle.c_lex.specs.declared.lexer.Lexer.{Lexer}
use Rattle.c_lex.specs.Tokens.{Names, Piece, reading}

-- an entry of the map of names: the bytes of the name, and its number
abbrev pub entry_of : Bor (List ℕ) × Num → List ℕ × Num
entry_of e = (e.0.now, e.1)

-- the names that the map has, in order
abbrev pub names_in : NameMap → Names
names_in names = map entry_of names.numbers.entries

-- tokens before those of an outcome
abbrev pub joined : List Token → Result (List Token) Refusal → Result (List Token) Refusal
joined front (Ok tokens) = Ok (front ++ tokens)
joined front (Err r) = Err r

-- what comes of a text where the lexer stands, with these items still to come
abbrev pub outcome : Lexer → List Piece → Result (List Token) Refusal
outcome lexer rest = joined lexer.tokens.items (reading lexer.names.text.now (names_in lexer.names) rest)

-- the lexer has taken the item: what comes of it and the rest comes of the rest now
abbrev pub HasTaken : Lexer → Piece → Lexer → Type 0
HasTaken old piece new = (rest : List Piece) → outcome old (piece ∷ rest) ≡ outcome new rest

-- the item refuses the text
abbrev pub HasRefused : Lexer → Piece → Refusal → Type 0
HasRefused old piece r = (rest : List Piece) → outcome old (piece ∷ rest) ≡ Err r
