-- Items and tokens, one behind the other, each where it stands.
use Rattle.std.proofs.Common.{◌≡◌, ℕ, zero, suc, ◌+◌, ◌-◌, ◌<◌, ◌≤◌, List, [], ◌∷◌, ◌++◌, length, drop, get_or, Bool, true, Option, Some, None, Result, Ok, Err, refl, sym, ap, subst, ◌∙◌, ◌⊎◌, inl, inr, arith}
use Rattle.std.proofs.lemmas.List.{drop-drop, length-drop}
use Rattle.std.specs.List.{slice_range}
use Rattle.std.specs.Map.{lookup}
use Rattle.std.specs.Str.{bytes_eq}
use Rattle.ak_words.specs.declared.number.Num.{Num}
use Rattle.c_lex.specs.declared.refusal.Refusal.{Refusal}
use Rattle.c_lex.specs.declared.token.TokenKind.{TokenKind}
use Rattle.c_lex.specs.declared.token.TokenKind.TheVariants as tokens
use Rattle.c_lex.specs.declared.token.Token.{Token}
use Rattle.c_lex.specs.declared.item.Item.{Item}
use Rattle.c_lex.specs.declared.item.Item.TheVariants as items
use Rattle.c_lex.specs.Items.{found, item_at}
use Rattle.c_lex.specs.Tokens.{Piece, Names, pieces, pieces_of, stays_line_start, named, token, with_token, after_define, defined, reading, reading_of}
use Rattle.c_lex.proofs.Lengths.{item-bounds}

-- ---- items

-- an item stands at its place, behind another
pub record PieceAt (text : List ℕ) (from a b : ℕ) (item : Item) : Type 0 where
  pub later : from ≤ a
  pub long : a < b
  pub within : b ≤ length text
  pub start : Bool
  pub there : item_at start (drop a text) ≡ found item (b - a)

abbrev pub PiecesFrom : List ℕ → ℕ → List Piece → Type 0
PiecesFrom text from [] = Unit {0}
PiecesFrom text from ((a, b, item) ∷ rest) = PieceAt text from a b item × PiecesFrom text b rest

-- the first of them
piece_first : (text : List ℕ) (start : Bool) (place byte : ℕ) (bytes : List ℕ) → byte ∷ bytes ≡ drop place text
    → PieceAt text (place + 0) place (place + (item_at start (byte ∷ bytes)).len) (item_at start (byte ∷ bytes)).item
piece_first text start place byte bytes is =
    let next = item_at start (byte ∷ bytes) in
    let bounds = item-bounds start (byte ∷ bytes) (omega arith) in
    let bounds0 = bounds.0 in
    let long = ap length is in
    record {
      later = omega arith;
      long = omega arith;
      within = omega (arith, bounds.1, length-drop place text);
      start = start;
      there = ap (item_at start) (sym is) ∙ (let e : next.len ≡ place + next.len - place = omega arith in ap (found next.item) e);
    }

-- the bytes behind the first
behind : (text : List ℕ) (place byte : ℕ) (bytes : List ℕ) → byte ∷ bytes ≡ drop place text → bytes ≡ drop (1 + place) text
behind text place byte bytes is = ap (drop 1) is ∙ drop-drop 1 place text ∙ (let e : place + 1 ≡ 1 + place = omega arith in ap (λ n. drop n text) e)

pub pieces_from : (text : List ℕ) (start : Bool) (place n : ℕ) (bytes : List ℕ) → bytes ≡ drop place text → PiecesFrom text (place + n) (pieces start place n bytes)
pieces_from text start place n [] is = tt
pieces_from text start place (suc n) (byte ∷ bytes) is =
    let e : (1 + place) + n ≡ place + suc n = omega arith in
    subst (λ from. PiecesFrom text from (pieces start (1 + place) n bytes)) e (pieces_from text start (1 + place) n bytes (behind text place byte bytes is))
pieces_from text start place zero (byte ∷ bytes) is =
    let next = item_at start (byte ∷ bytes) in
    let bounds = (item-bounds start (byte ∷ bytes) (omega arith)).0 in
    let e : (1 + place) + (next.len - 1) ≡ place + next.len = omega arith in (
      piece_first text start place byte bytes is,
      subst (λ from. PiecesFrom text from (pieces (stays_line_start start byte) (1 + place) (next.len - 1) bytes)) e
          (pieces_from text (stays_line_start start byte) (1 + place) (next.len - 1) bytes (behind text place byte bytes is)),
    )

-- ---- tokens

-- the kind that an item gives its token
abbrev pub IsOfKind : Item → TokenKind → Type 0
IsOfKind items.Blank kind = ⊥
IsOfKind items.Name kind = (kind ≡ tokens.Name) ⊎ ((n : Num) × (kind ≡ tokens.Int n))
IsOfKind (items.Token k) kind = kind ≡ k
IsOfKind (items.Define d) kind = ⊥
IsOfKind (items.Fault k) kind = ⊥

-- a token stands at its place, behind another
pub record TokenAt (text : List ℕ) (from : ℕ) (t : Token) : Type 0 where
  pub item : Item
  pub kind : IsOfKind item t.kind
  pub piece : PieceAt text from t.from t.to item

abbrev pub TokensFrom : List ℕ → ℕ → List Token → Type 0
TokensFrom text from [] = Unit {0}
TokensFrom text from (t ∷ ts) = TokenAt text from t × TokensFrom text t.to ts

-- what stands behind a place stands behind an earlier one
earlier_piece : (text : List ℕ) (from to a b : ℕ) (item : Item) → from ≤ to → PieceAt text to a b item → PieceAt text from a b item
earlier_piece text from to a b item le p = record { later = omega (arith, p.later); long = p.long; within = p.within; start = p.start; there = p.there }

earlier : (text : List ℕ) (from to : ℕ) (ts : List Token) → from ≤ to → TokensFrom text to ts → TokensFrom text from ts
earlier text from to [] le all = tt
earlier text from to (t ∷ ts) le all = (record { item = all.0.item; kind = all.0.kind; piece = earlier_piece text from to t.from t.to all.0.item le all.0.piece }, all.1)

-- a token and what follows it
tokens_first : (text : List ℕ) (from : ℕ) (t : Token) (outcome : Result (List Token) Refusal) (front : List Token) → TokenAt text from t → with_token t outcome ≡ Ok front
    → ((ts : List Token) → outcome ≡ Ok ts → TokensFrom text t.to ts) → TokensFrom text from front
tokens_first text from t (Ok ts) front here is rest =
    let same : t ∷ ts ≡ front = cc in
    subst (TokensFrom text from) same (here, rest ts refl)
tokens_first text from t (Err r) front here is rest = absurd cc

-- what follows a define
after_first : (text : List ℕ) (from : ℕ) (number : Result Num Refusal) (next : Num → Result (List Token) Refusal) (front : List Token) → after_define number next ≡ Ok front
    → ((n : Num) → next n ≡ Ok front → TokensFrom text from front) → TokensFrom text from front
after_first text from (Ok n) next front is rest = rest n is
after_first text from (Err r) next front is rest = absurd cc

-- a name is a name or a constant
name_kind : (o : Option Num) → (named o ≡ tokens.Name) ⊎ ((n : Num) × (named o ≡ tokens.Int n))
name_kind None = inl refl
name_kind (Some n) = inr (n, refl)

pub tokens_from : (text : List ℕ) (names : Names) (from : ℕ) (ps : List Piece) (front : List Token) → PiecesFrom text from ps → reading text names ps ≡ Ok front → TokensFrom text from front
tokens_from text names from [] front all is = let same : [] ≡ front = cc in subst (TokensFrom text from) same tt
tokens_from text names from ((a, b, items.Blank) ∷ rest) front all is = earlier text from b front (omega (arith, all.0.later, all.0.long)) (tokens_from text names b rest front all.1 is)
tokens_from text names from ((a, b, items.Name) ∷ rest) front all is =
    let o = lookup (bytes_eq (slice_range text a b)) names in
    tokens_first text from (token (named o) a b) (reading text names rest) front (record { item = items.Name; kind = name_kind o; piece = all.0 }) is (λ ts e. tokens_from text names b rest ts all.1 e)
tokens_from text names from ((a, b, items.Token kind) ∷ rest) front all is =
    tokens_first text from (token kind a b) (reading text names rest) front (record { item = items.Token kind; kind = refl; piece = all.0 }) is (λ ts e. tokens_from text names b rest ts all.1 e)
tokens_from text names from ((a, b, items.Define d) ∷ rest) front all is =
    after_first text from (defined text names a d) (λ n. reading text (names ++ (slice_range text (a + d.name_from) (a + d.name_to), n) ∷ []) rest) front is
    (λ n e. earlier text from b front (omega (arith, all.0.later, all.0.long)) (tokens_from text (names ++ (slice_range text (a + d.name_from) (a + d.name_to), n) ∷ []) b rest front all.1 e))
tokens_from text names from ((a, b, items.Fault kind) ∷ rest) front all is = absurd cc

-- the tokens of a text
pub tokens_stand : (text : List ℕ) (front : List Token) → reading_of text ≡ Ok front → TokensFrom text 0 front
tokens_stand text front is = tokens_from text [] 0 (pieces_of text) front (pieces_from text true 0 0 text refl) is

-- one of them
pub stands_at : (text : List ℕ) (from : ℕ) (ts : List Token) (k : ℕ) (t : Token) → TokensFrom text from ts → k < length ts → get_or ts k t ≡ t → TokenAt text from t
stands_at text from [] k t all lt is = absurd (omega arith)
stands_at text from (u ∷ us) zero t all lt is = subst (TokenAt text from) is all.0
stands_at text from (u ∷ us) (suc k) t all lt is =
    let later = stands_at text u.to us k t all.1 (omega arith) is in
    record { item = later.item; kind = later.kind; piece = earlier_piece text from u.to t.from t.to later.item (omega (arith, all.0.piece.later, all.0.piece.long)) later.piece }

-- one alone
pub only_end : (u t : Token) (k : ℕ) → k < length (u ∷ []) → get_or (u ∷ []) k t ≡ t → u ≡ t
only_end u t zero lt is = is
only_end u t (suc k) lt is = absurd (omega arith)
