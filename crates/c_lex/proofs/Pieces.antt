-- The items of a text, one behind the other.
use Rattle.std.proofs.Common.{◌≡◌, ℕ, zero, suc, ◌+◌, ◌-◌, ◌<◌, ◌≤◌, List, [], ◌∷◌, ◌++◌, length, drop, get_or, Bool, Result, Ok, Err, refl, sym, ap, ◌∙◌, arith, append_assoc}
use Rattle.std.proofs.lemmas.List.{drop-drop, drop_all, drop_more}
use Rattle.c_lex.specs.declared.refusal.Refusal.{Refusal}
use Rattle.c_lex.specs.declared.item.Found.{Found}
use Rattle.c_lex.specs.declared.token.Token.{Token}
use Rattle.c_lex.specs.Items.{item_at}
use Rattle.c_lex.specs.Tokens.{Piece, pieces, stays_line_start, with_token, reading_of}
use Rattle.c_lex.specs.Refusals.{RefusesText}
use Rattle.c_lex.specs.declared.refusal.CompileFault.{CompileFault}
use Rattle.c_lex.specs.declared.refusal.CompileFault.TheVariants as faults
use Rattle.c_lex.specs.declared.lexer.Lexer.{Lexer}
use Rattle.c_lex.specs.inner.Lexing.{joined, outcome, HasRefused}
use Rattle.c_lex.proofs.Characters.{drop_tail}

-- bytes that are passed over
pieces_passed : (start : Bool) (place n : ℕ) (bytes : List ℕ) → pieces start place n bytes ≡ pieces start (place + n) 0 (drop n bytes)
pieces_passed start place zero bytes = let e : place + 0 ≡ place = omega arith in rw e refl
pieces_passed start place (suc n) [] = refl
pieces_passed start place (suc n) (byte ∷ bytes) =
    let e : (1 + place) + n ≡ place + suc n = omega arith in
    pieces_passed start (1 + place) n bytes ∙ ap (λ p. pieces start p 0 (drop n bytes)) e

-- the first item and the rest
pieces_first : (start : Bool) (place : ℕ) (byte : ℕ) (bytes : List ℕ) (next : Found) → next ≡ item_at start (byte ∷ bytes) → 0 < next.len
    → pieces start place 0 (byte ∷ bytes) ≡ (place, place + next.len, next.item) ∷ pieces (stays_line_start start byte) (place + next.len) 0 (drop next.len (byte ∷ bytes))
pieces_first start place byte bytes next is long =
    let e : (1 + place) + (next.len - 1) ≡ place + next.len = omega arith in
    rw (← is) (ap (λ rest. (place, place + next.len, next.item) ∷ rest)
    (pieces_passed (stays_line_start start byte) (1 + place) (next.len - 1) bytes
    ∙ ap (λ p. pieces (stays_line_start start byte) p 0 (drop (next.len - 1) bytes)) e
    ∙ ap (pieces (stays_line_start start byte) (place + next.len) 0) (drop_tail next.len byte bytes long)))

-- the same at a place of the text
pub pieces_at : (text : List ℕ) (start after : Bool) (place : ℕ) (next : Found) → place < length text → after ≡ stays_line_start start (get_or text place 0) → next ≡ item_at start (drop place text) → 0 < next.len
    → pieces start place 0 (drop place text) ≡ (place, place + next.len, next.item) ∷ pieces after (place + next.len) 0 (drop (place + next.len) text)
pieces_at text start after place next lt stays is long =
    let cut = drop_more text place 0 lt in
    let first = pieces_first start place (get_or text place 0) (drop (place + 1) text) next (is ∙ ap (item_at start) cut) long in
    ap (pieces start place 0) cut ∙ first
    ∙ ap (λ b. (place, place + next.len, next.item) ∷ pieces b (place + next.len) 0 (drop next.len (get_or text place 0 ∷ drop (place + 1) text))) (sym stays)
    ∙ ap (λ rest. (place, place + next.len, next.item) ∷ pieces after (place + next.len) 0 rest) (ap (drop next.len) (sym cut) ∙ drop-drop next.len place text)

-- no items stand behind the end
pub pieces-none : (text : List ℕ) (start : Bool) (place : ℕ) → length text ≤ place → pieces start place 0 (drop place text) ≡ []
pieces-none text start place le = rw drop_all refl

-- tokens that were taken stand before those that follow
pub joined-with_token : (front : List Token) (t : Token) (r : Result (List Token) Refusal) → joined front (with_token t r) ≡ joined (front ++ t ∷ []) r
joined-with_token front t (Ok tokens) = ap (λ ts. Ok ts) (sym (append_assoc front (t ∷ []) tokens))
joined-with_token front t (Err r) = refl

-- P of the refusal, if the fault is one
abbrev pub RefusedBy : CompileFault → (Refusal → Type 0) → Type 0
RefusedBy (faults.Refused r) P = P r
RefusedBy faults.NoMemory P = Unit {0}

-- an item that refuses the text where the lexer stands
pub refused_there : (text : List ℕ) (lexer : Lexer) (piece : Piece) (rest : List Piece) (fault : CompileFault) → outcome lexer (piece ∷ rest) ≡ reading_of text
    → RefusedBy fault (HasRefused lexer piece) → RefusedBy fault (RefusesText text)
refused_there text lexer piece rest (faults.Refused r) is refused = sym is ∙ refused rest
refused_there text lexer piece rest faults.NoMemory is refused = tt
