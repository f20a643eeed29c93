-- The strings among a text's tokens.
use Rattle.std.proofs.Common.{◌≡◌, ℕ, ◌+◌, ◌-◌, ◌≤◌, List, [], ◌∷◌, length, take, drop, Contains, Ok, sym, ap, subst, ◌∙◌, inl, inr, arith}
use Rattle.std.specs.List.{slice_range}
use Rattle.std.proofs.lemmas.List.{drop-drop}
use Rattle.std.proofs.lemmas.List.Elements.{Contains-append_cases}
use Rattle.c_lex.specs.declared.token.Token.{Token}
use Rattle.c_lex.specs.declared.token.TokenKind.{TokenKind}
use Rattle.c_lex.specs.declared.token.TokenKind.TheVariants as tokens
use Rattle.c_lex.specs.declared.item.Item.{Item}
use Rattle.c_lex.specs.declared.item.Item.TheVariants as items
use Rattle.c_lex.specs.Quoted.{string_of, bytes_of, characters_of}
use Rattle.c_lex.specs.Items.{found, start_of, item_from, item_at}
use Rattle.c_lex.specs.Tokens.{end_of, IsStringOf, literal_of}
use Rattle.c_lex.proofs.Characters.{bytes_or_kind-Ok}
use Rattle.c_lex.proofs.TokenForms.{form_of, text_of}
use Rattle.c_lex.proofs.Chains.{IsOfKind, TokenAt, tokens_stand, stands_at, only_end}

-- a string's place, and its bytes
pub record IsString (text : List ℕ) (t : Token) : Type 0 where
  pub long : t.from + 2 ≤ t.to
  pub within : t.to ≤ length text
  pub value : literal_of text t ≡ Ok (bytes_of (characters_of 0 (slice_range text (t.from + 1) (t.to - 1))))

-- what gives a string is one
text_item : (item : Item) (kind : TokenKind) → IsOfKind item kind → kind ≡ tokens.Text → item ≡ items.Token tokens.Text
text_item items.Blank kind of is = absurd of
text_item items.Name kind (inl name) is = absurd cc
text_item items.Name kind (inr (n, int)) is = absurd cc
text_item (items.Token k) kind of is = ap items.Token (sym of ∙ is)
text_item (items.Define d) kind of is = absurd of
text_item (items.Fault k) kind of is = absurd of

string_at : (text : List ℕ) (t : Token) → TokenAt text 0 t → t.kind ≡ tokens.Text → IsString text t
unfolding item_at string_of
string_at text t stands is =
    let piece = stands.piece in
    let item = text_item stands.item t.kind stands.kind is in
    let bytes = drop t.from text in
    let here : item_from (start_of piece.start bytes) bytes ≡ found (items.Token tokens.Text) (t.to - t.from) = piece.there ∙ ap (λ i. found i (t.to - t.from)) item in
    let form = text_of (start_of piece.start bytes) bytes (t.to - t.from) (form_of (start_of piece.start bytes) bytes (items.Token tokens.Text) (t.to - t.from) here tt) in
    let goes = form.goes in
    let long = piece.long in
    let inside : form.inside ≡ t.to - 1 - (t.from + 1) = omega arith in
    let body : take form.inside (drop 1 bytes) ≡ slice_range text (t.from + 1) (t.to - 1) =
    ap (λ n. take n (drop 1 bytes)) inside ∙ ap (take (t.to - 1 - (t.from + 1))) (drop-drop 1 t.from text) in
    let value = sym (ap string_of body) ∙ form.stands in
    record { long = omega arith; within = piece.within; value = value ∙ ap (λ v. Ok v) (bytes_or_kind-Ok (characters_of 0 (slice_range text (t.from + 1) (t.to - 1))) form.value value) }

-- a string of a text stands in it
pub string_stands : (text : List ℕ) (t : Token) → IsStringOf text t → IsString text t
string_stands text t (all, are, among, is) =
    let P : List Token → Type 0 = λ us. Contains us t in
    elim (Contains-append_cases are.0 (end_of text ∷ []) t (subst P are.1 among)) as (λ _. IsString text t) [
      | inl here ↦ string_at text t (stands_at text 0 are.0 here.0 t (tokens_stand text are.0 are.2) here.1 here.2) is
      | inr last ↦ let end = ap (λ (u : Token). u.kind) (only_end (end_of text) t last.0 last.1 last.2) in absurd cc
    ]
