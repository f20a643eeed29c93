-- What stands where a token is.
use Rattle.std.proofs.Common.{◌≡◌, ℕ, ◌+◌, List, length, take, drop, codes, Bool, true, false, Option, Some, None, Result, Ok, Err, if◌then◌else◌, refl, sym, ap, subst, ◌∙◌}
use Rattle.std.specs.List.{slice_range}
use Rattle.std.specs.Str.{bytes_eq}
use Rattle.ak_words.specs.declared.number.Num.{Num}
use Rattle.c_lex.specs.declared.refusal.Kind.{Kind}
use Rattle.c_lex.specs.declared.refusal.Kind.TheVariants as kinds
use Rattle.c_lex.specs.declared.token.Word.{Word}
use Rattle.c_lex.specs.declared.token.Mark.{Mark}
use Rattle.c_lex.specs.declared.token.TokenKind.{TokenKind}
use Rattle.c_lex.specs.declared.token.TokenKind.TheVariants as tokens
use Rattle.c_lex.specs.declared.item.Item.{Item}
use Rattle.c_lex.specs.declared.item.Item.TheVariants as items
use Rattle.c_lex.specs.declared.item.Found.{Found}
use Rattle.c_lex.specs.declared.item.Start.{Start}
use Rattle.c_lex.specs.declared.item.Start.TheVariants as starts
use Rattle.c_lex.specs.Bytes.{is_white, is_name_byte}
use Rattle.c_lex.specs.Spellings.{word_of, mark_of, mark_text}
use Rattle.c_lex.specs.Constants.{number_len, number_of}
use Rattle.c_lex.specs.Quoted.{closing, string_of, char_of}
use Rattle.c_lex.specs.Directives.{past, is_include, has_form, defined_value, with_value, define_of, directive_named, directive_of}
use Rattle.c_lex.specs.Items.{found, block_comment, comment_len, word_or_name, number_item, char_item, char_literal, string_item, string_literal, mark_item, run, item_from}
use Rattle.c_lex.specs.Laws.{IsToken}

-- what is found where a token of a sort begins
pub record NameForm (bytes : List ℕ) (item : Item) (len : ℕ) : Type 0 where
  pub goes : len ≡ run is_name_byte bytes
  pub is : item ≡ word_or_name (word_of (take len bytes))

pub record NumberForm (bytes : List ℕ) (item : Item) (len : ℕ) : Type 0 where
  pub goes : len ≡ 1 + number_len false (drop 1 bytes)
  pub value : Num
  pub is : item ≡ items.Token (tokens.Int value)

pub record CharForm (bytes : List ℕ) (item : Item) (len : ℕ) : Type 0 where
  pub inside : ℕ
  pub closes : closing 39 false 0 (drop 1 bytes) ≡ Some inside
  pub goes : len ≡ inside + 2
  pub value : Num
  pub is : item ≡ items.Token (tokens.Char value)

pub record TextForm (bytes : List ℕ) (item : Item) (len : ℕ) : Type 0 where
  pub inside : ℕ
  pub closes : closing 34 false 0 (drop 1 bytes) ≡ Some inside
  pub goes : len ≡ inside + 2
  pub value : List ℕ
  pub stands : string_of (take inside (drop 1 bytes)) ≡ Ok value
  pub is : item ≡ items.Token tokens.Text

pub record MarkForm (bytes : List ℕ) (item : Item) (len : ℕ) : Type 0 where
  pub mark : Mark
  pub begins : mark_of bytes ≡ Some mark
  pub goes : len ≡ length (mark_text mark)
  pub is : item ≡ items.Token (tokens.Mark mark)

abbrev pub Form : Start → List ℕ → Item → ℕ → Type 0
Form starts.White bytes item len = ⊥
Form starts.LineComment bytes item len = ⊥
Form starts.BlockComment bytes item len = ⊥
Form starts.Directive bytes item len = ⊥
Form starts.Name bytes item len = NameForm bytes item len
Form starts.Number bytes item len = NumberForm bytes item len
Form starts.Char bytes item len = CharForm bytes item len
Form starts.Text bytes item len = TextForm bytes item len
Form starts.Mark bytes item len = MarkForm bytes item len

-- two findings that are one
item_is : (a b : Found) → a ≡ b → a.item ≡ b.item
item_is a b same = ap (λ (f : Found). f.item) same

len_is : (a b : Found) → a ≡ b → a.len ≡ b.len
len_is a b same = ap (λ (f : Found). f.len) same

-- an item that is a token is not one that is none
token_at : (a b : Item) → a ≡ b → IsToken b → IsToken a
token_at a b same token = let P : Item → Type 0 = IsToken in subst P (sym same) token

-- no directive is a token
value-no_token : (a b d : ℕ) (o : Option (Option Num)) → IsToken (with_value a b d o) → ⊥
value-no_token a b d None token = token
value-no_token a b d (Some value) token = token

choice-no_token : (b : Bool) (x y : Item) → (IsToken x → ⊥) → (IsToken y → ⊥) → IsToken (if b then x else y) → ⊥
choice-no_token true x y p q token = p token
choice-no_token false x y p q token = q token

-- a directive of another form
abbrev other : Item
other = items.Fault (kinds.OutsideSubset 1)

define-no_token : (line : List ℕ) (from : ℕ) → IsToken (define_of line from) → ⊥
unfolding define_of
define-no_token line from =
    let a = past is_white line from in
    let b = past is_name_byte line a in
    let d = past is_white line b in
    let e = d + number_len false (drop d line) in
    let value = defined_value (number_of (slice_range line d e)) in
    choice-no_token (has_form line a d e) (with_value a b d value) other (value-no_token a b d value) (λ token. token)

directive-no_token : (line : List ℕ) → IsToken (directive_of line) → ⊥
unfolding directive_of directive_named
directive-no_token line =
    let from = past is_white line 1 in
    let to = past is_name_byte line from in
    let name = slice_range line from to in
    choice-no_token (bytes_eq name (codes "include")) (if is_include line to then items.Blank else other) (if bytes_eq name (codes "define") then define_of line to else other)
    (choice-no_token (is_include line to) items.Blank other (λ token. token) (λ token. token))
    (choice-no_token (bytes_eq name (codes "define")) (define_of line to) other (define-no_token line to) (λ token. token))

-- nor is a comment
block-no_token : (o : Option ℕ) → IsToken (block_comment o).item → ⊥
block-no_token None token = token
block-no_token (Some n) token = token

-- ---- by sort

number_form : (bytes : List ℕ) (r : Result Num Kind) (item : Item) (len : ℕ) → number_item r (1 + number_len false (drop 1 bytes)) ≡ found item len → IsToken item → NumberForm bytes item len
number_form bytes (Ok n) item len is token = record { goes = sym (len_is _ _ is); value = n; is = sym (item_is _ _ is) }
number_form bytes (Err kind) item len is token = absurd (token_at _ _ (item_is _ _ is) token)

char_item_form : (bytes : List ℕ) (inside : ℕ) (r : Result Num Kind) (item : Item) (len : ℕ) → closing 39 false 0 (drop 1 bytes) ≡ Some inside → char_item r (inside + 2) ≡ found item len → IsToken item → CharForm bytes item len
char_item_form bytes inside (Ok n) item len closes is token = record { inside = inside; closes = closes; goes = sym (len_is _ _ is); value = n; is = sym (item_is _ _ is) }
char_item_form bytes inside (Err kind) item len closes is token = absurd (token_at _ _ (item_is _ _ is) token)

char_form : (bytes : List ℕ) (o : Option ℕ) (item : Item) (len : ℕ) → closing 39 false 0 (drop 1 bytes) ≡ o → char_literal (drop 1 bytes) o ≡ found item len → IsToken item → CharForm bytes item len
char_form bytes None item len closes is token = absurd (token_at _ _ (item_is _ _ is) token)
char_form bytes (Some inside) item len closes is token = char_item_form bytes inside (char_of (take inside (drop 1 bytes))) item len closes is token

string_item_form : (bytes : List ℕ) (inside : ℕ) (r : Result (List ℕ) Kind) (item : Item) (len : ℕ) → closing 34 false 0 (drop 1 bytes) ≡ Some inside → string_of (take inside (drop 1 bytes)) ≡ r → string_item r (inside + 2) ≡ found item len → IsToken item → TextForm bytes item len
string_item_form bytes inside (Ok value) item len closes stands is token = record { inside = inside; closes = closes; goes = sym (len_is _ _ is); value = value; stands = stands; is = sym (item_is _ _ is) }
string_item_form bytes inside (Err kind) item len closes stands is token = absurd (token_at _ _ (item_is _ _ is) token)

text_form : (bytes : List ℕ) (o : Option ℕ) (item : Item) (len : ℕ) → closing 34 false 0 (drop 1 bytes) ≡ o → string_literal (drop 1 bytes) o ≡ found item len → IsToken item → TextForm bytes item len
text_form bytes None item len closes is token = absurd (token_at _ _ (item_is _ _ is) token)
text_form bytes (Some inside) item len closes is token = string_item_form bytes inside (string_of (take inside (drop 1 bytes))) item len closes refl is token

mark_form : (bytes : List ℕ) (o : Option Mark) (item : Item) (len : ℕ) → mark_of bytes ≡ o → mark_item o ≡ found item len → IsToken item → MarkForm bytes item len
mark_form bytes None item len begins is token = absurd (token_at _ _ (item_is _ _ is) token)
mark_form bytes (Some mark) item len begins is token = record { mark = mark; begins = begins; goes = sym (len_is _ _ is); is = sym (item_is _ _ is) }

name_form : (bytes : List ℕ) (item : Item) (len : ℕ) → found (word_or_name (word_of (take (run is_name_byte bytes) bytes))) (run is_name_byte bytes) ≡ found item len → NameForm bytes item len
name_form bytes item len is =
    let goes : len ≡ run is_name_byte bytes = sym (len_is _ _ is) in
    record { goes = goes; is = sym (item_is _ _ is) ∙ ap (λ n. word_or_name (word_of (take n bytes))) (sym goes) }

-- a token that is found has the form of its sort
pub form_of : (s : Start) (bytes : List ℕ) (item : Item) (len : ℕ) → item_from s bytes ≡ found item len → IsToken item → Form s bytes item len
form_of starts.White bytes item len is token = token_at _ _ (item_is _ _ is) token
form_of starts.LineComment bytes item len is token = token_at _ _ (item_is _ _ is) token
form_of starts.BlockComment bytes item len is token = block-no_token (comment_len false 0 (drop 2 bytes)) (token_at _ _ (item_is _ _ is) token)
form_of starts.Directive bytes item len is token = directive-no_token _ (token_at _ _ (item_is _ _ is) token)
form_of starts.Name bytes item len is token = name_form bytes item len is
form_of starts.Number bytes item len is token = number_form bytes _ item len is token
form_of starts.Char bytes item len is token = char_form bytes (closing 39 false 0 (drop 1 bytes)) item len refl is token
form_of starts.Text bytes item len is token = text_form bytes (closing 34 false 0 (drop 1 bytes)) item len refl is token
form_of starts.Mark bytes item len is token = mark_form bytes (mark_of bytes) item len refl is token

-- what a token may be: never a name, nor the end
abbrev pub IsKind : TokenKind → Type 0
IsKind tokens.Name = ⊥
IsKind (tokens.Word word) = Unit {0}
IsKind (tokens.Int n) = Unit {0}
IsKind (tokens.Char n) = Unit {0}
IsKind tokens.Text = Unit {0}
IsKind (tokens.Mark mark) = Unit {0}
IsKind tokens.End = ⊥

-- a token of this kind
abbrev pub HasKind : Item → Type 0
HasKind items.Blank = ⊥
HasKind items.Name = Unit {0}
HasKind (items.Token kind) = IsKind kind
HasKind (items.Define d) = ⊥
HasKind (items.Fault kind) = ⊥

has_kind : (a b : Item) → a ≡ b → HasKind b → HasKind a
has_kind a b same token = let P : Item → Type 0 = HasKind in subst P (sym same) token

word_kind : (o : Option Word) → HasKind (word_or_name o)
word_kind None = tt
word_kind (Some word) = tt

pub kind_of : (s : Start) (bytes : List ℕ) (item : Item) (len : ℕ) → Form s bytes item len → HasKind item
kind_of starts.White bytes item len form = absurd form
kind_of starts.LineComment bytes item len form = absurd form
kind_of starts.BlockComment bytes item len form = absurd form
kind_of starts.Directive bytes item len form = absurd form
kind_of starts.Name bytes item len form = has_kind _ _ form.is (word_kind _)
kind_of starts.Number bytes item len form = has_kind _ _ form.is tt
kind_of starts.Char bytes item len form = has_kind _ _ form.is tt
kind_of starts.Text bytes item len form = has_kind _ _ form.is tt
kind_of starts.Mark bytes item len form = has_kind _ _ form.is tt

-- no word is a string
word-no_text : (o : Option Word) → word_or_name o ≡ items.Token tokens.Text → ⊥
word-no_text None is = cc
word-no_text (Some word) is = cc

-- a string has the form of strings
pub text_of : (s : Start) (bytes : List ℕ) (len : ℕ) → Form s bytes (items.Token tokens.Text) len → TextForm bytes (items.Token tokens.Text) len
text_of starts.White bytes len form = absurd form
text_of starts.LineComment bytes len form = absurd form
text_of starts.BlockComment bytes len form = absurd form
text_of starts.Directive bytes len form = absurd form
text_of starts.Name bytes len form = absurd (word-no_text _ (sym form.is))
text_of starts.Number bytes len form = let is = form.is in absurd cc
text_of starts.Char bytes len form = let is = form.is in absurd cc
text_of starts.Text bytes len form = form
text_of starts.Mark bytes len form = let is = form.is in absurd cc
