-- The names among a text's tokens, and that none of them is the end.
use Rattle.std.proofs.Common.{◌≡◌, ◌≢◌, ℕ, suc, ◌+◌, ◌-◌, List, [], ◌∷◌, take, drop, codes, Bool, true, false, ◌&&◌, ◌||◌, Option, Some, None, if◌then◌else◌, nat_eq, refl, sym, ap, subst, ◌∙◌, inl, inr, arith}
use Rattle.std.specs.List.{slice_range, prefix_len, list_all, starts_with, AllByRecursion}
use Rattle.c_lex.specs.declared.token.Word.{Word}
use Rattle.c_lex.specs.declared.token.Token.{Token}
use Rattle.c_lex.specs.declared.token.TokenKind.{TokenKind}
use Rattle.c_lex.specs.declared.token.TokenKind.TheVariants as tokens
use Rattle.c_lex.specs.declared.item.Item.{Item}
use Rattle.c_lex.specs.declared.item.Item.TheVariants as items
use Rattle.c_lex.specs.declared.item.Start.{Start}
use Rattle.c_lex.specs.declared.item.Start.TheVariants as starts
use Rattle.c_lex.specs.Bytes.{is_white, is_letter, is_digit, is_name_byte}
use Rattle.c_lex.specs.Spellings.{word_of}
use Rattle.c_lex.specs.Directives.{begins}
use Rattle.c_lex.specs.Items.{word_or_name, begins_number, start_of, item_at}
use Rattle.c_lex.specs.Laws.{IsToken, IsName}
use Rattle.c_lex.proofs.TokenForms.{Form, NameForm, IsKind, HasKind, form_of, kind_of}
use Rattle.c_lex.proofs.Chains.{IsOfKind, TokenAt, TokensFrom}

-- what gives a token is one
pub is_token : (item : Item) (kind : TokenKind) → IsOfKind item kind → IsToken item
is_token items.Blank kind of = of
is_token items.Name kind of = tt
is_token (items.Token k) kind of = tt
is_token (items.Define d) kind of = of
is_token (items.Fault k) kind of = of

-- the form of the token that stands there
stood : (text : List ℕ) (from : ℕ) (t : Token) (stands : TokenAt text from t)
    → Form (start_of stands.piece.start (drop t.from text)) (drop t.from text) stands.item (t.to - t.from)
unfolding item_at
stood text from t stands = form_of (start_of stands.piece.start (drop t.from text)) (drop t.from text) stands.item (t.to - t.from) stands.piece.there (is_token stands.item t.kind stands.kind)

-- ---- no token but the last is the end

no_end : (item : Item) (kind : TokenKind) → IsOfKind item kind → HasKind item → kind ≢ tokens.End
no_end items.Blank kind of has is = of
no_end items.Name kind (inl name) has is = cc
no_end items.Name kind (inr (n, int)) has is = cc
no_end (items.Token k) kind of has is = let P : TokenKind → Type 0 = IsKind in subst P (sym of ∙ is) has
no_end (items.Define d) kind of has is = of
no_end (items.Fault k) kind of has is = of

pub no_ends : (text : List ℕ) (from : ℕ) (ts : List Token) → TokensFrom text from ts → AllByRecursion (λ t. t.kind ≢ tokens.End) ts
no_ends text from [] all = tt
no_ends text from (t ∷ ts) all = (no_end all.0.item t.kind all.0.kind (kind_of _ _ _ _ (stood text from t all.0)), no_ends text t.to ts all.1)

-- ---- names

-- only a name gives a name
name_item : (item : Item) (kind : TokenKind) → IsOfKind item kind → HasKind item → kind ≡ tokens.Name → item ≡ items.Name
name_item items.Blank kind of has is = absurd of
name_item items.Name kind of has is = refl
name_item (items.Token k) kind of has is = let P : TokenKind → Type 0 = IsKind in absurd (subst P (sym of ∙ is) has)
name_item (items.Define d) kind of has is = absurd of
name_item (items.Fault k) kind of has is = absurd of

-- and it has the form of names
name_start : (s : Start) (bytes : List ℕ) (len : ℕ) → Form s bytes items.Name len → (s ≡ starts.Name) × NameForm bytes items.Name len
name_start starts.White bytes len form = absurd form
name_start starts.LineComment bytes len form = absurd form
name_start starts.BlockComment bytes len form = absurd form
name_start starts.Directive bytes len form = absurd form
name_start starts.Name bytes len form = (refl, form)
name_start starts.Number bytes len form = let is = form.is in absurd cc
name_start starts.Char bytes len form = let is = form.is in absurd cc
name_start starts.Text bytes len form = let is = form.is in absurd cc
name_start starts.Mark bytes len form = let is = form.is in absurd cc

-- where a name may begin stands a letter
letter : (white line block directive name number char text : Bool)
    → (if white then starts.White else (if line then starts.LineComment else (if block then starts.BlockComment else (if directive then starts.Directive
    else (if name then starts.Name else (if number then starts.Number else (if char then starts.Char else (if text then starts.Text else starts.Mark)))))))) ≡ starts.Name → name ≡ true
letter true line block directive name number char text is = absurd cc
letter false true block directive name number char text is = absurd cc
letter false false true directive name number char text is = absurd cc
letter false false false true name number char text is = absurd cc
letter false false false false true number char text is = refl
letter false false false false false true char text is = absurd cc
letter false false false false false false true text is = absurd cc
letter false false false false false false false true is = absurd cc
letter false false false false false false false false is = absurd cc

letter_first : (start : Bool) (bytes : List ℕ) → start_of start bytes ≡ starts.Name → begins is_letter bytes ≡ true
unfolding start_of
letter_first start bytes is =
    letter (begins is_white bytes) (starts_with nat_eq bytes (codes "//")) (starts_with nat_eq bytes (codes "/*")) (start && starts_with nat_eq bytes (codes "#"))
    (begins is_letter bytes) (begins_number bytes) (starts_with nat_eq bytes (codes "'")) (starts_with nat_eq bytes (codes "\"")) is

-- all that a run takes is of its class
all_pass : (b : Bool) (p : ℕ → Bool) (byte k : ℕ) (bytes : List ℕ) → p byte ≡ b → list_all p (take k bytes) ≡ true → list_all p (take (if b then 1 + k else 0) (byte ∷ bytes)) ≡ true
all_pass true p byte k bytes is rest = let e : 1 + k ≡ suc k = omega arith in rw (e, is) rest
all_pass false p byte k bytes is rest = refl

run-all : (p : ℕ → Bool) (bytes : List ℕ) → list_all p (take (prefix_len p bytes) bytes) ≡ true
run-all p [] = refl
run-all p (byte ∷ bytes) = all_pass (p byte) p byte (prefix_len p bytes) bytes refl (run-all p bytes)

-- a letter goes on with a name
letter_goes : (byte : ℕ) → is_letter byte ≡ true → is_name_byte byte ≡ true
letter_goes byte is = ap (λ b. b || is_digit byte) is

-- no reserved word
no_word : (o : Option Word) → items.Name ≡ word_or_name o → o ≡ None
no_word None is = refl
no_word (Some word) is = absurd cc

-- the run of a name is one
name_run : (bytes : List ℕ) (len : ℕ) → begins is_letter bytes ≡ true → NameForm bytes items.Name len → IsName (take len bytes)
name_run [] len first form = absurd cc
name_run (byte ∷ bytes) len first form =
    let k = prefix_len is_name_byte bytes in
    let e : len ≡ suc k = omega (arith, form.goes) in
    let P : ℕ → Type 0 = λ n. IsName (take n (byte ∷ bytes)) in
    let each : list_all is_name_byte (byte ∷ take k bytes) ≡ true = ap (λ b. b && list_all is_name_byte (take k bytes)) (letter_goes byte first) ∙ run-all is_name_byte bytes in
    subst P (sym e) (record { first = first; each = each; free = ap (λ n. word_of (take n (byte ∷ bytes))) (sym e) ∙ no_word _ form.is })

pub name_at : (text : List ℕ) (t : Token) → TokenAt text 0 t → t.kind ≡ tokens.Name → IsName (slice_range text t.from t.to)
name_at text t stands is =
    let bytes = drop t.from text in
    let s = start_of stands.piece.start bytes in
    let form = stood text 0 t stands in
    let item = name_item stands.item t.kind stands.kind (kind_of _ _ _ _ form) is in
    let P : Item → Type 0 = λ i. Form s bytes i (t.to - t.from) in
    let name = name_start s bytes (t.to - t.from) (subst P item form) in
    name_run bytes (t.to - t.from) (letter_first stands.piece.start bytes name.0) name.1
