-- A text has one typed tree or one refusal: from the laws of its tokens, and of the files that they are.
use Rattle.std.proofs.Common.{◌≡◌, ℕ, List, Option, Some, None, Err, ◌⊎◌, refl, sym, ap, ◌∙◌, subst, inl, inr}
use Rattle.c_lex.specs.declared.token.Token.{Token}
use Rattle.c_lex.specs.declared.refusal.Refusal.{Refusal}
use Rattle.c_lex.specs.declared.refusal.CompileFault.{CompileFault}
use Rattle.c_lex.specs.declared.refusal.CompileFault.TheVariants as outcomes
use Rattle.c_lex.specs.Tokens.{AreTokens}
use Rattle.c_lex.specs.Refusals.{IfRefused, RefusesText}
use Rattle.c_lex.specs.Laws as lexed
use Rattle.c_tree.specs.Syntax.{File}
use Rattle.c_tree.specs.Typed.{Typed}
use Rattle.c_grammar.specs.Language.{Parses, RefusesTokens}
use Rattle.c_grammar.specs.Laws as grammar
use Rattle.c_typing.specs.Faults.{Judged, typed, faulty, first, least, Fails}
use Rattle.c_typing.specs.Programs.{judged_file}
use Rattle.alaska_run.specs.Reading.{IsFileOf, IsRead, RefusesGrammar, RefusesTyping, Refuses, EachIsRead, NotBoth, OneTree, OneReason}

-- ---- judgements

-- one thing, where there is one of two that are the same
some_or : Refusal → Option Refusal → Refusal
some_or r None = r
some_or r (Some s) = s

same_some : (r s : Refusal) → Some r ≡ Some s → r ≡ s
unfolding some_or
same_some r s e = ap (λ (o : Option Refusal). some_or r o) e

tree_or : Typed → Judged Typed → Typed
tree_or t (typed u) = u
tree_or t (faulty r rs) = t

same_tree : (t u : Typed) → typed t ≡ typed u → t ≡ u
unfolding tree_or
same_tree t u e = ap (λ (j : Judged Typed). tree_or t j) e

-- what has a typed tree is not refused
typed_or_not : (j : Judged Typed) (t : Typed) (r : Refusal) → j ≡ typed t → first j ≡ Some r → ⊥
typed_or_not j t r e f = (let g : first (typed t) ≡ Some r = subst (λ (k : Judged Typed). first k ≡ Some r) e f in cc)

-- a judgement is a typed tree, or has a fault that is named
typed_or_fault : (j : Judged Typed) → ((t : Typed) × (j ≡ typed t)) ⊎ ((r : Refusal) × (first j ≡ Some r))
typed_or_fault (typed t) = inl (t, refl)
typed_or_fault (faulty r rs) = inr (least r rs, refl)

-- ---- one of each

module _ (only : lexed.OneTokenList) where
  -- the file that the tokens of a text are is one
  one_file : (text : List ℕ) (ts us : List Token) (f g : File) → IsFileOf text ts f → IsFileOf text us g → g ≡ f
  one_file text ts us f g a b =
      let here = subst (λ (vs : List Token). Parses text vs g) (only text us ts b.lexed a.lexed) b.parsed in
      a.parsed.only g here.fits here.spelt

  unread_there : (text : List ℕ) (ts us : List Token) (r : Refusal) → AreTokens text ts → AreTokens text us → RefusesTokens text us r → RefusesTokens text ts r
  unread_there text ts us r these those refused = subst (λ (vs : List Token). RefusesTokens text vs r) (only text us ts those these) refused

  pub one_tree : OneTree
  one_tree text ts us t u a b = (
    only text us ts b.of_text.lexed a.of_text.lexed,
    same_tree u t (sym b.judged ∙ ap (judged_file text) (one_file text ts us a.file b.file a.of_text b.of_text) ∙ a.judged),
  )

  -- a file is no fault of the grammar
  file_or_not : grammar.ParseOrRefuse → (text : List ℕ) (ts : List Token) (f : File) (r : Refusal) → IsFileOf text ts f → RefusesGrammar text r → ⊥
  file_or_not apart text ts f r a b = apart text ts f r a.parsed (unread_there text ts b.tokens r a.lexed b.lexed b.refused)

  pub not_both : lexed.TokensOrRefusal → grammar.ParseOrRefuse → NotBoth
  not_both either apart text ts t r a (inl fault) = either text ts r a.of_text.lexed fault
  not_both either apart text ts t r a (inr (inl b)) = file_or_not apart text ts a.file r a.of_text b
  not_both either apart text ts t r a (inr (inr b)) =
      typed_or_not (judged_file text a.file) t r a.judged
      (subst (λ (g : File). first (judged_file text g) ≡ Some r) (one_file text ts b.tokens a.file b.file a.of_text b.of_text) b.refused)

  -- one reason of two that the tokens have
  one_there : grammar.RefuseOnce → grammar.ParseOrRefuse → (text : List ℕ) (r s : Refusal) → RefusesGrammar text r ⊎ RefusesTyping text r → RefusesGrammar text s ⊎ RefusesTyping text s → r ≡ s
  one_there once apart text r s (inl a) (inl b) = once text a.tokens r s a.refused (unread_there text a.tokens b.tokens s a.lexed b.lexed b.refused)
  one_there once apart text r s (inl a) (inr b) = absurd (file_or_not apart text b.tokens b.file r b.of_text a)
  one_there once apart text r s (inr a) (inl b) = absurd (file_or_not apart text a.tokens a.file s a.of_text b)
  one_there once apart text r s (inr a) (inr b) =
      same_some r s (sym a.refused
      ∙ subst (λ (g : File). first (judged_file text g) ≡ Some s) (one_file text a.tokens b.tokens a.file b.file a.of_text b.of_text) b.refused)

  -- what is refused behind its bytes has tokens
  has_tokens : (text : List ℕ) (r : Refusal) → RefusesGrammar text r ⊎ RefusesTyping text r → (ts : List Token) × AreTokens text ts
  has_tokens text r (inl a) = (a.tokens, a.lexed)
  has_tokens text r (inr a) = (a.tokens, a.of_text.lexed)

  pub one_reason : lexed.OneRefusal → lexed.TokensOrRefusal → grammar.RefuseOnce → grammar.ParseOrRefuse → OneReason
  one_reason fault either once apart text r s (inl a) (inl b) = fault text r s a b
  one_reason fault either once apart text r s (inl a) (inr b) = let t = has_tokens text s b in absurd (either text t.0 r t.1 a)
  one_reason fault either once apart text r s (inr a) (inl b) = let t = has_tokens text r a in absurd (either text t.0 s t.1 b)
  one_reason fault either once apart text r s (inr a) (inr b) = one_there once apart text r s a b

-- ---- each text

module _ (text : List ℕ) (ts : List Token) (are : AreTokens text ts) where
  judged_types : (f : File) → Parses text ts f → ((t : Typed) × (judged_file text f ≡ typed t)) ⊎ ((r : Refusal) × (first (judged_file text f) ≡ Some r))
      → ((us : List Token) × (t : Typed) × IsRead text us t) ⊎ ((r : Refusal) × Refuses text r)
  judged_types f is (inl (t, e)) = inl (ts, t, record { file = f; of_text = record { lexed = are; parsed = is }; judged = e })
  judged_types f is (inr (r, e)) = inr (r, inr (inr (record { tokens = ts; file = f; of_text = record { lexed = are; parsed = is }; refused = e })))

  judged_tokens : ((f : File) × Parses text ts f) ⊎ ((r : Refusal) × RefusesTokens text ts r) → ((us : List Token) × (t : Typed) × IsRead text us t) ⊎ ((r : Refusal) × Refuses text r)
  judged_tokens (inl (f, is)) = judged_types f is (typed_or_fault (judged_file text f))
  judged_tokens (inr (r, refused)) = inr (r, inr (inl (record { tokens = ts; lexed = are; refused = refused })))

pub each_read : lexed.EachTextIsRead → grammar.TokensEndOnce → grammar.EachIsJudged → EachIsRead
each_read has ends reads text = by (has text)
  where
    by : ((ts : List Token) × AreTokens text ts) ⊎ ((r : Refusal) × RefusesText text r) → ((us : List Token) × (t : Typed) × IsRead text us t) ⊎ ((r : Refusal) × Refuses text r)
    by (inl (ts, are)) = judged_tokens text ts are (reads text ts (ends text ts are))
    by (inr (r, fault)) = inr (r, inl fault)

-- ---- what a function returned

-- a fault that judging names is a reason to refuse
pub refused_by : (X : Type 0) {B : Type 0} (e : CompileFault) (j : Judged B) (Q : Refusal → Type 0) → ((r : Refusal) → first j ≡ Some r → Q r) → Fails e j → IfRefused {X = X} (Err e) Q
refused_by X (outcomes.Refused r) j Q h f = h r f
refused_by X outcomes.NoMemory j Q h f = tt
