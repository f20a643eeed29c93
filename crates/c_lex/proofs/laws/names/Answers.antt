use Rattle.std.proofs.Common.{List, [], ◌∷◌, Contains, subst, ap, inl, inr}
use Rattle.std.specs.List.{slice_range}
use Rattle.std.proofs.lemmas.List.Elements.{Contains-append_cases}
use Rattle.c_lex.specs.declared.token.Token.{Token}
use Rattle.c_lex.specs.Tokens.{end_of}
use Rattle.c_lex.specs.Laws.{IsName}
use Rattle.c_lex.proofs.Chains.{tokens_stand, stands_at, only_end}
use Rattle.c_lex.proofs.Names.{name_at}
use Rattle.c_lex.proofs.laws.names.Goals as goal

pub returns : goal.returns
returns c text ts are t among is =
    let P : List Token → Type 0 = λ us. Contains us t in
    elim (Contains-append_cases are.0 (end_of text ∷ []) t (subst P are.1 among)) as (λ _. IsName (slice_range text t.from t.to)) [
      | inl here ↦ name_at text t (stands_at text 0 are.0 here.0 t (tokens_stand text are.0 are.2) here.1 here.2) is
      | inr last ↦ let end = ap (λ (u : Token). u.kind) (only_end (end_of text) t last.0 last.1 last.2) in absurd cc
    ]
