use Rattle.std.proofs.Common.{◌≡◌, refl}
use Rattle.std.proofs.lemmas.List.Elements.{All-from_recursion}
use Rattle.c_lex.specs.declared.token.TokenKind.TheVariants.{End}
use Rattle.c_lex.specs.Tokens.{end_of}
use Rattle.c_grammar.proofs.laws.tokens_end_once.Goals as goal

pub returns : goal.returns
returns c text ts h =
    let once = c.one_end.ensures text ts h in
    (once.0, end_of text, once.1, refl, All-from_recursion (λ t. t.kind ≡ End → ⊥) once.0 once.2)
