use Rattle.std.proofs.Common.{◌≡◌, List, [], ◌∷◌, ◌++◌, sym, ap, ◌∙◌}
use Rattle.c_lex.specs.declared.token.Token.{Token}
use Rattle.c_lex.specs.Tokens.{end_of}
use Rattle.c_lex.proofs.laws.only.Goals as goal

pub returns : goal.returns
returns c text ts us these those =
    let same = sym these.2 ∙ those.2 in
    let fronts : these.0 ≡ those.0 = cc in
    these.1 ∙ ap (λ (front : List Token). front ++ end_of text ∷ []) fronts ∙ sym those.1
