use Rattle.std.proofs.Common.{◌≡◌, ℕ, List, [], ◌∷◌, ◌++◌, Result, Ok, Err, ◌⊎◌, inl, inr, refl}
use Rattle.c_lex.specs.declared.refusal.Refusal.{Refusal}
use Rattle.c_lex.specs.declared.token.Token.{Token}
use Rattle.c_lex.specs.Tokens.{reading_of, end_of, AreTokens}
use Rattle.c_lex.specs.Refusals.{RefusesText}
use Rattle.c_lex.proofs.laws.each_is_read.Goals as goal

-- by what the reading is
by : (text : List ℕ) (outcome : Result (List Token) Refusal) → reading_of text ≡ outcome → ((ts : List Token) × AreTokens text ts) ⊎ ((r : Refusal) × RefusesText text r)
by text (Ok front) is = inl (front ++ end_of text ∷ [], (front, refl, is))
by text (Err r) is = inr (r, is)

pub returns : goal.returns
returns c text = by text (reading_of text) refl
