-- The tokens of a text lie in it, one behind the other, and so are no more than its bytes and one.
use Rattle.std.proofs.Common.{ℕ, suc, ◌+◌, ◌<◌, ◌≤◌, List, [], ◌∷◌, length, arith}
use Rattle.std.proofs.lemmas.List.Elements.{All-from_recursion}
use Rattle.std.specs.List.{All, AllByRecursion}
use Rattle.c_lex.specs.declared.token.Token.{Token}
use Rattle.c_lex.specs.Tokens.{AreTokens}
use Rattle.c_lex.specs.Laws.{AreApart, OrderedTokens}
use Rattle.mark_types.specs.Texts.{IsInText}

-- the tokens begin at a place or behind it
abbrev From : ℕ → List Token → Type 0
From a ts = AllByRecursion (λ t. a ≤ t.from) ts

all_from : (ts : List Token) → From 0 ts
all_from [] = tt
all_from (t ∷ ts) = (omega arith, all_from ts)

-- those behind a token, that begins there, begin later
later_from : (a : ℕ) (t : Token) (ts : List Token) → AllByRecursion (λ later. (t.from < t.to) × (t.to ≤ later.from)) ts → a ≤ t.from → From (suc a) ts
later_from a t [] h from = tt
later_from a t (u ∷ us) h from = (omega (arith, h.0.0, h.0.1, from), later_from a t us h.1 from)

-- tokens between two places are no more than the bytes there and one
few_between : (text : List ℕ) (a : ℕ) (ts : List Token) → AllByRecursion (IsInText text) ts → AreApart ts → From a ts → a ≤ length text → a + length ts ≤ length text + 1
few_between text a [] inside apart from low = omega (arith, low)
few_between text a (t ∷ []) inside apart from low = omega (arith, low)
few_between text a (t ∷ u ∷ us) inside apart from low =
    omega (arith, few_between text (suc a) (u ∷ us) inside.1 apart.1 (later_from a t (u ∷ us) apart.0 from.0) (omega (arith, apart.0.0.0, inside.0.1, from.0)))

-- the tokens of a text
pub tokens_inside : OrderedTokens → (text : List ℕ) (ts : List Token) → AreTokens text ts → All (IsInText text) ts
tokens_inside ordered text ts are = All-from_recursion (IsInText text) ts (ordered text ts are).within

pub tokens_few : OrderedTokens → (text : List ℕ) (ts : List Token) → AreTokens text ts → length ts ≤ length text + 1
tokens_few ordered text ts are = let o = ordered text ts are in omega (arith, few_between text 0 ts o.within o.apart (all_from ts) (omega arith))
