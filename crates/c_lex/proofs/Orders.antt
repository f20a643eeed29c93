-- The order of a text's tokens.
use Rattle.std.proofs.Common.{ℕ, zero, suc, ◌+◌, ◌<◌, ◌≤◌, List, [], ◌∷◌, ◌++◌, length, get_or, map, sym, subst, arith, add-one}
use Rattle.std.specs.List.{AllByRecursion}
use Rattle.c_lex.specs.declared.token.Token.{Token}
use Rattle.c_lex.specs.Tokens.{AreTokens, end_of}
use Rattle.c_lex.specs.Laws.{AreApart, AreOrdered}
use Rattle.c_lex.proofs.Chains.{TokensFrom, tokens_stand}

-- the tokens lie in the text
each_within : (text : List ℕ) (ts : List Token) (a : ℕ) → TokensFrom text a ts → AllByRecursion (λ token. (token.from ≤ token.to) × (token.to ≤ length text)) (ts ++ end_of text ∷ [])
each_within text [] a all = ((omega arith, omega arith), tt)
each_within text (t ∷ ts) a all = ((omega (arith, all.0.piece.long), all.0.piece.within), each_within text ts t.to all.1)

-- tokens from a place on begin at that place or behind it
each_behind : (text : List ℕ) (ts : List Token) (a from to : ℕ) → from < to → to ≤ a → to ≤ length text → TokensFrom text a ts
    → AllByRecursion (λ later. (from < to) × (to ≤ later.from)) (ts ++ end_of text ∷ [])
each_behind text [] a from to p q r all = ((p, r), tt)
each_behind text (t ∷ ts) a from to p q r all =
    ((p, omega (arith, all.0.piece.later)), each_behind text ts t.to from to p (omega (arith, all.0.piece.later, all.0.piece.long)) r all.1)

-- and apart
all_apart : (text : List ℕ) (ts : List Token) (a : ℕ) → TokensFrom text a ts → AreApart (ts ++ end_of text ∷ [])
all_apart text [] a all = (tt, tt)
all_apart text (t ∷ ts) a all = (each_behind text ts t.to t.from t.to all.0.piece.long (omega arith) all.0.piece.within all.1, all_apart text ts t.to all.1)

-- where the tokens begin
places : List Token → List ℕ
places ts = map (λ (token : Token). token.from) ts

-- of tokens that are apart, each begins before the next
next_rises : (ts : List Token) (k : ℕ) → AreApart ts → k + 1 < length (places ts) → get_or (places ts) k 0 < get_or (places ts) (k + 1) 0
unfolding places
next_rises [] k apart lt = absurd (omega arith)
next_rises (t ∷ []) k apart lt = absurd (omega arith)
next_rises (t ∷ u ∷ us) zero apart lt = omega (arith, apart.0.0)
next_rises (t ∷ u ∷ us) (suc k) apart lt = rw add-one (let rest = next_rises (u ∷ us) k apart.1 (omega arith) in rw add-one at rest)

-- the tokens of a text are in order
pub are_ordered : (text : List ℕ) (ts : List Token) → AreTokens text ts → AreOrdered text ts
unfolding places
are_ordered text ts are =
    let P : List Token → Type 0 = AreOrdered text in
    let stand = tokens_stand text are.0 are.2 in
    let apart = all_apart text are.0 0 stand in
    subst P (sym are.1) (record {
      within = each_within text are.0 0 stand;
      apart = apart;
      rising = λ k lt. next_rises (are.0 ++ end_of text ∷ []) k apart lt;
    })
