-- What threads have of their own, where one changes and more are made.
use Rattle.std.proofs.Common.{◌≡◌, ◌≢◌, ℕ, zero, suc, ◌<◌, List, [], ◌∷◌, ◌++◌, length, set, Option, Some, refl, arith}
use Rattle.block_store.specs.Runs.{own_at}

module _ {A : Type 0} where
  -- who has something was made
  pub own_below : (os : List (Option A)) (n : ℕ) (a : A) → own_at os n ≡ Some a → n < length os
  own_below [] n a e = absurd cc
  own_below (o ∷ os) zero a e = omega arith
  own_below (o ∷ os) (suc n) a e = omega (arith, own_below os n a e)

  -- more behind them change nothing
  pub own_front : (os more : List (Option A)) (n : ℕ) → n < length os → own_at (os ++ more) n ≡ own_at os n
  own_front [] more n below = absurd (omega (arith, below))
  own_front (o ∷ os) more zero below = refl
  own_front (o ∷ os) more (suc n) below = own_front os more n (omega (arith, below))

  -- of the one
  pub own_put : (os more : List (Option A)) (thread : ℕ) (v : Option A) → thread < length os → own_at (set os thread v ++ more) thread ≡ v
  own_put [] more thread v below = absurd (omega (arith, below))
  own_put (o ∷ os) more zero v below = refl
  own_put (o ∷ os) more (suc thread) v below = own_put os more thread v (omega (arith, below))

  -- of any other
  pub own_other : (os more : List (Option A)) (thread n : ℕ) (v : Option A) → n ≢ thread → n < length os → own_at (set os thread v ++ more) n ≡ own_at os n
  own_other [] more thread n v other below = absurd (omega (arith, below))
  own_other (o ∷ os) more zero zero v other below = absurd (other refl)
  own_other (o ∷ os) more zero (suc n) v other below = own_front os more n (omega (arith, below))
  own_other (o ∷ os) more (suc thread) zero v other below = refl
  own_other (o ∷ os) more (suc thread) (suc n) v other below = own_other os more thread n v (λ (e : n ≡ thread). other (omega (arith, e))) (omega (arith, below))
