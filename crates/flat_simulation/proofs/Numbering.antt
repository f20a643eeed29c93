-- What threads have of their own, by number: where one of them changes, and where new ones come behind.
use Rattle.std.proofs.Common.{◌≡◌, ◌≢◌, ℕ, zero, suc, ◌+◌, ◌<◌, ◌≤◌, List, [], ◌∷◌, ◌++◌, length, Option, Some, None, refl, subst, arith}
use Rattle.std.specs.Prelude.{set}
use Rattle.block_store.specs.Runs.{own_at}

module _ {A : Type 0} where
  -- one that has something was made
  pub own_within : (own : List (Option A)) (n : ℕ) (a : A) → own_at own n ≡ Some a → n < length own
  own_within [] n a e = absurd cc
  own_within (o ∷ own) zero a e = omega arith
  own_within (o ∷ own) (suc n) a e = let h = own_within own n a e in omega (arith, h)

  pub own_at-past : (own : List (Option A)) (n : ℕ) → length own ≤ n → own_at own n ≡ None
  own_at-past [] n le = refl
  own_at-past (o ∷ own) zero le = absurd (omega (arith, le))
  own_at-past (o ∷ own) (suc n) le = own_at-past own n (omega (arith, le))

  pub own_at-set_same : (own : List (Option A)) (n : ℕ) (o : Option A) → n < length own → own_at (set own n o) n ≡ o
  own_at-set_same [] n o lt = absurd (omega (arith, lt))
  own_at-set_same (p ∷ own) zero o lt = refl
  own_at-set_same (p ∷ own) (suc n) o lt = own_at-set_same own n o (omega (arith, lt))

  pub own_at-set_other : (own : List (Option A)) (n k : ℕ) (o : Option A) → k ≢ n → own_at (set own n o) k ≡ own_at own k
  own_at-set_other [] n k o ne = refl
  own_at-set_other (p ∷ own) zero zero o ne = absurd (ne refl)
  own_at-set_other (p ∷ own) zero (suc k) o ne = refl
  own_at-set_other (p ∷ own) (suc n) zero o ne = refl
  own_at-set_other (p ∷ own) (suc n) (suc k) o ne = own_at-set_other own n k o (λ e. ne (omega (arith, e)))

  pub length-set_own : (own : List (Option A)) (n : ℕ) (o : Option A) → length (set own n o) ≡ length own
  length-set_own [] n o = refl
  length-set_own (p ∷ own) zero o = refl
  length-set_own (p ∷ own) (suc n) o = let h = length-set_own own n o in omega (arith, h)

  -- in front of others
  pub own_at-front : (xs ys : List (Option A)) (n : ℕ) → n < length xs → own_at (xs ++ ys) n ≡ own_at xs n
  own_at-front [] ys n lt = absurd (omega (arith, lt))
  own_at-front (x ∷ xs) ys zero lt = refl
  own_at-front (x ∷ xs) ys (suc n) lt = own_at-front xs ys n (omega (arith, lt))

-- two of them, one by one, by number
pub each_behind : {A B : Type 0} (T : ℕ → Option A → Option B → Type 0) (xs : List (Option A)) (ys : List (Option B)) → length ys ≡ length xs → ((n : ℕ) → T n (own_at xs n) (own_at ys n))
    → (ps : List (Option A)) (qs : List (Option B)) → ((n : ℕ) → T (length xs + n) (own_at ps n) (own_at qs n)) → (n : ℕ) → T n (own_at (xs ++ ps) n) (own_at (ys ++ qs) n)
each_behind T [] [] e h ps qs g n = let z : 0 + n ≡ n = omega arith in subst (λ k. T k (own_at ps n) (own_at qs n)) z (g n)
each_behind T [] (y ∷ ys) e h ps qs g n = absurd (omega (arith, e))
each_behind T (x ∷ xs) [] e h ps qs g n = absurd (omega (arith, e))
each_behind T (x ∷ xs) (y ∷ ys) e h ps qs g zero = h zero
each_behind T (x ∷ xs) (y ∷ ys) e h ps qs g (suc n) =
    each_behind (λ k. T (suc k)) xs ys (omega (arith, e)) (λ k. h (suc k)) ps qs (λ k. let z : length (x ∷ xs) + k ≡ suc (length xs + k) = omega arith in subst (λ j. T j (own_at ps k) (own_at qs k)) z (g k)) n

-- one by one
module _ {A B : Type 0} (T : Option A → Option B → Type 0) where
  pub each_append : (xs : List (Option A)) (ys : List (Option B)) → length ys ≡ length xs → ((n : ℕ) → T (own_at xs n) (own_at ys n))
      → (ps : List (Option A)) (qs : List (Option B)) → ((n : ℕ) → T (own_at ps n) (own_at qs n)) → (n : ℕ) → T (own_at (xs ++ ps) n) (own_at (ys ++ qs) n)
  each_append [] [] e h ps qs g n = g n
  each_append [] (y ∷ ys) e h ps qs g n = absurd (omega (arith, e))
  each_append (x ∷ xs) [] e h ps qs g n = absurd (omega (arith, e))
  each_append (x ∷ xs) (y ∷ ys) e h ps qs g zero = h zero
  each_append (x ∷ xs) (y ∷ ys) e h ps qs g (suc n) = each_append xs ys (omega (arith, e)) (λ k. h (suc k)) ps qs g n
