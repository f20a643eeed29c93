-- Clocks that know sets of turns.
use Rattle.std.proofs.Common.{◌≡◌, ◌≢◌, ℕ, suc, ◌<◌, max, ◌⊎◌, inl, inr, List, slice_get, Option, Some, refl, sym, ap, subst, arith}
use Rattle.std.proofs.lemmas.Bool.{cases_lt}
use Rattle.std.proofs.lemmas.Bool.Decides.{eqb_tells}
use Rattle.std.proofs.Math.Nat.{eq-or-lt_of_le}
use Rattle.race_rules.specs.Turns.{Turn}
use Rattle.race_rules.specs.Order.{Directly, Before}
use Rattle.race_rules.specs.Order.Orders.{same_thread}
use Rattle.race_rules.specs.Order.Before.{at_once, through}
use Rattle.race_rules.specs.Clocks.{Clock, nothing, joined, own, AtOrBefore, UpTo, Knows}

pub some_one : {A : Type 0} {a b : A} {o : Option A} → o ≡ Some a → o ≡ Some b → a ≡ b
some_one p q = cc

pub below_max : (i a b : ℕ) → i < max a b → (i < a) ⊎ (i < b)
below_max i a b h = elim (cases_lt i a) [ inl p ↦ inl p | inr q ↦ inr (omega arith) ]

pub own_cases : (k t u : ℕ) (v : Clock) → ((u ≡ t) × (own k t v u ≡ suc k)) ⊎ ((u ≢ t) × (own k t v u ≡ v u))
own_cases k t u v = elim (eqb_tells u t) [ inl h ↦ inl (h.1, rw h.0 refl) | inr h ↦ inr (h.1, rw h.0 refl) ]

module _ (ts : List Turn) where
  pub at_or_before_on : {i j k : ℕ} → AtOrBefore ts i j → Directly ts j k → Before ts i k
  at_or_before_on {i} {j} {k} (inl e) d = let F : ℕ → Type 0 = λ n. Before ts n k in subst F (sym e) (at_once d)
  at_or_before_on (inr b) d = through b d

  pub before_trans : {i j k : ℕ} → AtOrBefore ts i j → Before ts j k → Before ts i k
  before_trans a (at_once d) = at_or_before_on a d
  before_trans a (through b d) = through (before_trans a b) d

  pub before_is_earlier : {i j : ℕ} → Before ts i j → i < j
  before_is_earlier (at_once d) = d.earlier
  before_is_earlier (through b d) = let p = before_is_earlier b in let q = d.earlier in omega arith

  pub knows_nothing : Knows ts nothing (λ p. ⊥)
  knows_nothing i x is = (λ h. absurd (omega (arith, h)), λ u. absurd u.is)

  -- the same turns, said in two ways
  pub knows_same : (v : Clock) (P Q : ℕ → Type 0) → ((p : ℕ) → P p → Q p) → ((p : ℕ) → Q p → P p) → Knows ts v P → Knows ts v Q
  knows_same v P Q pq qp k i x is = (
    λ h. let u = (k i x is).0 h in record { turn = u.turn; is = pq u.turn u.is; reach = u.reach },
    λ u. (k i x is).1 (record { turn = u.turn; is = qp u.turn u.is; reach = u.reach }),
  )

  -- the same clock
  pub knows_at : (v w : Clock) (P : ℕ → Type 0) → ((t : ℕ) → w t ≡ v t) → Knows ts v P → Knows ts w P
  knows_at v w P e k i x is =
      (λ h. (k i x is).0 (let q = e x.thread in omega (arith, h, q)), λ u. let q = (k i x is).1 u in let r = e x.thread in omega (arith, q, r))

  pub either_up_to : {P Q : ℕ → Type 0} {i : ℕ} → UpTo ts P i ⊎ UpTo ts Q i → UpTo ts (λ p. P p ⊎ Q p) i
  either_up_to (inl u) = record { turn = u.turn; is = inl u.is; reach = u.reach }
  either_up_to (inr u) = record { turn = u.turn; is = inr u.is; reach = u.reach }

  pub split_up_to : {P Q : ℕ → Type 0} {i : ℕ} (p : ℕ) → P p ⊎ Q p → AtOrBefore ts i p → UpTo ts P i ⊎ UpTo ts Q i
  split_up_to p (inl h) r = inl (record { turn = p; is = h; reach = r })
  split_up_to p (inr h) r = inr (record { turn = p; is = h; reach = r })

  joined_there : {a b : ℕ} {P Q : ℕ → Type 0} {i : ℕ} → (i < a → UpTo ts P i) → (i < b → UpTo ts Q i) → (i < a) ⊎ (i < b) → UpTo ts P i ⊎ UpTo ts Q i
  joined_there f g (inl h) = inl (f h)
  joined_there f g (inr h) = inr (g h)

  joined_back : {P Q : ℕ → Type 0} {i a b : ℕ} → (UpTo ts P i → i < a) → (UpTo ts Q i → i < b) → UpTo ts P i ⊎ UpTo ts Q i → i < max a b
  joined_back f g (inl u) = let h = f u in omega (arith, h)
  joined_back f g (inr u) = let h = g u in omega (arith, h)

  pub knows_joined : (v w : Clock) (P Q : ℕ → Type 0) → Knows ts v P → Knows ts w Q → Knows ts (joined v w) (λ p. P p ⊎ Q p)
  knows_joined v w P Q kv kw i x is = (
    λ h. either_up_to {P = P} {Q = Q} {i = i} (joined_there {P = P} {Q = Q} {i = i} ((kv i x is).0) ((kw i x is).0) (below_max i (v x.thread) (w x.thread) h)),
    λ u. joined_back {P = P} {Q = Q} {i = i} ((kv i x is).1) ((kw i x is).1) (split_up_to {P = P} {Q = Q} {i = i} u.turn u.is u.reach),
  )

  -- ---- a turn's own clock

  from_before : {i k : ℕ} → Before ts i k → UpTo ts (λ p. Directly ts p k) i
  from_before {i} (at_once d) = record { turn = i; is = d; reach = inl refl }
  from_before (through {j = j} b d) = record { turn = j; is = d; reach = inr b }

  own_there : (k i : ℕ) (x y : Turn) → slice_get ts k ≡ Some x → slice_get ts i ≡ Some y → y.thread ≡ x.thread → (i ≡ k) ⊎ (i < k) → UpTo ts (λ p. p ≡ k) i
  own_there k i x y at is e (inl same) = record { turn = k; is = refl; reach = inl same }
  own_there k i x y at is e (inr lt) =
      record { turn = k; is = refl; reach = inr (at_once (record { first = y; second = x; first_is = is; second_is = at; earlier = lt; orders = same_thread e })) }

  own_below : (k i : ℕ) (v : Clock) (x y : Turn) → slice_get ts k ≡ Some x → slice_get ts i ≡ Some y → (UpTo ts (λ p. Directly ts p k) i → i < v y.thread) →
      ((y.thread ≡ x.thread) × (own k x.thread v y.thread ≡ suc k)) ⊎ ((y.thread ≢ x.thread) × (own k x.thread v y.thread ≡ v y.thread)) → AtOrBefore ts i k → i < own k x.thread v y.thread
  own_below k i v x y at is f (inl (e, q)) (inl same) = rw q (omega arith)
  own_below k i v x y at is f (inl (e, q)) (inr b) = let lt = before_is_earlier b in rw q (omega arith)
  own_below k i v x y at is f (inr (e, q)) (inl same) =
      let at_i : slice_get ts i ≡ Some x = rw same at in absurd (e (ap (λ (z : Turn). z.thread) (some_one is at_i)))
  own_below k i v x y at is f (inr (e, q)) (inr b) = rw q (f (from_before b))

  own_above : (k i : ℕ) (v : Clock) (x y : Turn) → slice_get ts k ≡ Some x → slice_get ts i ≡ Some y → (i < v y.thread → UpTo ts (λ p. Directly ts p k) i) →
      ((y.thread ≡ x.thread) × (own k x.thread v y.thread ≡ suc k)) ⊎ ((y.thread ≢ x.thread) × (own k x.thread v y.thread ≡ v y.thread)) → i < own k x.thread v y.thread → UpTo ts (λ p. p ≡ k) i
  own_above k i v x y at is f (inl (e, q)) h = own_there k i x y at is e (eq-or-lt_of_le (omega (arith, rw q at h)))
  own_above k i v x y at is f (inr (e, q)) h =
      let u = f (rw q at h) in record { turn = k; is = refl; reach = inr (at_or_before_on u.reach u.is) }

  -- a clock that knows what is directly before a turn, with that turn, knows the turn
  pub knows_own : (v : Clock) (k : ℕ) (x : Turn) → slice_get ts k ≡ Some x → Knows ts v (λ p. Directly ts p k) → Knows ts (own k x.thread v) (λ p. p ≡ k)
  knows_own v k x at kv i y is = (
    own_above k i v x y at is ((kv i y is).0) (own_cases k x.thread y.thread v),
    λ u. own_below k i v x y at is ((kv i y is).1) (own_cases k x.thread y.thread v) (let F : ℕ → Type 0 = λ n. AtOrBefore ts i n in subst F u.is u.reach),
  )
