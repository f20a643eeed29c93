-- What the tables know after the touches of a turn.
use Rattle.std.proofs.Common.{◌≡◌, ℕ, suc, ◌<◌, Bool, true, false, ◌⊎◌, inl, inr, List, [], ◌∷◌, slice_get, Some, refl, sym, subst, arith}
use Rattle.std.specs.Bool.{Decides}
use Rattle.std.proofs.Math.Nat.{eq-or-lt_of_le}
use Rattle.race_rules.specs.declared.touch.Touch.{Touch}
use Rattle.race_rules.specs.Turns.{Turn, Has}
use Rattle.race_rules.specs.Turns.Has.{here, later}
use Rattle.race_rules.specs.Clocks.{Clock, Clocks, Knows, if_told, told, told_all}
use Rattle.race_rules.specs.Sound.{Earlier}
use Rattle.race_rules.proofs.Knowing.{knows_same, knows_joined, some_one}
use Rattle.race_rules.proofs.Touching.{no_has, has_cases}

module _ (ts : List Turn) (k : ℕ) (v : Clock) (kv : Knows ts v (λ p. p ≡ k)) where
  knows_if : (w : Clock) (P : ℕ → Type 0) (Q : Type 0) → Knows ts w P → (b : Bool) → Decides b Q → Knows ts (if_told b v w) (λ p. P p ⊎ ((p ≡ k) × Q))
  knows_if w P Q kw true d =
      knows_same ts _ (λ p. P p ⊎ (p ≡ k)) (λ p. P p ⊎ ((p ≡ k) × Q)) (λ p h. elim h [ inl g ↦ inl g | inr e ↦ inr (e, d.0 refl) ])
      (λ p h. elim h [ inl g ↦ inl g | inr e ↦ inr e.0 ]) (knows_joined ts w v P (λ p. p ≡ k) kw kv)
  knows_if w P Q kw false d =
      knows_same ts _ P (λ p. P p ⊎ ((p ≡ k) × Q)) (λ p h. inl h) (λ p h. elim h [ inl g ↦ g | inr e ↦ (let no : false ≡ true = d.1 e.1 in cc) ]) kw

  module _ (pr : Clocks → Clock) (test : Touch → Bool) (T : Touch → Type 0) (tells : (a : Touch) → Decides (test a) (T a))
      (step : (a : Touch) (c : Clocks) → pr (told v a c) ≡ if_told (test a) v (pr c)) where
    more_there : {a : Touch} {all : List Touch} (P : ℕ → Type 0) (p : ℕ) → (P p ⊎ ((p ≡ k) × T a)) ⊎ ((p ≡ k) × Has T all) → P p ⊎ ((p ≡ k) × Has T (a ∷ all))
    more_there P p (inl (inl h)) = inl h
    more_there P p (inl (inr h)) = inr (h.0, here h.1)
    more_there P p (inr h) = inr (h.0, later h.1)

    more_split : {a : Touch} {all : List Touch} (P : ℕ → Type 0) (p : ℕ) → p ≡ k → T a ⊎ Has T all → (P p ⊎ ((p ≡ k) × T a)) ⊎ ((p ≡ k) × Has T all)
    more_split P p e (inl h) = inl (inr (e, h))
    more_split P p e (inr h) = inr (e, h)

    more_back : {a : Touch} {all : List Touch} (P : ℕ → Type 0) (p : ℕ) → P p ⊎ ((p ≡ k) × Has T (a ∷ all)) → (P p ⊎ ((p ≡ k) × T a)) ⊎ ((p ≡ k) × Has T all)
    more_back P p (inl h) = inl (inl h)
    more_back P p (inr h) = more_split P p h.0 (has_cases h.1)

    knows_told : (all : List Touch) (c : Clocks) (P : ℕ → Type 0) → Knows ts (pr c) P → Knows ts (pr (told_all v all c)) (λ p. P p ⊎ ((p ≡ k) × Has T all))
    knows_told [] c P h =
        knows_same ts _ P (λ p. P p ⊎ ((p ≡ k) × Has T [])) (λ p g. inl g) (λ p g. elim g [ inl i ↦ i | inr e ↦ absurd (no_has e.1) ]) h
    knows_told (a ∷ all) c P h =
        let Q : ℕ → Type 0 = λ p. P p ⊎ ((p ≡ k) × T a) in
        let F : Clock → Type 0 = λ w. Knows ts w Q in
        knows_same ts _ (λ p. Q p ⊎ ((p ≡ k) × Has T all)) (λ p. P p ⊎ ((p ≡ k) × Has T (a ∷ all))) (more_there P) (more_back P)
        (knows_told all (told v a c) Q (subst F (sym (step a c)) (knows_if (pr c) P (T a) h (test a) (tells a))))

    -- with the turn that touched them
    earlier_more : (x : Turn) → slice_get ts k ≡ Some x → (p : ℕ) → Earlier ts k (λ y. Has T y.touches) p ⊎ ((p ≡ k) × Has T x.touches) → Earlier ts (suc k) (λ y. Has T y.touches) p
    earlier_more x at p (inl e) = record { turn = e.turn; is = e.is; below = (let lt = e.below in omega arith); so = e.so }
    earlier_more x at p (inr h) = record { turn = x; is = rw h.0 at; below = (let e = h.0 in omega arith); so = h.1 }

    earlier_at : (x : Turn) → slice_get ts k ≡ Some x → (p : ℕ) → Earlier ts (suc k) (λ y. Has T y.touches) p → (p ≡ k) ⊎ (p < k) → Earlier ts k (λ y. Has T y.touches) p ⊎ ((p ≡ k) × Has T x.touches)
    earlier_at x at p e (inl same) =
        let at_p : slice_get ts p ≡ Some x = rw same at in
        let F : Turn → Type 0 = λ y. Has T y.touches in inr (same, subst F (some_one e.is at_p) e.so)
    earlier_at x at p e (inr lt) = inl (record { turn = e.turn; is = e.is; below = lt; so = e.so })

    pub knows_after : (x : Turn) → slice_get ts k ≡ Some x → (c : Clocks) → Knows ts (pr c) (Earlier ts k (λ y. Has T y.touches)) → Knows ts (pr (told_all v x.touches c)) (Earlier ts (suc k) (λ y. Has T y.touches))
    knows_after x at c h =
        knows_same ts _ (λ p. Earlier ts k (λ y. Has T y.touches) p ⊎ ((p ≡ k) × Has T x.touches)) (Earlier ts (suc k) (λ y. Has T y.touches)) (earlier_more x at)
        (λ p e. earlier_at x at p e (eq-or-lt_of_le (let lt = e.below in omega arith)))
        (knows_told x.touches c (Earlier ts k (λ y. Has T y.touches)) h)
