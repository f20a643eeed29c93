-- From turn to turn the clocks stay what they stand for.
use Rattle.std.proofs.Common.{◌≡◌, ◌≢◌, ℕ, suc, ◌<◌, ◌==◌, true, false, ◌⊎◌, inl, inr, ◌&&◌, List, [], ◌∷◌, slice_get, Some, if◌then◌else◌, refl, sym, ap, subst, arith}
use Rattle.std.proofs.Math.Nat.{eq-or-lt_of_le}
use Rattle.std.proofs.lemmas.Bool.Decides.{eqb_tells}
use Rattle.race_rules.specs.declared.touch.Touch.{Touch}
use Rattle.race_rules.specs.Turns.{Turn}
use Rattle.race_rules.specs.Order.{Before, IsStart}
use Rattle.race_rules.specs.Order.Orders.{same_thread}
use Rattle.race_rules.specs.Order.Before.{at_once, through}
use Rattle.race_rules.specs.Clocks.{Clock, Clocks, Knows, AtOrBefore, nothing, first_clocks, clock_of, after, told, told_all, is_start, is_unlock, is_of_all, is_atomic_write, is_of}
use Rattle.race_rules.specs.Sound.{Earlier, Sound, OfThread, IsRelease, IsAtomicWriteOf}
use Rattle.race_rules.proofs.Knowing.{knows_same, knows_nothing, knows_own, some_one}
use Rattle.race_rules.proofs.Touching.{start_tells, release_tells, write_tells}
use Rattle.race_rules.proofs.Telling.{knows_after}
use Rattle.race_rules.proofs.Gaining.{knows_directly}

-- the touches don't change what the threads' last turns know
threads_stay : (v : Clock) (all : List Touch) (c : Clocks) → (told_all v all c).threads ≡ c.threads
threads_stay v [] c = refl
threads_stay v (a ∷ all) c = threads_stay v all (told v a c)

module _ (ts : List Turn) where
  none_yet : (P : ℕ → Type 0) → ((p : ℕ) → P p → ⊥) → Knows ts nothing P
  none_yet P never = knows_same ts nothing (λ p. ⊥) P (λ p h. absurd h) never (knows_nothing ts)

  pub first_clocks_are_sound : Sound ts 0 first_clocks
  first_clocks_are_sound = record {
    threads = λ t. none_yet _ (λ p e. let lt = e.below in omega arith);
    started = λ t. none_yet _ (λ p e. let lt = e.below in omega arith);
    released = λ b f e. none_yet _ (λ p g. let lt = g.below in omega arith);
    written = λ b d. none_yet _ (λ p e. let lt = e.below in omega arith);
  }

  module _ (k : ℕ) (c : Clocks) (s : Sound ts k c) (x : Turn) (at : slice_get ts k ≡ Some x) where
    -- a turn's clock knows just the turn itself and what is before it
    pub clock_knows : Knows ts (clock_of c k x) (λ p. p ≡ k)
    clock_knows = knows_own ts _ k x at (knows_directly ts k c s x at)

    -- the law of the clocks
    pub clock_law : (i : ℕ) (y : Turn) → slice_get ts i ≡ Some y → (i < clock_of c k x y.thread → AtOrBefore ts i k) × (AtOrBefore ts i k → i < clock_of c k x y.thread)
    clock_law i y is = (
      λ h. let u = (clock_knows i y is).0 h in let F : ℕ → Type 0 = λ n. AtOrBefore ts i n in subst F u.is u.reach,
      λ b. (clock_knows i y is).1 (record { turn = k; is = refl; reach = b }),
    )

    own_back : (i p : ℕ) (y : Turn) → AtOrBefore ts i p → slice_get ts p ≡ Some y → y.thread ≡ x.thread → (p ≡ k) ⊎ (p < k) → AtOrBefore ts i k
    own_back i p y (inl e) is same (inl q) = inl (let r = e in let z = q in omega arith)
    own_back i p y (inl e) is same (inr lt) =
        let F : ℕ → Type 0 = λ n. Before ts n k in
        inr (subst F (sym e) (at_once (record { first = y; second = x; first_is = is; second_is = at; earlier = lt; orders = same_thread same })))
    own_back i p y (inr b) is same (inl q) = let F : ℕ → Type 0 = λ n. Before ts i n in inr (subst F q b)
    own_back i p y (inr b) is same (inr lt) = inr (through b (record { first = y; second = x; first_is = is; second_is = at; earlier = lt; orders = same_thread same }))

    own_thread : Knows ts (clock_of c k x) (Earlier ts (suc k) (OfThread x.thread))
    own_thread i y is = (
      λ h. record { turn = k; is = record { turn = x; is = at; below = omega arith; so = refl }; reach = (clock_law i y is).0 h },
      λ u. (clock_law i y is).1 (own_back i u.turn u.is.turn u.reach u.is.is u.is.so (eq-or-lt_of_le (let lt = u.is.below in omega arith))),
    )

    other_there : (t : ℕ) → t ≢ x.thread → (p : ℕ) → (e : Earlier ts (suc k) (OfThread t) p) → (p ≡ k) ⊎ (p < k) → Earlier ts k (OfThread t) p
    other_there t ne p e (inl same) =
        let at_p : slice_get ts p ≡ Some x = rw same at in
        let f = some_one e.is at_p in let g = e.so in absurd (ne (let h = ap (λ (z : Turn). z.thread) f in cc))
    other_there t ne p e (inr lt) = record { turn = e.turn; is = e.is; below = lt; so = e.so }

    thread_after : (t : ℕ) → ((t == x.thread ≡ true) × (t ≡ x.thread)) ⊎ ((t == x.thread ≡ false) × (t ≢ x.thread)) → Knows ts (if (t == x.thread) then (clock_of c k x) else (c.threads t)) (Earlier ts (suc k) (OfThread t))
    thread_after t (inl (b, e)) = rw b (let F : ℕ → Type 0 = λ z. Knows ts (clock_of c k x) (Earlier ts (suc k) (OfThread z)) in subst F (sym e) own_thread)
    thread_after t (inr (b, ne)) =
        rw b (knows_same ts (c.threads t) (Earlier ts k (OfThread t)) (Earlier ts (suc k) (OfThread t)) (λ p e. record { turn = e.turn; is = e.is; below = (let lt = e.below in omega arith); so = e.so })
        (λ p e. other_there t ne p e (eq-or-lt_of_le (let lt = e.below in omega arith))) (s.threads t))

    pub after_is_sound : Sound ts (suc k) (after c k x)
    after_is_sound =
        let v = clock_of c k x in
        record {
          threads = λ t.
              let F : (ℕ → Clock) → Type 0 = λ th. Knows ts (if (t == x.thread) then v else (th t)) (Earlier ts (suc k) (OfThread t)) in
              subst F (sym (threads_stay v x.touches c)) (thread_after t (eqb_tells t x.thread));
          started = λ t. knows_after ts k v clock_knows (λ d. d.started t) (λ a. is_start t a.kind) (IsStart t) (start_tells t) (λ a d. refl) x at c (s.started t);
          released = λ b f e. knows_after ts k v clock_knows (λ d. d.released b f e) (λ a. is_unlock a.kind && is_of_all a b f e) (IsRelease b f e) (release_tells b f e) (λ a d. refl) x at c (s.released b f e);
          written = λ b e. knows_after ts k v clock_knows (λ d. d.written b e) (λ a. is_atomic_write a.kind && is_of a b e) (IsAtomicWriteOf b e) (write_tells b e) (λ a d. refl) x at c (s.written b e);
        }
