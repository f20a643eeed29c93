-- Passes of which one makes a call.
use Rattle.std.proofs.Common.{◌≡◌, ◌≢◌, ℕ, zero, suc, ◌<◌, List, [], ◌∷◌, ◌++◌, length, drop, take, set, ap, sym, subst, ◌∙◌, refl, arith, inl, inr, Some}
use Rattle.std.specs.Prelude.{◌⊎◌, slice_get}
use Rattle.std.proofs.lemmas.Bool.{cases_eq}
use Rattle.turn_lock.specs.declared.lock.Pass.{Pass}
use Rattle.turn_lock.specs.declared.lock.TurnLock.{TurnLock}
use Rattle.turn_lock.specs.Locks.{AllPasses, IsPassOf, seen_of, worker_of}
use Rattle.flat_rules.specs.Machine.{Machine}
use Rattle.world_rules.specs.Whole.{Whole}
use Rattle.ak_world.specs.Turns.{SawOver}
use Rattle.rows.specs.declared.machine.driving.Hand.{Hand}
use Rattle.rows.specs.declared.machine.driving.Hand.TheVariants as hands
use Rattle.rows.specs.Hands.{Holds, HoldsAt}

pub slice_get-set_same : {X : Type 0} (xs : List X) (k : ℕ) (x : X) → k < length xs → slice_get (set xs k x) k ≡ Some x
slice_get-set_same [] k x below = absurd (omega arith)
slice_get-set_same (y ∷ xs) zero x below = refl
slice_get-set_same (y ∷ xs) (suc k) x below = slice_get-set_same xs k x (omega arith)

pub slice_get-set_other : {X : Type 0} (xs : List X) (k j : ℕ) (x : X) → j ≢ k → slice_get (set xs k x) j ≡ slice_get xs j
slice_get-set_other [] k j x not = refl
slice_get-set_other (y ∷ xs) zero zero x not = absurd (not refl)
slice_get-set_other (y ∷ xs) zero (suc j) x not = refl
slice_get-set_other (y ∷ xs) (suc k) zero x not = refl
slice_get-set_other (y ∷ xs) (suc k) (suc j) x not = slice_get-set_other xs k j x (λ e. not (ap suc e))

some_is : {X : Type 0} (x y : X) → Some x ≡ Some y → x ≡ y
some_is x y e = cc e

module _ {O Call Reply : Type 0} (lock : TurnLock O Call Reply) where
  pub all_set : (ps : List (Pass O)) (k : ℕ) (p q : Pass O) → AllPasses lock ps → k < length ps → slice_get ps k ≡ Some p → IsPassOf lock q → worker_of q ≡ worker_of p → AllPasses lock (set ps k q)
  all_set ps k p q all there at of_ same j r is = by (cases_eq j k)
    where
      by : (j ≡ k) ⊎ (j ≢ k) → IsPassOf lock r × (worker_of r ≡ j)
      by (inl e) =
          let here : q ≡ r = some_is q r (sym (slice_get-set_same ps k q there) ∙ (ap (slice_get (set ps k q)) (sym e) ∙ is)) in
          subst (λ (z : Pass O). IsPassOf lock z × (worker_of z ≡ j)) here (of_, same ∙ ((all k p at).1 ∙ sym e))
      by (inr not) = all j r (sym (slice_get-set_other ps k j q not) ∙ is)

-- the first pass found the run over, and made no call since
pub saw_over : {S K C : Type 0} (machine : K → Machine S C) (shared_of : K → S → Type 0) (context_of : K → C → Type 0) (first : Whole S K C) (ps qs : List (Pass (Whole S K C))) (hand : Hand C)
    → 0 < length qs → HoldsAt machine shared_of context_of first ps 0 hand → slice_get qs 0 ≡ slice_get ps 0 → hand ≡ hands.Over → SawOver machine shared_of context_of first qs
saw_over machine shared_of context_of first ps [] hand some holds same over = absurd (omega arith)
saw_over {S} {K} {C} machine shared_of context_of first ps (q ∷ qs) hand some holds same over =
    let h = subst (λ (x : Hand C). Holds machine shared_of context_of first (seen_of q) (worker_of q) x) over (holds q (sym same)) in
    record { number = 0; pass = q; there = refl; end = h.0; over = h.1 }

take_left : {X : Type 0} (xs ys : List X) → take (length xs) (xs ++ ys) ≡ xs
take_left [] ys = refl
take_left (x ∷ xs) ys = ap (λ (zs : List _). x ∷ zs) (take_left xs ys)

-- as many elements, written over all
pub written : {X : Type 0} (new old : List X) (n : ℕ) → length new ≡ n → take n (new ++ drop (length new) old) ≡ new
written new old n long = ap (λ (k : ℕ). take k (new ++ drop (length new) old)) (sym long) ∙ take_left new (drop (length new) old)
