-- All passes, once each worker found the run over.
use Rattle.std.proofs.Common.{◌≡◌, ℕ, ◌<◌, List, [], ◌∷◌, length, slice_get, get_or, Some, subst, ◌∙◌, arith}
use Rattle.std.proofs.lemmas.Option.{slice_get_within, get_or_from_slice_get, slice_get-get_or}
use Rattle.turn_lock.specs.declared.lock.Pass.{Pass}
use Rattle.turn_lock.specs.declared.lock.TurnLock.{TurnLock}
use Rattle.turn_lock.specs.Locks.{IsPassOf, AllPasses, first_of, worker_of}
use Rattle.flat_rules.specs.Machine.{Machine}
use Rattle.world_rules.specs.Whole.{Whole}
use Rattle.ak_world.specs.Turns.{SawOver}
use Rattle.ak_crew.specs.Overs.{FoundOver, EachFoundOver}

module _ {S K C Call Reply : Type 0} (machine : K → Machine S C) (shared_of : K → S → Type 0) (context_of : K → C → Type 0) (lock : TurnLock (Whole S K C) Call Reply) where
  -- what a worker leaves of its pass
  abbrev pub Left : Pass (Whole S K C) → Pass (Whole S K C) → Type 0
  Left before after = IsPassOf lock after × (worker_of after ≡ worker_of before) × FoundOver machine shared_of context_of lock after

  pub carried : (x x' y y' : Pass (Whole S K C)) → x' ≡ x → y' ≡ y → Left x' y' → Left x y
  carried x x' y y' before after left = subst (λ (z : Pass (Whole S K C) × Pass (Whole S K C)). Left z.0 z.1) (λ i. (before i, after i)) left

  module _ (xs ys : List (Pass (Whole S K C))) (many : length ys ≡ length xs) (all : AllPasses lock xs) (left : (k : ℕ) (d : Pass (Whole S K C)) → k < length xs → Left (get_or xs k d) (get_or ys k d)) where
    within : (k : ℕ) (p : Pass (Whole S K C)) → slice_get ys k ≡ Some p → k < length xs
    within k p is = let a = slice_get_within ys k p is in omega arith

    left_at : (k : ℕ) (p : Pass (Whole S K C)) → slice_get ys k ≡ Some p → Left (get_or xs k p) p
    left_at k p is = subst (Left (get_or xs k p)) (get_or_from_slice_get ys k p p is) (left k p (within k p is))

    pub all_left : AllPasses lock ys
    all_left k p is = let h = left_at k p is in (h.0, h.1 ∙ (all k (get_or xs k p) (slice_get-get_or xs k p (within k p is))).1)

    pub each_over : EachFoundOver machine shared_of context_of lock ys
    each_over k p is = (left_at k p is).2

  -- and some pass has seen it
  pub saw_over : (xs ys : List (Pass (Whole S K C))) → 0 < length xs → length ys ≡ length xs → ((k : ℕ) (d : Pass (Whole S K C)) → k < length xs → Left (get_or xs k d) (get_or ys k d)) → SawOver machine shared_of context_of (first_of lock) ys
  saw_over [] ys some many left = absurd (omega arith)
  saw_over (x ∷ xs) ys some many left = let h = left 0 x some in record {
    number = 0;
    pass = get_or ys 0 x;
    there = slice_get-get_or ys 0 x (omega arith);
    end = h.2.end;
    over = h.2.finds.says;
  }
