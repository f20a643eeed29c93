-- What each worker has found when it is done.
use Rattle.std.specs.Prelude.{◌≡◌, ℕ, List, slice_get, Some}
use Rattle.ak_trace.specs.declared.endings.End.{End}
use Rattle.turn_lock.specs.declared.lock.Pass.{Pass}
use Rattle.turn_lock.specs.declared.lock.TurnLock.{TurnLock}
use Rattle.turn_lock.specs.Locks.{IsPassOf, first_of, worker_of}
use Rattle.flat_rules.specs.Machine.{Machine}
use Rattle.world_rules.specs.declared.calls.Found.TheVariants as found
use Rattle.world_rules.specs.Whole.{Whole}
use Rattle.ak_world.specs.Turns.{Finds}

module _ {S K C Call Reply : Type 0} (machine : K → Machine S C) (shared_of : K → S → Type 0) (context_of : K → C → Type 0) (lock : TurnLock (Whole S K C) Call Reply) where
  -- the last call of the pass was `find`, and it answered that the run is over, with this end
  pub record FoundOver (pass : Pass (Whole S K C)) : Type 0 where
    pub before : Pass (Whole S K C)
    pub of_lock : IsPassOf lock before
    pub same : worker_of pass ≡ worker_of before
    pub end : End
    pub finds : Finds machine shared_of context_of (first_of lock) before pass (found.Over end)

  -- so it was with each pass
  abbrev pub EachFoundOver : List (Pass (Whole S K C)) → Type 0
  EachFoundOver passes = (number : ℕ) (pass : Pass (Whole S K C)) → slice_get passes number ≡ Some pass → FoundOver pass
