-- What a pass has in hand, and what it may do with it.
use Rattle.std.specs.Prelude.{◌≡◌, ℕ, Bool, true, false, List, slice_get, Some}
use Rattle.ak_trace.specs.declared.entry.Entry.{Entry}
use Rattle.ak_trace.specs.declared.endings.End.{End}
use Rattle.turn_lock.specs.declared.lock.Pass.{Pass}
use Rattle.turn_lock.specs.Locks.{seen_of, worker_of}
use Rattle.flat_rules.specs.Machine.{Machine}
use Rattle.flat_rules.specs.States.{Mood, free, asked}
use Rattle.world_rules.specs.declared.calls.Call.TheVariants as call
use Rattle.world_rules.specs.Whole.{Whole}
use Rattle.world_rules.specs.Allowed.{IsOut, IsOver, MayCall}
use Rattle.world_rules.specs.Sound.{MayWork}
use Rattle.rows.specs.declared.machine.driving.Hand.{Hand}
use Rattle.rows.specs.declared.machine.driving.Hand.TheVariants as hands

-- how a thread goes on that was asked home, or not
abbrev pub mood_of : Bool → Mood
mood_of true = asked
mood_of false = free

-- how many turns it then does by itself at most
abbrev pub most_of : Bool → ℕ
most_of true = 0
most_of false = 1024

module _ {S K C : Type 0} (machine : K → Machine S C) (shared_of : K → S → Type 0) (context_of : K → C → Type 0) (first : Whole S K C) where
  -- a thread that is out with the worker may work and then act; one that is due may come home; and the run was seen to be over
  abbrev pub Holds : List Entry → (worker : ℕ) → Hand C → Type 0
  Holds log w hands.Free = Unit {0}
  Holds log w (hands.Out c asks) = IsOut machine first log w ((machine first.code).thread_of c) c (mood_of asks) × MayWork machine shared_of context_of first.code c
  Holds log w (hands.Due c) = MayCall machine first log w (call.Home c)
  Holds log w hands.Over = (end : End) × IsOver machine first log end

  -- of the pass of a number
  abbrev pub HoldsAt : List (Pass (Whole S K C)) → ℕ → Hand C → Type 0
  HoldsAt passes k hand = (p : Pass (Whole S K C)) → slice_get passes k ≡ Some p → Holds (seen_of p) (worker_of p) hand
