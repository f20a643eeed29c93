-- The threads that are out, as a replay has them in its hands, and the call that an entry names.
use Rattle.std.specs.Prelude.{ℕ, ◌==◌, ◌||◌, Bool, false, nat_lt, if◌then◌else◌, List, map, slice_set, slice_index_or, Option, Some, None}
use Rattle.ak_trace.specs.declared.entry.Entry.{Entry}
use Rattle.ak_trace.specs.Kinds as kind
use Rattle.flat_rules.specs.Machine.{Machine}
use Rattle.flat_rules.specs.States.{Place, out}
use Rattle.flat_rules.specs.States as rules
use Rattle.flat_rules.specs.Events.{most_local}
use Rattle.world_rules.specs.declared.calls.Found.{Found}
use Rattle.world_rules.specs.declared.calls.Found.TheVariants as found
use Rattle.world_rules.specs.declared.calls.Acted.{Acted}
use Rattle.world_rules.specs.declared.calls.Acted.TheVariants as acted
use Rattle.world_rules.specs.declared.calls.Call.TheVariants as call
use Rattle.world_rules.specs.Whole.{Whole}
use Rattle.world_rules.specs.Calls.{after, finds, acts}
use Rattle.flat_replay.specs.declared.driver.Mood.{Mood}
use Rattle.flat_replay.specs.declared.driver.Mood.TheVariants as mood
use Rattle.flat_replay.specs.declared.driver.Hand.{Hand}

-- a state's mood
abbrev pub mood_of : rules.Mood → Mood
mood_of rules.free = mood.Free
mood_of rules.asked = mood.Asked
mood_of rules.must = mood.Must

-- once asked home since it went out, a thread stays so
abbrev pub mood_after : Mood → Bool → Mood
mood_after mood.Free false = mood.Free
mood_after _ _ = mood.Asked

module _ {C : Type 0} where
  abbrev pub hand : (worker : ℕ) → C → Mood → Hand C
  hand w c m = record { worker = w; ctx = c; mood = m }

  -- a thread that is out
  abbrev pub hand_of : Place C → Option (Hand C)
  hand_of (out w c n m) = Some (hand w c (mood_of m))
  hand_of _ = None

  abbrev pub hands_of : List (Place C) → List (Option (Hand C))
  hands_of places = map hand_of places

  abbrev pub hand_at : List (Option (Hand C)) → ℕ → Option (Hand C)
  hand_at hands t = slice_index_or hands t None

  -- if it is out with the worker
  abbrev pub with_worker : ℕ → Option (Hand C) → Option (Hand C)
  with_worker w None = None
  with_worker w (Some h) = if h.worker == w then Some h else None

  -- a thread after its step, where it is still out
  abbrev pub hand_acted : (worker : ℕ) → Mood → Acted C → Option (Hand C)
  hand_acted w m (acted.Went c asks) = Some (hand w c (mood_after m asks))
  hand_acted w m (acted.Rested c) = Some (hand w c mood.Must)
  hand_acted w m (acted.Busy c) = Some (hand w c mood.Must)
  hand_acted w m (acted.WaitRoom c) = Some (hand w c mood.Must)
  hand_acted w m _ = None

  -- those that are out after a worker looked for work
  abbrev pub hands_found : {S : Type 0} → Machine S C → (worker : ℕ) → Found C → List (Option (Hand C)) → List (Option (Hand C))
  hands_found m w (found.Work c) hands = slice_set hands (m.thread_of c) (Some (hand w c mood.Free))
  hands_found m w _ hands = hands

-- the world and those that are out after a call
abbrev pub Called : (S K C : Type 0) → Type 0
Called S K C = Option (Whole S K C × List (Option (Hand C)))

module _ {S K C : Type 0} (machine : K → Machine S C) (x : Whole S K C) (hands : List (Option (Hand C))) (w : ℕ) where
  -- a worker looks for work
  abbrev pub sought : Called S K C
  sought = Some (after machine x w call.Find, hands_found (machine x.code) w (finds machine x w).0 hands)

  module _ (t : ℕ) where
    -- a context that was moved on takes its step
    abbrev pub acted_on : Mood → C → Called S K C
    acted_on m d = Some (after machine x w (call.Act d), slice_set hands t (hand_acted w m (acts machine x w d).0))

    -- a thread that is out takes its step
    abbrev pub steps_as : Mood → C → Called S K C
    steps_as mood.Free c = acted_on mood.Free ((machine x.code).local most_local c)
    steps_as mood.Asked c = acted_on mood.Asked ((machine x.code).local 0 c)
    steps_as mood.Must c = None

    abbrev pub stepped : Option (Hand C) → Called S K C
    stepped None = None
    stepped (Some h) = if h.worker == w then steps_as h.mood h.ctx else None

    -- it comes home
    abbrev pub homes_as : Mood → C → Called S K C
    homes_as mood.Must c = Some (after machine x w (call.Home c), slice_set hands t None)
    homes_as _ c = None

    abbrev pub homed : Option (Hand C) → Called S K C
    homed None = None
    homed (Some h) = if h.worker == w then homes_as h.mood h.ctx else None

  -- the call that an entry of such a kind names, for a thread
  abbrev pub called_as : (kind thread : ℕ) → Called S K C
  called_as k t =
      if (k == kind.out) || (k == kind.barrier) then sought
      else (if k == kind.turn then stepped t (hand_at hands t)
      else (if k == kind.home then homed t (hand_at hands t) else None))

  -- where the worker is one of the run
  abbrev pub called_by : (kind thread : ℕ) → Called S K C
  called_by k t = if nat_lt w x.settings.workers then called_as k t else None

-- the call that an entry tells of, where one of the run's workers may make it
abbrev pub called : {S K C : Type 0} → (K → Machine S C) → Whole S K C → List (Option (Hand C)) → Entry → Called S K C
called machine x hands e = called_by machine x hands e.worker e.kind e.thread
