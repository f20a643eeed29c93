-- How far a journal has been followed.
use Rattle.std.specs.Prelude.{◌≡◌, Bool, true, false, List, ◌∷◌, [], ◌++◌, Option, Some, None}
use Rattle.ak_trace.specs.declared.entry.Entry.{Entry}
use Rattle.flat_rules.specs.Machine.{Machine}
use Rattle.flat_rules.specs.States.{RunState, start}
use Rattle.flat_rules.specs.Replays.{run, replay}
use Rattle.world_rules.specs.Whole.{Whole, LeadsFromOpening}
use Rattle.flat_replay.specs.declared.driver.Hand.{Hand}
use Rattle.flat_replay.specs.inner.Hands.{hands_of}

module _ {S K C : Type 0} (machine : K → Machine S C) (shared_of : K → S → Type 0) (first : Whole S K C) where
  -- the world is that of its journal, and the threads in hand are those that are out
  pub record IsAt (x : Whole S K C) (hands : List (Option (Hand C))) : Type 0 where
    pub reaches : LeadsFromOpening machine shared_of first x.log.entries x
    pub hands_are : hands ≡ hands_of reaches.replays.state.places

  -- the state behind entries, within an event too
  abbrev pub state_behind : List Entry → Option (RunState S C)
  state_behind log = run (machine first.code) first.settings log (start (machine first.code) first.settings first.shared)

  -- the front of a journal was followed: of the world's own entries, which end with an event, the rest is still to come
  pub record FollowsFront (front : List Entry) (x : Whole S K C) (hands : List (Option (Hand C))) : Type 0 where
    pub at : IsAt x hands
    pub rest : List Entry
    pub own : x.log.entries ≡ front ++ rest
    pub runs : state_behind front ≡ Some (record at.reaches.replays.state { due = rest })

  -- one entry more: the world follows, or none may stand there
  abbrev pub Takes : (front : List Entry) → Entry → Whole S K C → List (Option (Hand C)) → Bool → Type 0
  Takes front e x hands true = FollowsFront (front ++ e ∷ []) x hands
  Takes front e x hands false = state_behind (front ++ e ∷ []) ≡ None

  -- the journal leads to the world, or to none
  abbrev pub Comes : List Entry → Whole S K C → Bool → Type 0
  Comes log x true = (r : LeadsFromOpening machine shared_of first log x) × (replay (machine first.code) first.settings first.shared log ≡ Some r.replays.state)
  Comes log x false = replay (machine first.code) first.settings first.shared log ≡ None
