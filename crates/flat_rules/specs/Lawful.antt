-- What the rules ask of a flat machine beyond its operations, where what is shared is that of a run, and so is each context.
use Rattle.std.specs.Prelude.{◌≡◌, ℕ, ◌+◌, ◌<◌, ◌≤◌, ◌==◌, ◌&&◌, ◌||◌, ◌⊎◌, Bool, true, false, if◌then◌else◌, nat_lt, count_by, List, [], ◌∷◌, length, map, All, Option, Some, None}
use Rattle.std.specs.List.{AllZip}
use Rattle.flat_rules.specs.Machine.{Machine, Cleared, Swept, blank, works, steps, Acted, Turned, ended, wants_room}
use Rattle.flat_rules.specs.Entries.{turn_entry, evacuation_entry, barrier_entry, served_entry}
use Rattle.flat_rules.specs.States.{most_threads}
use Rattle.flat_rules.specs.Events.{most_local, back, away, goes}

-- the thread ended by this turn, or waits for room by it
abbrev pub is_end : Turned → Bool
is_end (ended value) = true
is_end _ = false

-- the turn ended as an allocation that waits for room
abbrev pub is_for_room : Turned → Bool
is_for_room wants_room = true
is_for_room _ = false

-- each at its place, as `at` says of the number and the element
abbrev pub EachAt : {A : Type 0} → (ℕ → A → Type 0) → ℕ → List A → Type 0
EachAt at k [] = Unit {0}
EachAt at k (a ∷ as') = at k a × EachAt at (k + 1) as'

module _ {S C : Type 0} (m : Machine S C) where
  -- where so many threads were made: a context at home is that of its place's thread and stands at a safepoint; no step of it is pending: it has not
  -- begun, or its thread was made and works
  pub record IsAtHome (threads k : ℕ) (c : C) : Type 0 where
    pub thread : m.thread_of c ≡ k
    pub stands : m.stands c ≡ true
    pub rests : (m.progress c ≡ blank) ⊎ ((m.progress c ≡ works) × (k < threads))

  -- a place of the list that `barrier` is handed: that of a thread that was made and has not ended has its context
  abbrev pub IsHomeAt : S → ℕ → Option C → Type 0
  IsHomeAt s k None = k < m.threads s → m.has_ended s k ≡ true
  IsHomeAt s k (Some c) = IsAtHome (m.threads s) k c

  abbrev pub AreHome : S → List (Option C) → Type 0
  AreHome s homes = (m.threads s ≤ length homes) × EachAt (IsHomeAt s) 0 homes

  -- a step's entry, and those of a barrier
  abbrev pub StepMakes : S → C → Type 0
  StepMakes s c = let a = m.act s c in m.made a.shared ≡ turn_entry 0 (m.thread_of c) a.local a.turned ∷ []

  abbrev pub waits_at_home : Option C → Bool
  waits_at_home None = false
  waits_at_home (Some c) = m.waits c

  abbrev pub BarrierMakes : S → List (Option C) → Type 0
  BarrierMakes s homes = let b = m.barrier s homes in m.made b.shared ≡ barrier_entry 0 (nat_lt 0 (count_by waits_at_home homes)) ∷ map (served_entry 0) b.served

  -- `begin` keeps the thread's number, and leads to work; the thread waits for nothing
  pub record Begins (ContextOf : C → Type 0) (s : S) (c : C) : Type 0 where
    pub of_ : ContextOf (m.begin s c)
    pub thread : m.thread_of (m.begin s c) ≡ m.thread_of c
    pub progress : m.progress (m.begin s c) ≡ works
    pub waits : m.waits (m.begin s c) ≡ m.waits c

  -- `local` keeps the number too, and leads to the pending step
  pub record Works (ContextOf : C → Type 0) (n : ℕ) (c : C) : Type 0 where
    pub of_ : ContextOf (m.local n c)
    pub thread : m.thread_of (m.local n c) ≡ m.thread_of c
    pub progress : m.progress (m.local n c) ≡ steps
    pub waits : m.waits (m.local n c) ≡ m.waits c

  -- a step that leaves the thread with its worker, or sends it home: then it stands at a safepoint, and it waits for room just after the step that says so
  pub record Goes_on (ContextOf : C → Type 0) (a : Acted S C) (c : C) : Type 0 where
    pub of_ : ContextOf a.context
    pub thread : m.thread_of a.context ≡ m.thread_of c
    pub progress : m.progress a.context ≡ works
    pub waits : m.waits a.context ≡ is_for_room a.turned
    pub stands : goes a.turned ≡ back → m.stands a.context ≡ true

  -- what is shared after a step of thread t: no thread is unmade, and just t may have ended
  pub record Leaves (SharedOf : S → Type 0) (s : S) (t : ℕ) (a : Acted S C) : Type 0 where
    pub of_ : SharedOf a.shared
    pub more : m.threads s ≤ m.threads a.shared
    pub most : m.threads a.shared ≤ most_threads
    pub ends : (k : ℕ) → m.has_ended a.shared k ≡ (m.has_ended s k || ((k == t) && is_end a.turned))

  -- a context at home after a barrier: it is as it was, but that it no longer waits for room
  abbrev pub KeptAt : (ContextOf : C → Type 0) → Option C → Option C → Type 0
  KeptAt ContextOf None None = Unit {0}
  KeptAt ContextOf (Some c) (Some d) = ContextOf d × (m.thread_of d ≡ m.thread_of c) × (m.progress d ≡ m.progress c) × (m.stands d ≡ m.stands c) × (m.waits d ≡ false)
  KeptAt ContextOf _ _ = ⊥

  pub record Sweeps (SharedOf : S → Type 0) (ContextOf : C → Type 0) (s : S) (homes : List (Option C)) (b : Swept S C) : Type 0 where
    pub of_ : SharedOf b.shared
    pub kept : AllZip (KeptAt ContextOf) homes b.homes
    pub threads : m.threads b.shared ≡ m.threads s
    pub ends : (k : ℕ) → m.has_ended b.shared k ≡ m.has_ended s k

  -- an evacuation leaves what is shared that of the run, with its threads
  pub record Clears (SharedOf : S → Type 0) (s : S) (v : Cleared S) : Type 0 where
    pub of_ : SharedOf v.shared
    pub threads : m.threads v.shared ≡ m.threads s
    pub ends : (k : ℕ) → m.has_ended v.shared k ≡ m.has_ended s k

  -- the entries of an evacuation: one where it moved an object, else none
  abbrev pub EvacuationMakes : S → List (Option C) → Type 0
  EvacuationMakes s homes = let v = m.evacuation s homes in m.made v.shared ≡ (if v.moved then evacuation_entry 0 ∷ [] else [])

  -- a thread that was made and hasn't ended has this context, which is of the run
  pub record Lives (SharedOf : S → Type 0) (ContextOf : C → Type 0) (s : S) (c : C) : Type 0 where
    pub shared : SharedOf s
    pub context : ContextOf c
    pub made : m.thread_of c < m.threads s
    pub going : m.has_ended s (m.thread_of c) ≡ false

  -- a context at home, if there is one, is of the run
  abbrev pub IsOfRun : (ContextOf : C → Type 0) → Option C → Type 0
  IsOfRun ContextOf None = Unit {0}
  IsOfRun ContextOf (Some c) = ContextOf c

  -- all of it
  pub record IsFlat (SharedOf : S → Type 0) (ContextOf : C → Type 0) : Type 0 where
    pub blank_of : (s : S) (k : ℕ) → SharedOf s → k < most_threads → ContextOf (m.blank k)
    pub blank_thread : (k : ℕ) → m.thread_of (m.blank k) ≡ k
    pub blank_progress : (k : ℕ) → m.progress (m.blank k) ≡ blank
    pub blank_stands : (k : ℕ) → m.stands (m.blank k) ≡ true
    pub blank_waits : (k : ℕ) → m.waits (m.blank k) ≡ false
    pub few : (s : S) (homes : List (Option C)) → length (m.barrier s homes).served ≤ length homes
    pub begins : (s : S) (c : C) → Lives SharedOf ContextOf s c → m.progress c ≡ blank → Begins ContextOf s c
    pub works : (n : ℕ) (c : C) → ContextOf c → (n ≡ 0) ⊎ (n ≡ most_local) → m.progress c ≡ works → Works ContextOf n c
    pub goes_on : (s : S) (c : C) → Lives SharedOf ContextOf s c → m.progress c ≡ steps → (goes (m.act s c).turned ≡ away → ⊥) → Goes_on ContextOf (m.act s c) c
    pub leaves : (s : S) (c : C) → Lives SharedOf ContextOf s c → m.progress c ≡ steps → m.threads s ≤ most_threads → Leaves SharedOf s (m.thread_of c) (m.act s c)
    pub sweeps : (s : S) (homes : List (Option C)) → SharedOf s → All (IsOfRun ContextOf) homes → AreHome s homes → Sweeps SharedOf ContextOf s homes (m.barrier s homes)
    pub clears : (s : S) (homes : List (Option C)) → SharedOf s → All (IsOfRun ContextOf) homes → AreHome s homes → Clears SharedOf s (m.evacuation s homes)

  -- where nothing has run thread 0 alone was made, and none has ended
  pub record IsOpened (SharedOf : S → Type 0) (s : S) : Type 0 where
    pub of_ : SharedOf s
    pub one : m.threads s ≡ 1
    pub going : (k : ℕ) → m.has_ended s k ≡ false
