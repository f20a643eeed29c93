-- A small machine on which journals are worked by hand: a thread is the list of its deeds.
use Rattle.std.specs.Prelude.{ℕ, zero, suc, ◌+◌, ◌-◌, ◌*◌, ◌==◌, Bool, true, false, not, nat_lt, nat_le, if◌then◌else◌, List, [], ◌∷◌, count_by, map, Option, Some, None, ℤ, pos}
use Rattle.ak_trace.specs.declared.entry.Entry.{Entry}
use Rattle.flat_rules.specs.Entries.{turn_entry, evacuation_entry, barrier_entry, served_entry}
use Rattle.flat_rules.specs.Machine.{Machine, Progress, blank, works, steps, Acted, Cleared, Swept, Turned, stepped, got, made_thread, refused_thread, found_busy, wants_room, rested, ended}

-- `safe` is a safepoint at a round's end; `spin` goes round for ever
pub data Deed : Type 0 where
  safe : Deed
  spin : Deed
  store : Deed
  lock : Deed
  unlock : Deed
  start : Deed
  join : (thread : ℕ) → Deed
  alloc : Deed
  stop : (value : ℤ) → Deed

-- what a thread waits for
pub data Want : Type 0 where
  nothing : Want
  key : Want
  other : (thread : ℕ) → Want
  room : Want

-- a thread: what it has still to do, its turns in the last `local`, whether it then stood to rest, and what it waits for
pub record Thread : Type 0 where
  pub number : ℕ
  pub deeds : List Deed
  pub did : ℕ
  pub rests : Bool
  pub want : Want
  pub progress : Progress

-- a mutex, the threads that were made and those that ended, how many objects still find room, how many were made, and the entries of the last event
pub record Common : Type 0 where
  pub held : Bool
  pub made : ℕ
  pub ends : List ℕ
  pub free : ℕ
  pub objects : ℕ
  pub entries : List Entry

-- the thread is one of these
abbrev pub has : List ℕ → ℕ → Bool
has [] t = false
has (k ∷ ks) t = if k == t then true else has ks t

-- the rounds that end at once, and what is left then
abbrev pub rounds : List Deed → ℕ
rounds (safe ∷ ds) = suc (rounds ds)
rounds _ = 0

-- what is left behind them
abbrev pub behind : List Deed → List Deed
behind (safe ∷ ds) = behind ds
behind ds = ds

-- a thread goes on up to its next deed; one that spins rests after 1,024 rounds
abbrev pub work : List Deed → Thread → Thread
work (spin ∷ ds) t = record t { deeds = spin ∷ ds; did = t.did + 1024; rests = true; progress = steps }
work ds t = record t { deeds = ds; progress = steps }

-- a thread rests at a safepoint, if one is next
abbrev pub rest_at : List Deed → Thread → Thread
rest_at (safe ∷ ds) t = record t { deeds = ds; did = 1; rests = true; progress = steps }
rest_at (spin ∷ ds) t = record t { deeds = spin ∷ ds; did = 1; rests = true; progress = steps }
rest_at _ t = record t { did = 0; rests = false; progress = steps }

-- with 0 it rests at its first safepoint, and else goes on
abbrev pub local_by : ℕ → Thread → Thread
local_by zero t = rest_at t.deeds t
local_by (suc n) t = work (behind t.deeds) (record t { did = rounds t.deeds; rests = false })

-- a turn that ends so, with its entry, what the threads share then, and what this one has still to do and waits for
abbrev pub comes_to : Common → Thread → Turned → Common → Want → List Deed → Acted Common Thread
comes_to s t turned after want ds = record { local = t.did; turned = turned; shared = record after { entries = turn_entry 0 t.number t.did turned ∷ [] }; context = record t { deeds = ds; want = want; did = 0; rests = false; progress = works } }

-- what a deed comes to
abbrev pub deed_by : Deed → List Deed → Common → Thread → Acted Common Thread
deed_by lock ds s t = if s.held then comes_to s t found_busy s key (lock ∷ ds) else comes_to s t stepped (record s { held = true }) nothing ds
deed_by unlock ds s t = comes_to s t stepped (record s { held = false }) nothing ds
deed_by start ds s t = if nat_lt s.made 64 then comes_to s t (made_thread s.made) (record s { made = s.made + 1 }) nothing ds else comes_to s t refused_thread s nothing ds
deed_by (join k) ds s t = if has s.ends k then comes_to s t stepped s nothing ds else comes_to s t found_busy s (other k) (join k ∷ ds)
deed_by alloc ds s t = if nat_le s.free 0 then comes_to s t wants_room s room ds else comes_to s t (got s.objects (16 * s.objects)) (record s { free = s.free - 1; objects = s.objects + 1 }) nothing ds
deed_by (stop v) ds s t = comes_to s t (ended v) (record s { ends = t.number ∷ s.ends }) nothing ds
deed_by _ ds s t = comes_to s t stepped s nothing ds

-- a rest, the next deed, or the end of a thread that has no more to do
abbrev pub act_by : Bool → List Deed → Common → Thread → Acted Common Thread
act_by true ds s t = comes_to s t rested s nothing ds
act_by false [] s t = deed_by (stop (pos 0)) [] s t
act_by false (d ∷ ds) s t = deed_by d ds s t

-- what is waited for has come
abbrev pub ready_by : Want → Common → Bool
ready_by nothing s = true
ready_by key s = not s.held
ready_by (other t) s = has s.ends t
ready_by room s = false

-- it is room that is waited for
abbrev pub waits_by : Want → Bool
waits_by room = true
waits_by _ = false

-- a barrier makes room for two objects
abbrev pub object_of : Common → Option (ℕ × ℕ)
object_of s = if nat_le s.free 0 then None else Some (s.objects, 16 * s.objects)

-- with that object made
abbrev pub taken : Common → Common
taken s = if nat_le s.free 0 then s else record s { free = s.free - 1; objects = s.objects + 1 }

-- the threads that wait for room are served in rising order
abbrev pub serve : Common → List (Option Thread) → Swept Common Thread
serve s [] = record { shared = s; homes = []; served = [] }
serve s (None ∷ hs) = let r : Swept Common Thread = serve s hs in record r { homes = None ∷ r.homes }
serve s (Some t ∷ hs) = serve_by (waits_by t.want) s t (serve (if waits_by t.want then taken s else s) hs)
  where
    serve_by : Bool → Common → Thread → Swept Common Thread → Swept Common Thread
    serve_by true s t r = record r { homes = Some (record t { want = nothing }) ∷ r.homes; served = record { thread = t.number; object = object_of s } ∷ r.served }
    serve_by false s t r = record r { homes = Some t ∷ r.homes }

-- the thread waits for room
abbrev pub is_waiting : Option Thread → Bool
is_waiting None = false
is_waiting (Some t) = waits_by t.want

-- with the barrier's entries
abbrev pub tell : List (Option Thread) → Swept Common Thread → Swept Common Thread
tell hs r = record r { shared = record r.shared { entries = barrier_entry 0 (nat_lt 0 (count_by is_waiting hs)) ∷ map (served_entry 0) r.served } }

-- an evacuation moves an object where two or more were made
abbrev pub evacuates_by : Bool → Common → Cleared Common
evacuates_by true s = record { moved = true; shared = record s { entries = evacuation_entry 0 ∷ [] } }
evacuates_by false s = record { moved = false; shared = record s { entries = [] } }

-- the machine, by what each thread has to do
abbrev pub toy : (ℕ → List Deed) → Machine Common Thread
toy code = record {
  blank = λ k. record { number = k; deeds = []; did = 0; rests = false; want = nothing; progress = blank };
  thread_of = λ t. t.number;
  begin = λ s t. record t { deeds = code t.number; progress = works };
  local = λ n t. local_by n t;
  act = λ s t. act_by t.rests t.deeds s t;
  barrier = λ s hs. tell hs (serve (record s { free = 2 }) hs);
  evacuation = λ s hs. evacuates_by (nat_le 2 s.objects) s;
  is_ready = λ s t. ready_by t.want s;
  waits = λ t. waits_by t.want;
  threads = λ s. s.made;
  made = λ s. s.entries;
  progress = λ t. t.progress;
  stands = λ t. true;
  has_ended = λ s t. has s.ends t;
}

-- what they share before anything has run
abbrev pub common : Common
common = record { held = false; made = 1; ends = []; free = 2; objects = 0; entries = [] }
