-- What a thread has behind its pending step, and what it reads for it.
use Rattle.std.specs.Prelude.{ℕ, ◌+◌, ◌<◌, List, [], All, length, slice_set, Option, Some, None}
use Rattle.std.specs.Option.{ForSome}
use Rattle.struct_ir.specs.Nodes.{Place, Step, own_list}
use Rattle.struct_ir.specs.Linear.{Spot}
use Rattle.struct_ir.specs.Machine.{Point}
use Rattle.struct_ir.specs.Threads.{Thread}
use Rattle.flat_meaning.specs.Effects.{landing}
use Rattle.flat_meaning.specs.Words.{Words, none_used, set_if, with_slots, with_temps}
use Rattle.flat_meaning.specs.Stages.{Stage, starts, going, waiting, landed}
use Rattle.flat_threads.specs.Contexts.{Context}

-- ---- the call under way

-- a call of nothing
abbrev pub no_point : Point Spot Words
no_point = record { at = record { function = 0; index = 0 }; own = record { function = 0; temps = []; slots = []; below = none_used } }

-- of a stage
abbrev pub top_at : Option (Stage Spot) → Point Spot Words
top_at None = no_point
top_at (Some (starts function argument)) = no_point
top_at (Some (going t)) = t.top
top_at (Some (waiting t)) = t.top
top_at (Some (landed list t)) = t.top

-- of a context
abbrev pub top_of : Context → Point Spot Words
top_of c = top_at c.stage

-- a place names registers and slots of a call
abbrev pub IsPlaceOf : Words → Place → Type 0
IsPlaceOf l a = (a.base < length l.temps) × ForSome a.index (λ i. i < length l.temps) × ForSome a.slot (λ s. s < length l.slots)

-- so does each
abbrev pub ArePlacesOf : Words → List Place → Type 0
ArePlacesOf l places = All (IsPlaceOf l) places

-- ---- behind its pending step

-- at the instruction behind, with these registers and slots
abbrev pub thread_behind : Thread Spot Words → Words → Thread Spot Words
thread_behind t l = record { top = record { at = record { function = t.top.at.function; index = t.top.at.index + 1 }; own = l }; callers = t.callers }

-- behind a Look, which has set a slot
abbrev pub looked_thread : Thread Spot Words → (slot word address : ℕ) → Thread Spot Words
looked_thread t slot word address = thread_behind t (with_slots t.top.own (slice_set t.top.own.slots slot (record { word = word; address = address })))

-- its stage
abbrev pub looked_stage : Option (Stage Spot) → (slot word address : ℕ) → Option (Stage Spot)
looked_stage None slot word address = None
looked_stage (Some (starts function argument)) slot word address = Some (starts function argument)
looked_stage (Some (going t)) slot word address = Some (going (looked_thread t slot word address))
looked_stage (Some (waiting t)) slot word address = Some (going (looked_thread t slot word address))
looked_stage (Some (landed list t)) slot word address = Some (going (looked_thread t slot word address))

-- a step's word, if it gives one
abbrev pub with_word : Words → (to : Option ℕ) → (word : Option ℕ) → Words
with_word l to None = l
with_word l to (Some word) = with_temps l (set_if l.temps to word)

-- behind a step that gave a word or none: where it has a list, the thread has landed
abbrev pub stepped : Step → Thread Spot Words → (word : Option ℕ) → Stage Spot
stepped s t word = landing (own_list s) (thread_behind t (with_word t.top.own s.to word))

-- its stage
abbrev pub landed_stage : Step → Option (Stage Spot) → (word : Option ℕ) → Option (Stage Spot)
landed_stage s None word = None
landed_stage s (Some (starts function argument)) word = Some (starts function argument)
landed_stage s (Some (going t)) word = Some (stepped s t word)
landed_stage s (Some (waiting t)) word = Some (stepped s t word)
landed_stage s (Some (landed list t)) word = Some (stepped s t word)

-- before a step that couldn't be done
abbrev pub waiting_stage : Option (Stage Spot) → Option (Stage Spot)
waiting_stage None = None
waiting_stage (Some (starts function argument)) = Some (starts function argument)
waiting_stage (Some (going t)) = Some (waiting t)
waiting_stage (Some (waiting t)) = Some (waiting t)
waiting_stage (Some (landed list t)) = Some (waiting t)
