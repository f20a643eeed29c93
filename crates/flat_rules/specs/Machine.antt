-- A flat machine with its code, as far as the rules of the shared world see it: its operations, on plain data.
-- `S` is what the threads share, `C` one thread's context.
use Rattle.std.specs.Prelude.{ℕ, Bool, true, false, List, Option, ℤ}
use Rattle.ak_trace.specs.declared.entry.Entry.{Entry}
use Rattle.ak_trace.specs.declared.endings.TrapKind.{TrapKind}

-- how a turn ended, with what its entry tells beside
pub data Turned : Type 0 where
  looked : Turned
  stepped : Turned
  got : (id place : ℕ) → Turned
  got_null : Turned
  made_thread : (number : ℕ) → Turned
  refused_thread : Turned
  found_busy : Turned
  wants_room : Turned
  rested : Turned
  ended : (value : ℤ) → Turned
  trapped : (word : ℕ) → TrapKind → Turned
  passed_limit : Turned
  lacked_stack : Turned

-- what the pending step of a thread comes to, with the turns that it did by itself before
pub record Acted (S C : Type 0) : Type 0 where
  pub local : ℕ
  pub turned : Turned
  pub shared : S
  pub context : C

-- a thread that waited for room and was served: it got an object of this id at this place, or null
pub record Served : Type 0 where
  pub thread : ℕ
  pub object : Option (ℕ × ℕ)

-- what a barrier comes to, with those that it served, in order
pub record Swept (S C : Type 0) : Type 0 where
  pub shared : S
  pub homes : List (Option C)
  pub served : List Served

-- what an evacuation comes to: whether it moved an object, and what it leaves. Where it moved none, that is what was there
pub record Cleared (S : Type 0) : Type 0 where
  pub moved : Bool
  pub shared : S

-- how far a context is: not begun, about to work by itself, or at its pending step
pub data Progress : Type 0 where
  blank : Progress
  works : Progress
  steps : Progress

-- what the rules of a run ask of a machine: its contexts, what its threads share, and what each call makes of them
pub record Machine (S C : Type 0) : Type 0 where
  -- the context of a thread of this number, which has not begun
  pub blank : ℕ → C
  -- the number of the context's thread
  pub thread_of : C → ℕ
  -- the context at the start of its thread's function
  pub begin : S → C → C
  -- the context after one call of `local` with this `most`
  pub local : ℕ → C → C
  -- the pending step is done
  pub act : S → C → Acted S C
  -- all slots are united, the objects slid, and then those served that wait for room
  pub barrier : S → List (Option C) → Swept S C
  -- all slots are united, and the objects of thin sub-heaps moved out of them, where there is a move; the contexts stay as they are
  pub evacuation : S → List (Option C) → Cleared S
  -- whether a thread at home waits for nothing, or for a mutex whose word is now 0, or for a thread that has ended
  pub is_ready : S → C → Bool
  -- whether the thread waits at an allocation for which no barrier has served it yet
  pub waits : C → Bool
  -- how many threads were made
  pub threads : S → ℕ
  -- the entries of the last step or barrier, with worker 0
  pub made : S → List Entry
  -- how far the context is
  pub progress : C → Progress
  -- whether the thread stands at a safepoint
  pub stands : C → Bool
  -- whether the thread of this number has ended
  pub has_ended : S → ℕ → Bool

module _ {S C : Type 0} (m : Machine S C) where
  -- what a barrier finds: with the setting an evacuation came first
  abbrev pub cleared : (evacuates : Bool) → S → List (Option C) → Cleared S
  cleared true s homes = m.evacuation s homes
  cleared false s homes = record { moved = false; shared = s }

  -- a barrier, behind the evacuation that the setting asks for
  abbrev pub sweep : (evacuates : Bool) → S → List (Option C) → Swept S C
  sweep on s homes = m.barrier (cleared on s homes).shared homes
