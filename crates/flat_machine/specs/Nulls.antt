-- Where an allocation gives null: at its own step just where it asks for more than a sub-heap has, and at a barrier just where, at that moment,
-- no sub-heap has room for it or no id is free; the old objects of reallocs that the barrier serves count as there.
use Rattle.std.specs.Prelude.{◌≡◌, ℕ, ◌<◌, ◌⊎◌, ◌↔◌, Bool, true, List, [], All, map, Option, Some, None}
use Rattle.std.specs.List.{range_with_len}
use Rattle.block_store.specs.Runs.{own_at}
use Rattle.handle_table.specs.Table.{IsFull}
use Rattle.sub_heaps.specs.SubHeaps.{SubHeaps, IsSound, rounded}
use Rattle.move_plan.specs.Stretches.{room_in}
use Rattle.arena_meaning.specs.Arena.{Storage, IsConsistent}
use Rattle.struct_ir.specs.Flow.{Here, does}
use Rattle.struct_ir.specs.Instrs.{LinearCode}
use Rattle.struct_ir.specs.Linear.{Spot}
use Rattle.struct_ir.specs.Nodes.{Action, Place, step}
use Rattle.flat_meaning.specs.declared.endings.Stop.TheVariants.{AtStep}
use Rattle.flat_meaning.specs.Allocations.{Allocation, allocation_of}
use Rattle.flat_meaning.specs.Allowed.{pinned}
use Rattle.flat_meaning.specs.Events.{MachineState, after_serves, moved_state, serving_state}
use Rattle.flat_meaning.specs.Image.{Image}
use Rattle.flat_meaning.specs.Stages.{Stage, thread_at}
use Rattle.flat_meaning.specs.Words.{Words, word_at}
use Rattle.flat_rules.specs.Lawful.{AreHome, IsOfRun}
use Rattle.flat_rules.specs.Machine.{Served, got_null}
use Rattle.flat_threads.specs.Belonging.{IsContextOf}
use Rattle.flat_threads.specs.Contexts.{Context}
use Rattle.flat_machine.specs.Acting.{acted_by}
use Rattle.flat_machine.specs.Choices.{is_renewable}
use Rattle.flat_machine.specs.Machine.{machine_of}
use Rattle.flat_machine.specs.Shares.{Shared, image_of}
use Rattle.flat_machine.specs.Sweeping.{at_home, serves_from, sweep_moves, swept_by}

-- ---- what an allocation asks for

-- by an action with its operands: an allocation has no places
abbrev pub asked_by : Words → Action → List Place → List ℕ → Option Allocation
asked_by l action [] temps = allocation_of action (map (word_at l) temps)
asked_by l action places temps = None

-- a word, if there is one
abbrev pub word_or_null : Option ℕ → ℕ
word_or_null None = 0
word_or_null (Some word) = word

-- the word in place of whose object it is: null but at a realloc
abbrev pub old_word : Allocation → ℕ
old_word a = word_or_null a.old

-- by what stands there
abbrev pub asked_here : Words → Here → Option Allocation
asked_here l (does place (step x)) = asked_by l x.action x.places x.temps
asked_here l here = None

-- where the thread of a stage stands
abbrev pub asked_at : Image Spot → Stage Spot → Option Allocation
asked_at x stage = let p = (thread_at x stage).top in asked_here p.own (x.flow.here p.at)

-- ---- act

-- a context's thread stands at its step, which is an allocation of more bytes than a sub-heap has, and no realloc of what isn't live
pub record AsksTooMuch (code : LinearCode) (s : Shared) (c : Context) : Type 0 where
  pub stage : Stage Spot
  pub is : c.stage ≡ Some stage
  pub stops : c.stop ≡ Some AtStep
  pub asks : Allocation
  pub asked : asked_at (image_of code s) stage ≡ Some asks
  pub above : s.memory.storage.heaps.size < asks.bytes
  pub renewable : is_renewable s.memory.storage (old_word asks) ≡ true

-- act tells of null just there
abbrev pub NullAtAct : Type 0
NullAtAct = (code : LinearCode) (s : Shared) (c : Context) → IsSound s.memory.storage.heaps → s.memory.leaving ≡ None → ((acted_by code s c).turned ≡ got_null) ↔ AsksTooMuch code s c

-- ---- barrier

-- no sub-heap has room for so many bytes, once they are rounded. `pinned` tells the places of pinned objects
abbrev pub HasNoRoom : (pinned : (at : ℕ) → Bool) → SubHeaps → (size : ℕ) → Type 0
HasNoRoom pinned h size = (number : ℕ) → number < h.count → room_in pinned h number < rounded size

-- the storage when a thread's turn comes to be served: the objects have moved, the threads below it were served, and the old objects of their
-- reallocs are there
abbrev pub storage_at_turn : Image Spot → MachineState Spot → (thread : ℕ) → Storage
storage_at_turn x s thread = let moved = serving_state (moved_state (sweep_moves x s) s) in (after_serves x (serves_from x (range_with_len 0 thread) moved) moved).memory.storage

-- a thread waited at an allocation, and was served: it got null just where there was no room for it then, or no free id
pub record IsNullForRoom (x : Image Spot) (s : MachineState Spot) (v : Served) : Type 0 where
  pub stage : Stage Spot
  pub waited : own_at s.own v.thread ≡ Some stage
  pub asks : Allocation
  pub asked : asked_at x stage ≡ Some asks
  pub null : let now = storage_at_turn x s v.thread in (v.object ≡ None) ↔ (HasNoRoom (pinned x s) now.heaps asks.bytes ⊎ IsFull now.table)

-- so it is with each thread that a barrier serves, where all contexts are at home
abbrev pub NullAtBarrier : Type 0
NullAtBarrier =
    (code : LinearCode) (s : Shared) (home : List (Option Context)) → IsConsistent s.memory.storage → All (IsOfRun (machine_of code) (IsContextOf code)) home → AreHome (machine_of code) s home
    → All (IsNullForRoom (image_of code s) (at_home s home)) (swept_by code s home).served
