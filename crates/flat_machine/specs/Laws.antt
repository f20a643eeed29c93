-- Laws of the machine's calls: each does events that may come, and the choices are the least and the lowest.
use Rattle.std.specs.Prelude.{◌≡◌, ℕ, List, [], ◌∷◌, All, length, Option, Some, None}
use Rattle.block_store.specs.Runs.{own_at}
use Rattle.handle_table.specs.Table.{IsFull, IsLeastFree}
use Rattle.sub_heaps.specs.SubHeaps.{SubHeaps, FitsAt, IsLowestFit, IsSound}
use Rattle.struct_ir.specs.Instrs.{LinearCode}
use Rattle.struct_ir.specs.Linear.{Spot}
use Rattle.flat_meaning.specs.declared.endings.Stop.{Stop}
use Rattle.flat_meaning.specs.declared.endings.Stop.TheVariants.{AtStep, Spent, NoRoom}
use Rattle.flat_meaning.specs.Image.{Image}
use Rattle.flat_meaning.specs.Memory.{Memory}
use Rattle.flat_meaning.specs.Accesses.{Choice, plain}
use Rattle.flat_meaning.specs.Stages.{Stage, Before, looks, thread_at, before}
use Rattle.flat_meaning.specs.Local.{stop_at}
use Rattle.flat_meaning.specs.Events.{MachineState, Event, look, act, barrier, put, after_all}
use Rattle.flat_meaning.specs.Allowed.{AreAllowed}
use Rattle.flat_machine.specs.Acting.{choice_for, effect_of}
use Rattle.flat_rules.specs.Lawful.{AreHome, IsFlat, IsOfRun}
use Rattle.flat_machine.specs.Choices.{least_free, lowest_fit}
use Rattle.flat_machine.specs.Clearing.{evacuation_of, cleared_by}
use Rattle.flat_threads.specs.Belonging.{IsContextOf}
use Rattle.flat_threads.specs.Contexts.{Context}
use Rattle.flat_machine.specs.Machine.{machine_of}
use Rattle.flat_machine.specs.Shares.{Shared, IsSharedOf, image_of}
use Rattle.flat_machine.specs.Sweeping.{at_home, sweep_moves, sweep_serves, swept_by}

-- ---- choices

-- the least free id, and the lowest place
pub record ChoicesAreLeast : Type 0 where
  pub id : (table : List (Option ℕ)) (id : ℕ) → IsLeastFree table id → least_free table ≡ Some id
  pub no_id : (table : List (Option ℕ)) → IsFull table → least_free table ≡ None
  pub place : (h : SubHeaps) (bytes at : ℕ) → IsLowestFit h bytes at → lowest_fit h bytes ≡ Some at
  pub no_place : (h : SubHeaps) (bytes : ℕ) → ((at : ℕ) → ¬ FitsAt h bytes at) → lowest_fit h bytes ≡ None

-- ---- act

-- the event of a pending step; a rest is none, and before a call without room nothing is chosen
abbrev pub event_before : (number : ℕ) → Choice → Stop → Before → List Event
event_before number choice Spent b = []
event_before number choice NoRoom b = act number plain ∷ []
event_before number choice AtStep looks = look number ∷ []
event_before number choice AtStep b = act number choice ∷ []

-- that of a thread which has stopped so, with what the machine chooses
abbrev pub events_of : Image Spot → (number : ℕ) → Memory → Stage Spot → Stop → List Event
events_of x number m stage stop = event_before number (choice_for x m stage) stop (before x (thread_at x stage))

-- it may come, and does what act does
pub record IsTheEvent (x : Image Spot) (s : MachineState Spot) (number : ℕ) (stage : Stage Spot) (stop : Stop) : Type 0 where
  pub allowed : AreAllowed x (events_of x number s.memory stage stop) s
  pub after : after_all x (events_of x number s.memory stage stop) s ≡ put s number (effect_of x number (choice_for x s.memory stage) stage s.memory stop)

-- where a thread has stopped so, in a run that goes on, and each thread that was made has a stage or none
abbrev pub ActIsItsEvent : Type 0
ActIsItsEvent =
    (x : Image Spot) (s : MachineState Spot) (number most turns : ℕ) (stage : Stage Spot) (stop : Stop) → s.end ≡ None → length s.own ≡ length s.memory.threads → own_at s.own number ≡ Some stage → stop_at x most turns stage ≡ Some stop → IsTheEvent x s number stage stop

-- ---- barrier

-- the event of a barrier
abbrev pub barrier_of : Image Spot → MachineState Spot → Event
barrier_of x s = barrier (sweep_moves x s) (sweep_serves x s)

-- it may come, and does what barrier does
pub record IsTheBarrier (code : LinearCode) (s : Shared) (home : List (Option Context)) : Type 0 where
  pub allowed : AreAllowed (image_of code s) (barrier_of (image_of code s) (at_home s home) ∷ []) (at_home s home)
  pub after : at_home (swept_by code s home).shared (swept_by code s home).homes ≡ after_all (image_of code s) (barrier_of (image_of code s) (at_home s home) ∷ []) (at_home s home)

-- where all contexts are at home, and no two objects overlap
abbrev pub BarrierIsItsEvent : Type 0
BarrierIsItsEvent =
    (code : LinearCode) (s : Shared) (home : List (Option Context)) → IsSharedOf code s → IsSound s.memory.storage.heaps → All (IsOfRun (machine_of code) (IsContextOf code)) home → AreHome (machine_of code) s home → IsTheBarrier code s home

-- ---- evacuation

-- its event may come, and does what it does: where it has no move, that is nothing
pub record IsTheEvacuation (code : LinearCode) (s : Shared) (home : List (Option Context)) : Type 0 where
  pub allowed : AreAllowed (image_of code s) (evacuation_of (image_of code s) (at_home s home) ∷ []) (at_home s home)
  pub after : at_home (cleared_by code s home).shared home ≡ after_all (image_of code s) (evacuation_of (image_of code s) (at_home s home) ∷ []) (at_home s home)

-- where all contexts are at home, and no two objects overlap
abbrev pub EvacuationIsItsEvent : Type 0
EvacuationIsItsEvent =
    (code : LinearCode) (s : Shared) (home : List (Option Context)) → IsSharedOf code s → IsSound s.memory.storage.heaps → All (IsOfRun (machine_of code) (IsContextOf code)) home → AreHome (machine_of code) s home → IsTheEvacuation code s home

-- ---- the rules of a run

-- the machine is one that the rules are of
abbrev pub MachineIsFlat : Type 0
MachineIsFlat = (code : LinearCode) → IsFlat (machine_of code) (IsSharedOf code) (IsContextOf code)
