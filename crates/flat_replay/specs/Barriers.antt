-- What the barriers of a run keep, and the evacuations before them.
use Rattle.std.specs.Prelude.{◌≡◌, ◌≢◌, true, List, [], ◌∷◌, ◌++◌, Some}
use Rattle.ak_trace.specs.declared.entry.Entry.{Entry}
use Rattle.ak_trace.specs.Hows as how
use Rattle.ak_trace.specs.Kinds as kind
use Rattle.sub_heaps.specs.declared.moves.Move.{Move}
use Rattle.sub_heaps.specs.Moving.{AreLegal}
use Rattle.move_plan.specs.Sliding.{IsSlide}
use Rattle.arena_meaning.specs.Arena.{IsConsistent}
use Rattle.arena_meaning.specs.Moves.{KeepsObjects, after_plan}
use Rattle.struct_ir.specs.Instrs.{LinearCode}
use Rattle.struct_ir.specs.Linear.{Spot}
use Rattle.flat_meaning.specs.Events as events
use Rattle.flat_meaning.specs.Allowed.{pinned}
use Rattle.flat_rules.specs.declared.settings.Settings.{Settings}
use Rattle.flat_rules.specs.Machine.{cleared}
use Rattle.flat_rules.specs.Rules.{rules_of}
use Rattle.flat_rules.specs.States.{RunState, homes_of, none_out, start}
use Rattle.flat_rules.specs.Replays as rules
use Rattle.flat_threads.specs.Contexts.{Context}
use Rattle.flat_machine.specs.Clearing.{evacuation_here, cleared_state}
use Rattle.flat_machine.specs.Machine.{machine_of}
use Rattle.flat_machine.specs.Replays.{replay}
use Rattle.flat_machine.specs.Shares.{Shared, image_of}
use Rattle.flat_machine.specs.Start.{first_shared, settings_limits}
use Rattle.flat_machine.specs.Sweeping.{at_home, sweep_moves, swept_state}

-- all threads as they are at home, where they share this
abbrev pub threads_home : Shared → RunState Shared Context → events.MachineState Spot
threads_home shared x = at_home shared (homes_of x.places)

-- what threads share where a barrier's own moves begin: what the evacuation left that the setting asks for
abbrev pub middle : LinearCode → Settings → RunState Shared Context → Shared
middle code s x = (cleared (machine_of code) s.evacuate x.shared (homes_of x.places)).shared

-- the moves of an evacuation that comes next
abbrev pub moves_away : LinearCode → RunState Shared Context → List Move
moves_away code x = (evacuation_here (image_of code x.shared) (threads_home x.shared x)).moves

-- the moves of a barrier that comes next, where threads share this
abbrev pub moves_next : LinearCode → Shared → RunState Shared Context → List Move
moves_next code shared x = sweep_moves (image_of code shared) (threads_home shared x)

-- an evacuation between a state and what threads share behind it: before it objects and table agree; its moves are those that empty thin
-- sub-heaps, each of an object that isn't pinned, to a place in one sub-heap where it overlaps no other, and none moves twice; the object of
-- every id in use has, at the address that the table then gives, the bytes that it had; and behind it memory is as its moves leave it
pub record EvacuationKeeps (code : LinearCode) (x : RunState Shared Context) (shared : Shared) : Type 0 where
  pub consistent : IsConsistent x.shared.memory.storage
  pub legal : AreLegal (pinned (image_of code x.shared) (threads_home x.shared x)) x.shared.memory.storage.heaps (moves_away code x)
  pub objects : KeepsObjects (pinned (image_of code x.shared) (threads_home x.shared x)) (moves_away code x) x.shared.memory.storage (after_plan (moves_away code x) x.shared.memory.storage)
  pub behind : shared.memory ≡ (cleared_state (image_of code x.shared) (threads_home x.shared x)).memory

-- a barrier from what threads share before its moves to a state: before it objects and table agree; no pinned object moves, and each other
-- has then slid down to its lower neighbour's end or its sub-heap's start; the object of every id in use has, at the address that the table
-- then gives, the bytes that it had; behind the moves just the allocations that wait are served
pub record BarrierKeeps (code : LinearCode) (x : RunState Shared Context) (shared : Shared) (y : RunState Shared Context) : Type 0 where
  pub consistent : IsConsistent shared.memory.storage
  pub slides : IsSlide (pinned (image_of code shared) (threads_home shared x)) shared.memory.storage.heaps (moves_next code shared x)
  pub objects : KeepsObjects (pinned (image_of code shared) (threads_home shared x)) (moves_next code shared x) shared.memory.storage (after_plan (moves_next code shared x) shared.memory.storage)
  pub behind : y.shared.memory ≡ (swept_state (image_of code shared) (threads_home shared x)).memory

-- an evacuation's entry behind a journal: what the journal leads to, where no thread is out, and what the evacuation does, for which the
-- setting asks
pub record EvacuationBehind (code : LinearCode) (s : Settings) (before : List Entry) : Type 0 where
  pub here : RunState Shared Context
  pub leads : replay code s before ≡ Some here
  pub alone : none_out (machine_of code) (rules_of s) here ≡ true
  pub asked : s.evacuate ≡ true
  pub keeps : EvacuationKeeps code here (middle code s here)

-- where a barrier's entry stands behind a journal that leads to a state: directly behind it, and then no evacuation moved anything; or behind
-- its evacuation's entry
pub data Stands (code : LinearCode) (s : Settings) (front before : List Entry) (here : RunState Shared Context) : Type 0 where
  directly : before ≡ front → (middle code s here).memory ≡ here.shared.memory → Stands code s front before here
  behind_evacuation : (v : Entry) → before ≡ front ++ v ∷ [] → v.kind ≡ kind.barrier → v.how ≡ how.evacuation → Stands code s front before here

-- a barrier's entry behind a journal: what the journal leads to up to the entry or its evacuation, where no thread is out, and what the
-- barrier does from what threads then share
pub record BarrierBehind (code : LinearCode) (s : Settings) (before : List Entry) (e : Entry) : Type 0 where
  pub front : List Entry
  pub here : RunState Shared Context
  pub leads : replay code s front ≡ Some here
  pub alone : none_out (machine_of code) (rules_of s) here ≡ true
  pub stands : Stands code s front before here
  pub next : RunState Shared Context
  pub comes : rules.run (machine_of code) (rules_of s) (before ++ e ∷ []) (start (machine_of code) (rules_of s) (first_shared code (settings_limits s))) ≡ Some next
  pub keeps : BarrierKeeps code here (middle code s here) next

-- each evacuation of a journal, and each barrier
pub record BarriersKeep (code : LinearCode) (s : Settings) (log : List Entry) : Type 0 where
  pub evacuations : (before : List Entry) (e : Entry) (more : List Entry) → log ≡ before ++ e ∷ more → e.kind ≡ kind.barrier → e.how ≡ how.evacuation → EvacuationBehind code s before
  pub barriers : (before : List Entry) (e : Entry) (more : List Entry) → log ≡ before ++ e ∷ more → e.kind ≡ kind.barrier → e.how ≢ how.evacuation → BarrierBehind code s before e
