-- What the machine keeps: whatever is chosen, and whatever moves, its state stands for the source's after the same turns, until one of
-- them breaks a rule of C. EventsFollowTurns and BarriersKeepObjects are stated here; proved with the simulation.
use Rattle.std.specs.Prelude.{◌≡◌, ◌≢◌, ℕ, ◌≤◌, ◌^◌, List, ◌++◌, All, length, slice_get, true, Option, Some, None}
use Rattle.block_store.specs.declared.values.Answer.{Answer}
use Rattle.block_store.specs.Runs as runs
use Rattle.block_store.specs.Runs.{Pick, Run, reaches, breaks, no_run, own_at, picked}
use Rattle.sub_heaps.specs.SubHeaps.{IsShape}
use Rattle.sub_heaps.specs.declared.moves.Move.{Move}
use Rattle.arena_meaning.specs.Arena.{IsConsistent}
use Rattle.arena_meaning.specs.Moves.{KeepsObjects, after_plan}
use Rattle.struct_ir.specs.Nodes.{Global, Func, Ir}
use Rattle.struct_ir.specs.Structured.{Position, structured}
use Rattle.struct_ir.specs.Threads.{Thread}
use Rattle.struct_ir.specs.Pins.{PinSafe}
use Rattle.struct_ir.specs.Whole.{plain_bytes, takes_nothing, is_init_in}
use Rattle.struct_ir.specs.Valid.{is_valid}
use Rattle.struct_ir.specs.meaning.Blocks.{Own}
use Rattle.struct_ir.specs.meaning.Start.{start}
use Rattle.struct_ir.specs.meaning.Threads.{program_of, start_in}
use Rattle.ak_trace.specs.declared.endings.End.{End}
use Rattle.ak_trace.specs.declared.endings.End.TheVariants as ends
use Rattle.flat_meaning.specs.Image.{limits_for, Layout, Image, structured_image, plain_size}
use Rattle.flat_meaning.specs.Accesses.{Choice}
use Rattle.flat_meaning.specs.Stages.{Stage, steps, thread_at}
use Rattle.flat_meaning.specs.Events.{MachineState, Serve, Event, act, barrier, after, after_all, first_state}
use Rattle.flat_meaning.specs.Order.{order_of, picks_of, tried_by}
use Rattle.flat_meaning.specs.Allowed.{StandsBefore, pinned, IsAllowed, AreAllowed}
use Rattle.flat_meaning.specs.Names.{Name}
use Rattle.flat_meaning.specs.Stands.{StandsFor}
use Rattle.flat_meaning.specs.Start.{AreMadeBy}
use Rattle.flat_meaning.specs.Reaching.{Unbroken, Waits, Broken, StepReaches}

-- ---- the step that may come next

-- the turns that an event does, and those that it tries
abbrev pub turns_at : Image Position → MachineState Position → Event → List Pick
turns_at x s e = picks_of x s e ++ tried_by x s e

-- each of these turns comes out so
abbrev pub AllComeOut : Ir → runs.State (Thread Position Own) → (Option (runs.Turn (Thread Position Own)) → Type 0) → List Pick → Type 0
AllComeOut p u A picks = All (λ (k : Pick). A (picked (program_of p) u k)) picks

-- a run ended in a trap
abbrev pub IsTrap : Option End → Type 0
IsTrap (Some (ends.Trap word kind)) = Unit {0}
IsTrap end = ⊥

-- whatever step may come next: where its turn breaks no rule, what it touches is what that reaches; where it waits for a mutex or a
-- thread, its turn waits, or breaks a rule; and where it traps, its turn breaks one
pub record StepsFollow (x : Image Position) (p : Ir) (names : List Name) (u : runs.State (Thread Position Own)) (s : MachineState Position) : Type 0 where
  pub reaches : (thread : ℕ) (choice : Choice) (t : Thread Position Own) (stage : Stage Position) → own_at u.own thread ≡ Some t → own_at s.own thread ≡ Some stage
      → IsAllowed x s (act thread choice) → StandsBefore x (own_at s.own thread) steps
      → All (λ (k : Pick). Unbroken (picked (program_of p) u k) → StepReaches x p names u s.memory k t (thread_at x stage)) (turns_at x s (act thread choice))
  pub waits : (thread : ℕ) (choice : Choice) → IsAllowed x s (act thread choice) → (after x s (act thread choice)).end ≡ None → AllComeOut p u Waits (tried_by x s (act thread choice))
  pub traps : (thread : ℕ) (choice : Choice) → IsAllowed x s (act thread choice) → IsTrap (after x s (act thread choice)).end → AllComeOut p u Broken (tried_by x s (act thread choice))

-- ---- all events

-- by the names that the events made the machine's state stands for the source's, and whatever step comes next follows the source's
pub record Simulates (x : Image Position) (p : Ir) (es : List Event) (u : runs.State (Thread Position Own)) (s : MachineState Position) : Type 0 where
  pub names : List Name
  pub made : AreMadeBy x es names
  pub stands : StandsFor x p names u s
  pub steps : StepsFollow x p names u s

-- a state that a run of turns reaches; nothing is claimed once one of them broke a rule; and each is a turn
abbrev pub UpToABreak : {A : Type 0} → Run A → (runs.State A → Type 0) → Type 0
UpToABreak (reaches u) R = R u
UpToABreak (breaks rule k) R = Unit {0}
UpToABreak (no_run k) R = ⊥

-- wherever a run comes, the next turn of each thread that runs takes some answer; so no operand is ever of another type than the code says
abbrev pub EachTurnTakesAnAnswer : Ir → Type 0
EachTurnTakesAnAnswer p =
    (order : List Pick) (u : runs.State (Thread Position Own)) → runs.run (program_of p) (start p) order ≡ reaches u
    → (thread : ℕ) (main own : Thread Position Own) → own_at u.own 0 ≡ Some main → own_at u.own thread ≡ Some own
    → (answer : Answer) × ((program_of p).turn thread answer own u.world ≢ runs.unfit)

-- what is asked of a program: it is valid; on every path each access goes through its base's slot, which no list since lacks; each turn
-- takes some answer, as it does in code that keeps every turn of a well formed program; and its plain data is small
pub record IsChecked (p : Ir) : Type 0 where
  pub valid : is_valid p ≡ true
  pub safe : (function : ℕ) → PinSafe structured (start_in p function)
  pub answers : EachTurnTakesAnAnswer p
  pub main : takes_nothing (slice_get p.funcs p.main) ≡ true
  pub params : All (λ (f : Func). f.params ≤ f.temps) p.funcs
  pub inits : All (λ (g : Global). is_init_in (length p.literals) g.init ≡ true) p.globals
  pub small : plain_bytes p.globals p.literals ≤ 1048576

-- of a program as it is loaded
abbrev pub FollowsTurns : Ir → Image Position → Type 0
FollowsTurns p x = (es : List Event) → AreAllowed x es (first_state x) → UpToABreak (runs.run (program_of p) (start p) (order_of x es (first_state x))) (λ u. Simulates x p es u (after_all x es (first_state x)))

-- whatever the threads, the allocations and the barriers do: the machine stands for the source after the same turns, till one of them breaks a rule
abbrev pub EventsFollowTurns : Type 0
EventsFollowTurns = (p : Ir) → IsChecked p → (output heaps heap ids : ℕ) → IsShape heaps heap ids → FollowsTurns p (structured_image p (limits_for output heaps heap ids))

-- ---- after a broken rule, too

-- a layout that fits in memory
pub record IsLoadable (y : Layout) : Type 0 where
  pub shape : IsShape y.limits.heaps y.limits.heap y.limits.ids
  pub small : plain_size y ≤ 2 ^ 31

-- objects and table agree; and the moves of a barrier that may come next keep each object's bytes, at the address that the table then
-- has, and the place of each that is pinned
pub record KeepsStorage {P : Type 0} (x : Image P) (s : MachineState P) : Type 0 where
  pub consistent : IsConsistent s.memory.storage
  pub kept : (moves : List Move) (served : List Serve) → IsAllowed x s (barrier moves served) → KeepsObjects (pinned x s) moves s.memory.storage (after_plan moves s.memory.storage)

-- whatever code and events, and whatever rules were broken before
abbrev pub BarriersKeepObjects : (P : Type 0) → Type 0
BarriersKeepObjects P = (x : Image P) → IsLoadable x.layout → (es : List Event) → AreAllowed x es (first_state x) → KeepsStorage x (after_all x es (first_state x))
