-- Linear code after events: what threads share stands for the source's world after the same turns, and whatever step may come next follows
-- the source's turn.
use Rattle.std.specs.Prelude.{◌≡◌, ℕ, suc, ◌<◌, ◌≤◌, true, List, [], ◌∷◌, ◌++◌, All, length, Option, Some, None, Ok, Err}
use Rattle.block_store.specs.Blocks.{Block, Blocks, live}
use Rattle.block_store.specs.Runs as runs
use Rattle.block_store.specs.Runs.{Pick, Turn, own_at, picked}
use Rattle.struct_ir.specs.Nodes.{step, Step, Ir}
use Rattle.struct_ir.specs.Flow.{does, Flow}
use Rattle.struct_ir.specs.Linear.{Spot}
use Rattle.struct_ir.specs.Machine.{Point, Steps, run}
use Rattle.struct_ir.specs.Structured.{Position, structured}
use Rattle.struct_ir.specs.Threads.{Thread}
use Rattle.struct_ir.specs.meaning.Blocks.{Own, Fault, blocks_machine}
use Rattle.struct_ir.specs.meaning.Threads.{program_of, start_in}
use Rattle.ak_trace.specs.declared.endings.End.TheVariants as ends
use Rattle.flat_meaning.specs.Image.{Layout, Image}
use Rattle.flat_meaning.specs.Words.{Words}
use Rattle.flat_meaning.specs.Accesses.{Choice}
use Rattle.flat_meaning.specs.Ready.{takes_room}
use Rattle.flat_meaning.specs.Stages.{Stage, starts, going, waiting, landed, steps, thread_at}
use Rattle.flat_meaning.specs.Events.{MachineState, Event, act, after}
use Rattle.flat_meaning.specs.Order.{picks_of, tried_by}
use Rattle.flat_meaning.specs.Allowed.{StandsBefore, IsAllowed}
use Rattle.flat_meaning.specs.Names.{Name}
use Rattle.flat_meaning.specs.Stands.{in_blocks, OwnStands, PointStands, WorldStands}
use Rattle.flat_meaning.specs.Start.{AreMadeBy}
use Rattle.flat_meaning.specs.Touched.{touched_at}
use Rattle.flat_meaning.specs.Reaching.{Unbroken, Waits, Broken, StaysInBlocks, reached_by_turn}
use Rattle.flat_meaning.specs.Simulation.{AllComeOut, IsTrap}

-- ---- how a turn comes out that the machine's limits stop

-- it prints, and then more than so many bytes are printed; or it breaks a rule
abbrev pub PrintsPast : {A : Type 0} → (limit : ℕ) → Option (Turn A) → Type 0
PrintsPast limit None = ⊥
PrintsPast limit (Some (runs.went own w)) = limit < length w.output
PrintsPast limit (Some (runs.ended w)) = ⊥
PrintsPast limit (Some runs.blocked) = ⊥
PrintsPast limit (Some runs.unfit) = ⊥
PrintsPast limit (Some (runs.broke rule place)) = Unit {0}

-- it enters a call of this thread, in which one more then waits; or it breaks a rule
abbrev pub Enters : {P L : Type 0} → Thread P L → Option (Turn (Thread P L)) → Type 0
Enters t None = ⊥
Enters t (Some (runs.went own w)) = length own.callers ≡ suc (length t.callers)
Enters t (Some (runs.ended w)) = ⊥
Enters t (Some runs.blocked) = ⊥
Enters t (Some runs.unfit) = ⊥
Enters t (Some (runs.broke rule place)) = Unit {0}

-- a thread has begun
abbrev pub HasBegun : {P : Type 0} → Stage P → Type 0
HasBegun (starts function argument) = ⊥
HasBegun (going t) = Unit {0}
HasBegun (waiting t) = Unit {0}
HasBegun (landed list t) = Unit {0}

-- no allocation takes a place
abbrev pub AllocationsFit : {P : Type 0} → Flow P → Type 0
AllocationsFit {P} C = (at : P) (place : ℕ) (s : Step) → C.here at ≡ does place (step s) → takes_room s.action ≡ true → s.places ≡ []

-- ---- the step that may come next

-- the structured code of which it is the linear code, in the same layout
abbrev pub source_image : Ir → Layout → Image Position
source_image p layout = record { flow = structured; start = start_in p; layout = layout }

-- the source's thread stops in its turn where the machine's stands: before the same, and its call stands for the machine's, by the names
-- and those of what that turn has made: each register, and each stack object that has begun, at its place; what that turn has made and
-- still lives are such objects; and what the machine's step touches are bytes of blocks that this turn reaches, by those names
pub record StepTouches (y : Image Spot) (p : Ir) (names : List Name) (u : runs.State (Thread Position Own)) (s : MachineState Spot) (k : Pick) (t : Thread Position Own) (q : Thread Spot Words) : Type 0 where
  pub made : List Name
  pub stop : Point Position Own
  pub stops : run structured (blocks_machine p) (in_blocks u.world.blocks t.top) ≡ Ok stop
  pub here : y.flow.here q.top.at ≡ structured.here stop.at
  pub stands : PointStands (source_image p y.layout) k.thread (names ++ made) s.memory.storage stop (record { at = stop.at; own = q.top.own })
  pub begun : (block : ℕ) (b : Block) → length u.world.blocks ≤ block → live stop.own.blocks block ≡ Some b → (i : ℕ) × (stop.own.objects i ≡ Some block)
  pub reaches : StaysInBlocks (names ++ made) s.memory.storage (touched_at y.layout q.top.own s.memory (y.flow.here q.top.at)) (reached_by_turn u.world stop.own (structured.here stop.at) (picked (program_of p) u k))

-- of each of these turns of a thread, unless it breaks a rule: what the step touches are bytes of blocks that the turn reaches
abbrev pub TurnsTouch : Image Spot → Ir → List Name → runs.State (Thread Position Own) → MachineState Spot → Thread Position Own → Thread Spot Words → List Pick → Type 0
TurnsTouch y p names u s t q turns = All (λ (k : Pick). Unbroken (picked (program_of p) u k) → StepTouches y p names u s k t q) turns

-- a thread's step, with what is chosen for it, done or tried: what it touches is what its turn reaches, unless that breaks a rule; where it
-- waits for a mutex or a thread, its turn waits, or breaks a rule; where it traps, its turn breaks one; where it would print more than may
-- be printed, its turn does; and where its call has no room, its turn enters that
pub record ActFollows (y : Image Spot) (p : Ir) (names : List Name) (u : runs.State (Thread Position Own)) (s : MachineState Spot) (thread : ℕ) (choice : Choice) (t : Thread Position Own) (stage : Stage Spot) : Type 0 where
  pub touches : StandsBefore y (Some stage) steps → TurnsTouch y p names u s t (thread_at y stage) (picks_of y s (act thread choice) ++ tried_by y s (act thread choice))
  pub waits : (after y s (act thread choice)).end ≡ None → AllComeOut p u Waits (tried_by y s (act thread choice))
  pub traps : IsTrap (after y s (act thread choice)).end → AllComeOut p u Broken (tried_by y s (act thread choice))
  pub prints : (after y s (act thread choice)).end ≡ Some ends.OutputLimit → AllComeOut p u (PrintsPast y.layout.limits.output) (tried_by y s (act thread choice))
  pub calls : (number : ℕ) → HasBegun stage → (after y s (act thread choice)).end ≡ Some (ends.StackLimit number) → AllComeOut p u (Enters t) (tried_by y s (act thread choice))

-- whatever step of this thread may come next
abbrev pub LinearStepFollows : Image Spot → Ir → List Name → runs.State (Thread Position Own) → MachineState Spot → (thread : ℕ) → Type 0
LinearStepFollows y p names u s thread = (choice : Choice) (t : Thread Position Own) (stage : Stage Spot) → own_at u.own thread ≡ Some t → own_at s.own thread ≡ Some stage → IsAllowed y s (act thread choice)
    → ActFollows y p names u s thread choice t stage

-- ---- where stack objects lie

-- from its turn's start the source's thread comes to where its call stands for the machine's: each stack object that has begun has, for its
-- name, the address that its place in the call has, by the names and those of what that turn has made; or it breaks a rule
pub data TopLies (x : Image Position) (p : Ir) (thread : ℕ) (names : List Name) (blocks : Blocks) (k : Point Position Own) (q : Words) : Type 0 where
  comes : (stop : Point Position Own) (made : List Name) → Steps structured (blocks_machine p) (in_blocks blocks k) stop → OwnStands x thread (names ++ made) stop.own q → TopLies x p thread names blocks k q
  breaks : (f : Fault) → run structured (blocks_machine p) (in_blocks blocks k) ≡ Err f → TopLies x p thread names blocks k q

-- so do the calls that wait, where they are
abbrev pub CallersLie : Image Position → (thread : ℕ) → List Name → Blocks → List (Point Position Own) → List (Point Spot Words) → Type 0
CallersLie x thread names blocks [] [] = Unit {0}
CallersLie x thread names blocks [] (q ∷ qs) = ⊥
CallersLie x thread names blocks (k ∷ ks) [] = ⊥
CallersLie x thread names blocks (k ∷ ks) (q ∷ qs) = OwnStands x thread names (in_blocks blocks k).own q.own × CallersLie x thread names blocks ks qs

-- all calls of a thread
pub record StackLies (x : Image Position) (p : Ir) (thread : ℕ) (names : List Name) (blocks : Blocks) (k : Thread Position Own) (q : Thread Spot Words) : Type 0 where
  pub top : TopLies x p thread names blocks k.top q.top.own
  pub callers : CallersLie x thread names blocks k.callers q.callers

-- the source has the thread, and all its calls
pub record HasStack (y : Image Spot) (p : Ir) (thread : ℕ) (names : List Name) (u : runs.State (Thread Position Own)) (stage : Stage Spot) : Type 0 where
  pub own : Thread Position Own
  pub at : own_at u.own thread ≡ Some own
  pub lies : StackLies (source_image p y.layout) p thread names u.world.blocks own (thread_at y stage)

-- ---- the state

-- by the names that the events made, what is shared stands for the source's world; while the run goes on, the source has each thread that
-- the machine has, and its stack objects lie at their places; and the steps follow the source's turns
pub record FollowsEvents (y : Image Spot) (p : Ir) (ds : List Event) (u : runs.State (Thread Position Own)) (s : MachineState Spot) : Type 0 where
  pub names : List Name
  pub made : AreMadeBy y ds names
  pub world : WorldStands names u.world s.memory
  pub stacks : s.end ≡ None → (thread : ℕ) (stage : Stage Spot) → own_at s.own thread ≡ Some stage → HasStack y p thread names u stage
  pub steps : (thread : ℕ) → LinearStepFollows y p names u s thread
