-- Code of which all is asked that is asked of checked code, but not that each turn takes some answer: code that is made by hand may come to an
-- operation on a value of a kind that it doesn't take. Up to there the machine stands for it as it does for checked code.
use Rattle.std.specs.Prelude.{◌≡◌, ℕ, ◌+◌, ◌≤◌, true, List, ◌∷◌, ◌++◌, All, length, slice_get, Option, Some, None}
use Rattle.block_store.specs.declared.values.Answer.{Answer}
use Rattle.block_store.specs.Actions.{World}
use Rattle.block_store.specs.Runs as runs
use Rattle.block_store.specs.Runs.{Pick, Run, reaches, breaks, no_run, own_at, picked, run_from}
use Rattle.sub_heaps.specs.SubHeaps.{IsShape}
use Rattle.struct_ir.specs.Nodes.{Global, Func, Ir}
use Rattle.struct_ir.specs.Structured.{Position, structured}
use Rattle.struct_ir.specs.Threads.{Thread, Outcome, broke, turn}
use Rattle.struct_ir.specs.Pins.{PinSafe}
use Rattle.struct_ir.specs.Whole.{plain_bytes, takes_nothing, is_init_in}
use Rattle.struct_ir.specs.Valid.{is_valid}
use Rattle.struct_ir.specs.ValidCode.{is_valid_code}
use Rattle.struct_ir.specs.Instrs.{LinearCode}
use Rattle.struct_ir.specs.Lawful.{AllLawful}
use Rattle.struct_ir.specs.Linear.{Spot}
use Rattle.struct_ir.specs.Emitted.{IsEmitted}
use Rattle.struct_ir.specs.meaning.Blocks.{Own, Fault, wrong_kind, blocks_machine}
use Rattle.struct_ir.specs.meaning.Start.{start}
use Rattle.struct_ir.specs.meaning.Threads.{blocks_world, program_of, start_in}
use Rattle.flat_meaning.specs.Image.{Image, Limits, limits_for, structured_image, linear_image}
use Rattle.flat_meaning.specs.Accesses.{Choice}
use Rattle.flat_meaning.specs.Stages.{Stage, steps, thread_at}
use Rattle.flat_meaning.specs.Events.{MachineState, Event, act, after, after_all, first_state}
use Rattle.flat_meaning.specs.Order.{pick, order_of, tried_by}
use Rattle.flat_meaning.specs.Allowed.{StandsBefore, IsAllowed, AreAllowed}
use Rattle.flat_meaning.specs.Names.{Name}
use Rattle.flat_meaning.specs.Stands.{StandsFor, WorldStands}
use Rattle.flat_meaning.specs.Start.{AreMadeBy}
use Rattle.flat_meaning.specs.Reaching.{Unbroken, Waits, Broken, StepReaches}
use Rattle.flat_meaning.specs.Emitted.{ComeToTheSame}
use Rattle.flat_meaning.specs.Simulation.{AllComeOut, IsTrap, turns_at}
use Rattle.flat_simulation.specs.LinearSteps.{HasStack, LinearStepFollows}

-- what is asked of such code: it is valid; on every path each access goes through its base's slot, which no list since lacks; and its
-- plain data is small
pub record IsGuarded (p : Ir) : Type 0 where
  pub valid : is_valid p ≡ true
  pub safe : (function : ℕ) → PinSafe structured (start_in p function)
  pub main : takes_nothing (slice_get p.funcs p.main) ≡ true
  pub params : All (λ (f : Func). f.params ≤ f.temps) p.funcs
  pub inits : All (λ (g : Global). is_init_in (length p.literals) g.init ≡ true) p.globals
  pub small : plain_bytes p.globals p.literals ≤ 1048576

-- ---- operations on values of kinds that they don't take

-- what comes of a turn, where its thread and main run. Among a program's turns such an operation comes out as an answer that doesn't fit does;
-- here the two are apart
abbrev pub outcome_if : Ir → runs.State (Thread Position Own) → Pick → (main own : Option (Thread Position Own)) → Option (Outcome Position Own Fault World)
outcome_if p u k None own = None
outcome_if p u k (Some main) None = None
outcome_if p u k (Some main) (Some own) = Some (turn structured (blocks_machine p) (blocks_world p k.thread) (start_in p) k.answer own u.world)

-- what comes of a turn in this state
abbrev pub outcome : Ir → runs.State (Thread Position Own) → Pick → Option (Outcome Position Own Fault World)
outcome p u k = outcome_if p u k (own_at u.own 0) (own_at u.own k.thread)

-- the turn is an operation on a value of a kind that it doesn't take
abbrev pub TakesWrongKind : Ir → runs.State (Thread Position Own) → Pick → Type 0
TakesWrongKind p u k = outcome p u k ≡ Some (broke wrong_kind)

-- the thread's next turn is no such operation, whatever it is told
abbrev pub TakesRightKinds : Ir → runs.State (Thread Position Own) → (thread : ℕ) → Type 0
TakesRightKinds p u thread = (answer : Answer) → TakesWrongKind p u (pick thread answer) → ⊥

-- what a turn is told doesn't make it one
abbrev pub KindsDontDependOnAnswers : Type 0
KindsDontDependOnAnswers = (p : Ir) (u : runs.State (Thread Position Own)) (thread : ℕ) (one other : Answer) → TakesWrongKind p u (pick thread one) → TakesWrongKind p u (pick thread other)

-- in the run of an order from a state on, before which n turns were done: the pick behind so many turns is such an operation, in the state that
-- those before it reach
pub record MeetsWrongKind (p : Ir) (order : List Pick) (n : ℕ) (u : runs.State (Thread Position Own)) (turns : ℕ) : Type 0 where
  pub before : List Pick
  pub next : Pick
  pub rest : List Pick
  pub split : order ≡ before ++ next ∷ rest
  pub place : turns ≡ n + length before
  pub state : runs.State (Thread Position Own)
  pub reached : run_from (program_of p) before n u ≡ reaches state
  pub wrong : TakesWrongKind p state next

-- R of the state that a run reaches; nothing, once one of its turns broke a rule; and where the pick behind so many turns is no turn that is
-- done, W of their number
abbrev pub UpTo : {A : Type 0} → Run A → (runs.State A → Type 0) → (W : ℕ → Type 0) → Type 0
UpTo (reaches u) R W = R u
UpTo (breaks rule k) R W = Unit {0}
UpTo (no_run k) R W = W k

-- from a state on, before which n turns were done: each pick is a turn, up to one that breaks a rule, or that is an operation on a value of a
-- kind that it doesn't take
abbrev pub UpToAKindFrom : (p : Ir) → List Pick → (n : ℕ) → runs.State (Thread Position Own) → (runs.State (Thread Position Own) → Type 0) → Type 0
UpToAKindFrom p order n u R = UpTo (run_from (program_of p) order n u) R (MeetsWrongKind p order n u)

-- from the start on
abbrev pub UpToAKind : (p : Ir) → List Pick → (runs.State (Thread Position Own) → Type 0) → Type 0
UpToAKind p order R = UpToAKindFrom p order 0 (runs.first_state (program_of p) (start p)) R

-- ---- the events of structured code

-- whatever step of this thread may come next: where its turn breaks no rule, what it touches is what that reaches; where it waits for a mutex
-- or a thread, its turn waits, or breaks a rule; and where it traps, its turn breaks one
pub record StepFollows (x : Image Position) (p : Ir) (names : List Name) (u : runs.State (Thread Position Own)) (s : MachineState Position) (thread : ℕ) : Type 0 where
  pub reaches : (choice : Choice) (t : Thread Position Own) (stage : Stage Position) → own_at u.own thread ≡ Some t → own_at s.own thread ≡ Some stage
      → IsAllowed x s (act thread choice) → StandsBefore x (own_at s.own thread) steps
      → All (λ (k : Pick). Unbroken (picked (program_of p) u k) → StepReaches x p names u s.memory k t (thread_at x stage)) (turns_at x s (act thread choice))
  pub waits : (choice : Choice) → IsAllowed x s (act thread choice) → (after x s (act thread choice)).end ≡ None → AllComeOut p u Waits (tried_by x s (act thread choice))
  pub traps : (choice : Choice) → IsAllowed x s (act thread choice) → IsTrap (after x s (act thread choice)).end → AllComeOut p u Broken (tried_by x s (act thread choice))

-- by the names that the events made the machine's state stands for the source's; and the next step of each thread follows the source's, unless
-- the thread's next turn is an operation on a value of a kind that it doesn't take
pub record StandsAfter (x : Image Position) (p : Ir) (es : List Event) (u : runs.State (Thread Position Own)) (s : MachineState Position) : Type 0 where
  pub names : List Name
  pub made : AreMadeBy x es names
  pub stands : StandsFor x p names u s
  pub steps : (thread : ℕ) → TakesRightKinds p u thread → StepFollows x p names u s thread

-- of a program as it is loaded
abbrev pub FollowsCode : Ir → Image Position → Type 0
FollowsCode p x = (es : List Event) → AreAllowed x es (first_state x) → UpToAKind p (order_of x es (first_state x)) (λ u. StandsAfter x p es u (after_all x es (first_state x)))

-- whatever the threads, the allocations and the barriers do: the machine stands for the code over named blocks after the same turns, till one of
-- them breaks a rule, or is an operation on a value of a kind that it doesn't take
abbrev pub EventsFollowCode : Type 0
EventsFollowCode = (p : Ir) → IsGuarded p → (output heaps heap ids : ℕ) → IsShape heaps heap ids → FollowsCode p (structured_image p (limits_for output heaps heap ids))

-- ---- the events of linear code

-- by the names that the events made, what is shared stands for the source's world; while the run goes on, the source has each thread that the
-- machine has, and its stack objects lie at their places; and the next step of each thread follows the source's, unless the thread's next turn
-- is an operation on a value of a kind that it doesn't take
pub record LinearStandsAfter (y : Image Spot) (p : Ir) (ds : List Event) (u : runs.State (Thread Position Own)) (s : MachineState Spot) : Type 0 where
  pub names : List Name
  pub made : AreMadeBy y ds names
  pub world : WorldStands names u.world s.memory
  pub stacks : s.end ≡ None → (thread : ℕ) (stage : Stage Spot) → own_at s.own thread ≡ Some stage → HasStack y p thread names u stage
  pub steps : (thread : ℕ) → TakesRightKinds p u thread → LinearStepFollows y p names u s thread

-- events of the structured code that come to the same; and up to a broken rule, or such an operation, the state after them stands for the
-- source's after those turns, and what may come next of the linear code follows the source's
pub record IsFollowedCode (p : Ir) (code : LinearCode) (limits : Limits) (ds : List Event) : Type 0 where
  pub events : List Event
  pub same : ComeToTheSame (structured_image p limits) events (linear_image code limits) ds
  pub simulates : UpToAKind p (order_of (linear_image code limits) ds (first_state (linear_image code limits)))
      (λ u. StandsAfter (structured_image p limits) p events u (after_all (structured_image p limits) events (first_state (structured_image p limits))))
  pub follows : UpToAKind p (order_of (linear_image code limits) ds (first_state (linear_image code limits)))
      (λ u. LinearStandsAfter (linear_image code limits) p ds u (after_all (linear_image code limits) ds (first_state (linear_image code limits))))

-- so what holds of such structured code holds of its linear code
abbrev pub LinearCodeFollowsCode : Type 0
LinearCodeFollowsCode =
    (p : Ir) → IsGuarded p → (code : LinearCode) → IsEmitted p code → AllLawful code.funcs → is_valid_code code ≡ true → (output heaps heap ids : ℕ) → IsShape heaps heap ids → (ds : List Event)
    → AreAllowed (linear_image code (limits_for output heaps heap ids)) ds (first_state (linear_image code (limits_for output heaps heap ids))) → IsFollowedCode p code (limits_for output heaps heap ids) ds
