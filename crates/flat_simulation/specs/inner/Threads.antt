-- How a thread over named blocks and one over words stand: in the middle of a turn, at a turn's start, and at each stage.
use Rattle.std.specs.Prelude.{◌≡◌, ℕ, ◌+◌, ◌<◌, ◌≤◌, List, [], ◌∷◌, length, false, slice_get, Option, Some, None, IsSome}
use Rattle.block_store.specs.declared.values.Ptr.{Ptr}
use Rattle.block_store.specs.Blocks.{Blocks}
use Rattle.block_store.specs.Actions.{World}
use Rattle.block_store.specs.Runs as runs
use Rattle.block_store.specs.Runs.{own_at}
use Rattle.arena_meaning.specs.Arena.{Storage}
use Rattle.struct_ir.specs.Nodes.{Func, Ir}
use Rattle.struct_ir.specs.Flow.{IsCall}
use Rattle.struct_ir.specs.Machine.{Point}
use Rattle.struct_ir.specs.Threads.{Thread, Outcome, went, ended, blocked, broke, unfit}
use Rattle.struct_ir.specs.Pins.{looked, lacks, facts}
use Rattle.struct_ir.specs.meaning.Blocks.{Own, Fault}
use Rattle.struct_ir.specs.meaning.Threads.{first_own}
use Rattle.flat_meaning.specs.Image.{Image, stack_address, objects_bytes}
use Rattle.flat_meaning.specs.Words.{Words}
use Rattle.flat_meaning.specs.Memory.{Memory}
use Rattle.flat_meaning.specs.Accesses as words
use Rattle.flat_meaning.specs.Stages.{Stage, starts, going, waiting, landed}
use Rattle.flat_meaning.specs.Effects.{landing}
use Rattle.flat_meaning.specs.Events.{MachineState}
use Rattle.flat_meaning.specs.Names.{Name}
use Rattle.flat_meaning.specs.Stands.{in_blocks}
use Rattle.flat_simulation.specs.inner.Values.{AnyBlock, PointerStands}
use Rattle.flat_simulation.specs.inner.Turns.{IsClear}
use Rattle.flat_simulation.specs.inner.Lags.{StandsIn, InTurn}
use Rattle.flat_simulation.specs.inner.Programs.{HasFrame}
use Rattle.flat_simulation.specs.inner.Worlds.{WorldStands, TurnEnded}

-- ---- the calls that wait

-- one stands before its call; above: so much of the stack is used below the call that it waits for, and but for the caller's objects the
-- caller's frame is free
pub record CallerStands {P : Type 0} (x : Image P) (p : Ir) (thread : ℕ) (names : List Name) (blocks : Blocks) (s : Storage) (above : ℕ) (k : Point P Own) (q : Point P Words) : Type 0 where
  pub point : StandsIn x p thread names AnyBlock s (in_blocks blocks k) q
  pub frame : HasFrame x.layout p q.own
  pub call : IsCall (x.flow.here q.at)
  pub above_it : above ≡ q.own.below.stack + objects_bytes frame.func.objects
  pub clear : IsClear names AnyBlock blocks (stack_address x.layout thread + q.own.below.stack) (stack_address x.layout thread + above) k.own.objects

-- one by one, from the top
abbrev pub CallersStand : {P : Type 0} → Image P → Ir → (thread : ℕ) → List Name → Blocks → Storage → (above : ℕ) → List (Point P Own) → List (Point P Words) → Type 0
CallersStand x p thread names blocks s above [] [] = Unit {0}
CallersStand x p thread names blocks s above [] (q ∷ qs) = ⊥
CallersStand x p thread names blocks s above (k ∷ ks) [] = ⊥
CallersStand x p thread names blocks s above (k ∷ ks) (q ∷ qs) = CallerStands x p thread names blocks s above k q × CallersStand x p thread names blocks s q.own.below.stack ks qs

-- ---- the thread

-- in the middle of a turn it stands for the thread that has the whole turn still to do, whatever others do before
pub record ThreadStands {P : Type 0} (x : Image P) (p : Ir) (thread : ℕ) (names : List Name) (blocks : Blocks) (s : Storage) (k : Thread P Own) (q : Thread P Words) : Type 0 where
  pub stack : thread < x.layout.limits.threads
  pub frame : HasFrame x.layout p q.top.own
  pub top : InTurn x p thread names blocks s k.top q.top
  pub callers : CallersStand x p thread names blocks s q.top.own.below.stack k.callers q.callers

-- at a turn's start it stands where the other does, and but for its call's objects the rest of its stack is free
pub record Fresh {P : Type 0} (x : Image P) (p : Ir) (thread : ℕ) (names : List Name) (blocks : Blocks) (s : Storage) (k : Thread P Own) (q : Thread P Words) : Type 0 where
  pub stack : thread < x.layout.limits.threads
  pub frame : HasFrame x.layout p q.top.own
  pub top : StandsIn x p thread names AnyBlock s (in_blocks blocks k.top) q.top
  pub clear : IsClear names AnyBlock blocks (stack_address x.layout thread + q.top.own.below.stack) (stack_address x.layout thread + x.layout.limits.stack) k.top.own.objects
  pub callers : CallersStand x p thread names blocks s q.top.own.below.stack k.callers q.callers

-- ---- the stages

-- no object lies in a thread's stack
abbrev pub IsFree : {P : Type 0} → Image P → (thread : ℕ) → List Name → Blocks → Type 0
IsFree x thread names blocks = IsClear names AnyBlock blocks (stack_address x.layout thread) (stack_address x.layout thread + x.layout.limits.stack) (λ i. None)

-- it hasn't begun: the other is where its first function begins, with an argument that stands
pub record StartStands {P : Type 0} (x : Image P) (p : Ir) (thread : ℕ) (names : List Name) (blocks : Blocks) (k : Thread P Own) (function argument : ℕ) : Type 0 where
  pub stack : thread < x.layout.limits.threads
  pub func : Func
  pub there : slice_get p.funcs function ≡ Some func
  pub pointer : Ptr
  pub begins : k ≡ record { top = record { at = x.start function; own = first_own p function pointer }; callers = [] }
  pub argument_stands : PointerStands names AnyBlock blocks pointer argument
  pub clear : IsFree x thread names blocks

-- it did a step with a list, and hasn't gone on since: what slots are intact are in the list
pub record LandedStands {P : Type 0} (x : Image P) (p : Ir) (thread : ℕ) (names : List Name) (blocks : Blocks) (s : Storage) (list : List ℕ) (k : Thread P Own) (q : Thread P Words) : Type 0 where
  pub fresh : Fresh x p thread names blocks s k q
  pub listed : (slot base : ℕ) → facts x.flow slot fresh.top.way ≡ looked base false false → lacks slot list ≡ false

-- by the stage; both have ended, or neither
abbrev pub StageStands : {P : Type 0} → Image P → Ir → (thread : ℕ) → List Name → Blocks → Storage → Option (Thread P Own) → Option (Stage P) → Type 0
StageStands x p thread names blocks s (Some k) (Some (starts function argument)) = StartStands x p thread names blocks k function argument
StageStands x p thread names blocks s (Some k) (Some (going q)) = ThreadStands x p thread names blocks s k q
StageStands x p thread names blocks s (Some k) (Some (waiting q)) = ThreadStands x p thread names blocks s k q
StageStands x p thread names blocks s (Some k) (Some (landed list q)) = LandedStands x p thread names blocks s list k q
StageStands x p thread names blocks s (Some k) None = ⊥
StageStands x p thread names blocks s None (Some stage) = ⊥
StageStands x p thread names blocks s None None = Unit {0}

-- ---- the state

-- what is shared stands, and so does each thread; each has its place in both lists, and the stacks of those that weren't made are free
pub record StateStands {P : Type 0} (x : Image P) (p : Ir) (names : List Name) (u : runs.State (Thread P Own)) (s : MachineState P) : Type 0 where
  pub world : WorldStands x.layout p names u.world s.memory
  pub count : length s.own ≡ length u.own
  pub made : length u.own ≡ length u.world.threads
  pub threads : (thread : ℕ) → StageStands x p thread names u.world.blocks s.memory.storage (own_at u.own thread) (own_at s.own thread)
  pub stacks : (thread : ℕ) → length u.own ≤ thread → thread < x.layout.limits.threads → IsFree x thread names u.world.blocks
  -- as long as the run hasn't ended, main hasn't
  pub main : s.end ≡ None → IsSome (own_at s.own 0)

-- ---- a turn

-- what comes of a turn over named blocks, and of the event with which it ends over words: both go on, and the thread stands, landed where
-- a step with this list was done, or the machine's print would pass the output's limit, and the turn's has passed it; both end; both wait;
-- or the turn breaks a rule
abbrev pub TurnsAlike : {P : Type 0} → Image P → Ir → (thread : ℕ) → List Name → (given : List ℕ) → (list : Option (List ℕ)) → World → Memory → Outcome P Own Fault World → Outcome P Words words.Fault Memory → Type 0
TurnsAlike x p thread names given list w m (went k later) (went q now) =
    (all : List Name) × TurnEnded x.layout p thread names all given w later m now × StageStands x p thread all later.blocks now.storage (Some k) (Some (landing list q))
TurnsAlike x p thread names given list w m (went k later) (ended l now) = ⊥
TurnsAlike x p thread names given list w m (went k later) blocked = ⊥
TurnsAlike x p thread names given list w m (went k later) (broke words.output_limit) = x.layout.limits.output < length later.output
TurnsAlike x p thread names given list w m (went k later) (broke (words.trap word kind)) = ⊥
TurnsAlike x p thread names given list w m (went k later) unfit = ⊥
TurnsAlike x p thread names given list w m (ended l later) (ended r now) = (all : List Name) × TurnEnded x.layout p thread names all given w later m now
TurnsAlike x p thread names given list w m (ended l later) (went q now) = ⊥
TurnsAlike x p thread names given list w m (ended l later) blocked = ⊥
TurnsAlike x p thread names given list w m (ended l later) (broke f) = ⊥
TurnsAlike x p thread names given list w m (ended l later) unfit = ⊥
TurnsAlike x p thread names given list w m blocked blocked = Unit {0}
TurnsAlike x p thread names given list w m blocked o = ⊥
TurnsAlike x p thread names given list w m (broke f) o = Unit {0}
TurnsAlike x p thread names given list w m unfit o = ⊥
