-- What the code's turns come to.
use Rattle.std.specs.Prelude.{ℕ, ◌-◌, ◌^◌, ◌≡◌, min, List, Option, Some, None, Result, Ok, Err}
use Rattle.ak_words.specs.declared.rule.Rule.{Rule}
use Rattle.block_store.specs.declared.values.Answer.{Answer}
use Rattle.block_store.specs.declared.values.Answer.TheVariants as answers
use Rattle.block_store.specs.Actions as actions
use Rattle.block_store.specs.Blocks.{Blocks, freed}
use Rattle.block_store.specs.Runs as runs
use Rattle.c_meaning.specs.Control as control
use Rattle.c_meaning.specs.Turns as turns
use Rattle.source_state.specs.declared.world.World.{World}
use Rattle.source_state.specs.Worlds.{world_of}
use Rattle.source_tree.specs.declared.tree.SharedProgram.{SharedProgram}
use Rattle.source_state.specs.declared.world.SharedAction.{SharedAction}
use Rattle.source_state.specs.declared.world.SharedAction.TheVariants as acts
use Rattle.source_state.specs.declared.control.Pending.{Pending}
use Rattle.source_state.specs.declared.control.Pending.TheVariants as pendings
use Rattle.source_expressions.specs.Ends.{Rest, here_at, ends}
use Rattle.source_expressions.specs.Progress.{now_in}
use Rattle.block_meaning.specs.declared.thread.At.{At}
use Rattle.block_meaning.specs.declared.thread.Own.{Own}
use Rattle.block_meaning.specs.declared.thread.Outcome.{Outcome}
use Rattle.block_meaning.specs.declared.thread.Outcome.TheVariants as outcomes
use Rattle.block_meaning.specs.Threads.{point_of_at, callers_of, control_of}

-- what a turn of this thread knows beside the program and the function
abbrev pub rest_of : (thread : ℕ) → Answer → Own → Rest
rest_of thread answer own = record { thread = thread; answer = answer; callers = callers_of own.callers }

-- what comes of a turn, by what the thread and the world are after it
abbrev pub turn_of : Outcome → Own → World → runs.Turn control.Control
turn_of outcomes.Went own w = runs.went (control_of own) (world_of w)
turn_of outcomes.Ended own w = runs.ended (world_of w)
turn_of outcomes.Blocked own w = runs.blocked
turn_of outcomes.Unfit own w = runs.unfit
turn_of (outcomes.Broke rule place) own w = runs.broke rule place

-- a point comes to what ends the turn, with these locals and blocks
pub record ComesToEnd (p : SharedProgram) (at : At) (function : ℕ) (locals : List control.Variable) (blocks : Blocks) (new_locals : List control.Variable) (new_blocks : Blocks) (q : Pending) : Type 0 where
  pub goes : (r : Rest) (x : actions.World) →
      turns.from_point (here_at p function r) (point_of_at at) (now_in locals blocks x) ≡ ends (here_at p function r) q (now_in new_locals new_blocks x)

-- what ends the turn, in the thread and the world as they are
abbrev pub ends_in : SharedProgram → (thread : ℕ) → Answer → Own → World → Pending → runs.Turn control.Control
ends_in p thread answer own w q =
    ends (here_at p own.function (rest_of thread answer own)) q (record { locals = own.locals.now; world = world_of w })

-- where the turn comes to nothing, the thread and the world are as they were
abbrev pub Untouched : Outcome → (own new_own : Own) → (w new_w : World) → Type 0
Untouched outcomes.Went own new_own w new_w = Unit {0}
Untouched outcomes.Ended own new_own w new_w = Unit {0}
Untouched outcomes.Blocked own new_own w new_w = (new_own ≡ own) × (new_w ≡ w)
Untouched outcomes.Unfit own new_own w new_w = (new_own ≡ own) × (new_w ≡ w)
Untouched (outcomes.Broke rule place) own new_own w new_w = (new_own ≡ own) × (new_w ≡ w)

-- the thread went on or has ended
abbrev pub IsTurned : Outcome → Type 0
IsTurned outcomes.Went = Unit {0}
IsTurned outcomes.Ended = Unit {0}
IsTurned outcomes.Blocked = ⊥
IsTurned outcomes.Unfit = ⊥
IsTurned (outcomes.Broke rule place) = ⊥

-- the same of what the thread and the world mean
abbrev pub Stays : Outcome → (own new_own : control.Control) → (w new_w : actions.World) → Type 0
Stays outcomes.Went own new_own w new_w = Unit {0}
Stays outcomes.Ended own new_own w new_w = Unit {0}
Stays outcomes.Blocked own new_own w new_w = (new_own ≡ own) × (new_w ≡ w)
Stays outcomes.Unfit own new_own w new_w = (new_own ≡ own) × (new_w ≡ w)
Stays (outcomes.Broke rule place) own new_own w new_w = (new_own ≡ own) × (new_w ≡ w)

-- the bytes of an allocation: what is greater than a u64 can hold is told as the greatest that it can
abbrev pub told_bytes : (size : ℕ) → Option ℕ
told_bytes size = Some (min size (2 ^ 64 - 1))

-- those of a realloc, by what free would come to: one that breaks a rule asks for none
abbrev pub unless_broken : Result Blocks Rule → (size : ℕ) → Option ℕ
unless_broken (Ok blocks) size = told_bytes size
unless_broken (Err rule) size = None

-- the bytes that an action asks for, if it's an allocation
abbrev pub bytes_of : Blocks → SharedAction → Option ℕ
bytes_of blocks (acts.Allocate size first) = told_bytes size
bytes_of blocks (acts.Reallocate at size) = unless_broken (freed blocks at) size
bytes_of blocks action = None

-- the same of what ends a turn
abbrev pub bytes_asked : Blocks → Pending → Option ℕ
bytes_asked blocks (pendings.Act place action next) = bytes_of blocks action
bytes_asked blocks q = None

-- and of a turn that is told this answer
abbrev pub asked_under : Answer → Blocks → Pending → Option ℕ
asked_under answers.Plain blocks q = bytes_asked blocks q
asked_under answers.Got blocks q = None
asked_under answers.None blocks q = None
