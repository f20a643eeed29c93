-- What a run of a program is, as a caller of the interpreter sees it.
use Rattle.std.specs.Prelude.{◌≡◌, ℕ, ◌==◌, Bool, if◌then◌else◌, List, [], slice_get, Option, Some, None, ℤ}
use Rattle.ak_words.specs.IntType.{int}
use Rattle.ak_words.specs.Wrapped.{wrapped_value}
use Rattle.block_store.specs.Actions as actions
use Rattle.block_store.specs.Blocks.{Blocks}
use Rattle.block_store.specs.Runs as runs
use Rattle.c_tree.specs.Typed as tree
use Rattle.c_meaning.specs.Control.{Control}
use Rattle.c_meaning.specs.Meaning.{program}
use Rattle.race_rules.specs.declared.touch.Touch.{Touch}
use Rattle.source_tree.specs.SharedViews.{program_of}
use Rattle.source_state.specs.declared.world.World.{World}
use Rattle.source_state.specs.Worlds.{world_of}
use Rattle.block_meaning.specs.declared.thread.Own.{Own}
use Rattle.block_meaning.specs.Threads.{owns_of}
use Rattle.block_meaning.specs.declared.running.SourceRun.{SourceRun}
use Rattle.block_meaning.specs.declared.running.Turned.{Turned}
use Rattle.block_meaning.specs.declared.running.Turned.TheVariants as turneds

-- a run: the program, the state that it has come to, the bytes that its last turn asked for, what that turn touched, and whether memory
-- was wanting
pub record Running : Type 0 where
  pub typed : tree.Typed
  pub state : runs.State Control
  pub asked : Option ℕ
  pub touched : List Touch
  pub out_of_memory : Bool

-- the block of this name was made and has ended
abbrev pub HasEnded : Blocks → (name : ℕ) → Type 0
HasEnded blocks name = slice_get blocks name ≡ Some None

-- the number that a thread's first function has returned, as an int
abbrev pub returned_at : actions.Stage → Option ℤ
returned_at actions.running = None
returned_at (actions.returned z) = Some (wrapped_value int z)
returned_at (actions.joined z) = Some (wrapped_value int z)

-- what this thread has returned, if it was made and has ended
abbrev pub returned_by : Option actions.ThreadRecord → Option ℤ
returned_by None = None
returned_by (Some t) = returned_at t.stage

-- what the thread of this number has returned, if it was made and has ended
abbrev pub ended_with : actions.World → (thread : ℕ) → Option ℤ
ended_with w thread = returned_by (slice_get w.threads thread)

-- the answer of a turn in which a thread ended, by what main has returned
abbrev pub ended_as : (value : Option ℤ) → Option Turned
ended_as None = None
ended_as (Some z) = Some (turneds.Ended z)

-- the same by whether the thread is the first one, which is in main: the end of any other is a turn like others
abbrev pub ended_by : (is_main : Bool) → (value : Option ℤ) → Option Turned
ended_by is_main value = if is_main then ended_as value else Some turneds.Went

-- what a turn of a thread answers
abbrev pub answered : (thread : ℕ) → runs.Turn Control → Option Turned
answered thread (runs.went own w) = Some turneds.Went
answered thread (runs.ended w) = ended_by (thread == 0) (ended_with w 0)
answered thread runs.blocked = Some turneds.Blocked
answered thread runs.unfit = Some turneds.Unfit
answered thread (runs.broke rule place) = Some (turneds.Broke rule place)

-- what it answers where there is such a turn
abbrev pub answered_if : (thread : ℕ) → Option (runs.Turn Control) → Option Turned
answered_if thread None = None
answered_if thread (Some t) = answered thread t

-- the state that a turn leaves: one that comes to nothing leaves all as it was
abbrev pub left_by : tree.Typed → runs.State Control → (thread : ℕ) → Option (runs.Turn Control) → runs.State Control
left_by typed s thread None = s
left_by typed s thread (Some (runs.went own w)) = runs.next_state (program typed) s thread (Some own) w
left_by typed s thread (Some (runs.ended w)) = runs.next_state (program typed) s thread None w
left_by typed s thread (Some runs.blocked) = s
left_by typed s thread (Some runs.unfit) = s
left_by typed s thread (Some (runs.broke rule place)) = s

-- A turn that waits, that doesn't take its answer or that breaks a rule leaves the state as it was: what was printed, how each thread has ended, which blocks there are, and where each thread is
abbrev pub IsAsBefore : Turned → (before after : runs.State Control) → Type 0
IsAsBefore turneds.Went before after = Unit {0}
IsAsBefore turneds.Blocked before after = after ≡ before
IsAsBefore turneds.Unfit before after = after ≡ before
IsAsBefore (turneds.Broke rule place) before after = after ≡ before
IsAsBefore (turneds.Ended value) before after = Unit {0}

-- the state of these threads in this world
abbrev pub state_in : List (Option Own) → World → runs.State Control
state_in all w = record { world = world_of w; own = owns_of all }

-- what a thread touched in its last turn: one that has ended touched nothing
abbrev pub touched_by_own : Option Control → List Touch
touched_by_own None = []
touched_by_own (Some c) = c.touched

-- what the last turn touched, by the thread that took it, if it was done
abbrev pub touched_last : Option ℕ → List (Option Control) → List Touch
touched_last None all = []
touched_last (Some thread) all = touched_by_own (runs.own_at all thread)

-- what a run is: its program, the state that it has come to, what its last turn asked for and touched, and whether memory was wanting
abbrev pub running_of : SourceRun → Running
running_of r = record {
  typed = program_of r.program;
  state = state_in r.threads.items r.world;
  asked = r.asked;
  touched = touched_last r.last (owns_of r.threads.items);
  out_of_memory = r.out_of_memory;
}
