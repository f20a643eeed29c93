-- What ends a turn: what the code's `Pending` means.
use Rattle.std.specs.Prelude.{ℕ, ◌≡◌, List, Option}
use Rattle.block_store.specs.declared.values.Answer.{Answer}
use Rattle.block_store.specs.declared.values.Value.{Value}
use Rattle.block_store.specs.Runs.{unfit, broke}
use Rattle.c_meaning.specs.Control as control
use Rattle.c_meaning.specs.Library.{value_of_call}
use Rattle.c_meaning.specs.Turns as turns
use Rattle.source_state.specs.Worlds.{action_of}
use Rattle.source_tree.specs.declared.tree.SharedProgram.{SharedProgram}
use Rattle.source_tree.specs.SharedViews.{program_of}
use Rattle.source_state.specs.declared.control.Pending.{Pending}
use Rattle.source_state.specs.declared.control.Pending.TheVariants as pendings
use Rattle.source_state.specs.declared.control.Then.{Then}
use Rattle.source_state.specs.declared.control.Then.TheVariants as thens
use Rattle.source_state.specs.Views.{callee_of, values_of, loop_of, todo_of, use_of, wait_of}

-- what a turn knows beside the program and the function: the thread's number, the answer that the turn is told, and the calls that wait
pub record Rest : Type 0 where
  pub thread : ℕ
  pub answer : Answer
  pub callers : List control.Caller

-- what stays the same in a turn, of the code's program in this function
abbrev pub here_at : SharedProgram → (function : ℕ) → Rest → turns.TurnContext
here_at p function r = record { typed = program_of p; thread = r.thread; answer = r.answer; function = function; callers = r.callers }

-- what a call leads to, by the value of its action: a call of the library has its own value (C11 7.22, 7.24, 7.26)
abbrev pub after_library : control.Callee → List Value → control.Wait → Option Value → control.TurnStart
after_library (control.function number) args k v = turns.after_call k v
after_library (control.library which) args k v = turns.after_call k (value_of_call which args v)

-- where the thread goes on behind an action that gave this value, or none
abbrev pub point_of : Then → Option Value → control.TurnStart
point_of (thens.Gives place k) v = turns.after_call (control.wanted place (use_of k.value)) v
point_of (thens.Begins k) v = control.begins (todo_of k.value)
point_of (thens.Returns callee args k) v = after_library (callee_of callee.value) (values_of args.value) (wait_of k) v

-- the end of the turn: a broken rule, an action, the end of a round, a call that is entered or left
abbrev pub ends : turns.TurnContext → Pending → turns.Does
ends h (pendings.Broke rule place) x = broke rule place
ends h (pendings.Act site action next_point) x = turns.acts h site.place site.atomic (action_of action) (λ v next. turns.stays h x.locals (point_of next_point v) next) x
ends h (pendings.Round l k) x = turns.round_over h (loop_of l.value) (todo_of k.value) x
ends h (pendings.Enter number args k) x = turns.calls h 0 (control.function number) (values_of args.value) (wait_of k) x
ends h (pendings.Leave v) x = turns.leaves_call h v x
ends h pendings.Unfit x = unfit

-- a call, whose arguments are there, ends the turn like this, wherever it is made
pub record Calls (place : ℕ) (callee : control.Callee) (args : List Value) (k : control.Wait) (q : Pending) : Type 0 where
  pub goes : (h : turns.TurnContext) (x : turns.Now) → turns.calls h place callee args k x ≡ ends h q x
