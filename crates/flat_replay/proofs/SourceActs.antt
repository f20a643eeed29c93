-- What a turn does to the threads that were made: none, or one more is made, or one that has returned is joined; or the turn's own returns.
use Rattle.std.proofs.Common.{◌≡◌, ℕ, ◌==◌, Bool, true, false, cond, List, [], ◌∷◌, ◌++◌, set, Option, Some, None, Result, Ok, Err, ℤ, refl, sym, ap, ◌∙◌, subst}
use Rattle.std.specs.Prelude.{slice_get}
use Rattle.ak_words.specs.declared.rule.Rule.{Rule}
use Rattle.ak_words.specs.declared.rule.Rule.TheVariants.{C14}
use Rattle.block_store.specs.declared.values.Answer.{Answer}
use Rattle.block_store.specs.declared.values.Answer.TheVariants as answers
use Rattle.block_store.specs.declared.values.Ptr.{Ptr}
use Rattle.block_store.specs.declared.values.Value.{Value}
use Rattle.block_store.specs.declared.values.Value.TheVariants as values
use Rattle.block_store.specs.Atomics.{Changed, changed, Compared, compared}
use Rattle.block_store.specs.Blocks.{Blocks, copied, freed, loaded, renewed, stored}
use Rattle.block_store.specs.Mutexes.{destroyed, locked, unlocked}
use Rattle.block_store.specs.Actions as actions
use Rattle.block_store.specs.Actions.{World, Done, Reached, Stage, running, returned, joined, acted, at_stage, beginning, settled, staged_if, starts, telling, under, with_blocks, gives, changes, changes_or_waits, passes, prints, joins, joins_at, joins_if, joined_by}
use Rattle.struct_ir.specs.Flow.{Here, does, tests, passes as passes_by, round, returns}
use Rattle.struct_ir.specs.Machine.{Point, run}
use Rattle.struct_ir.specs.Nodes.{Action, load, store, copy_bytes, malloc, calloc, realloc, free, change, compare, print, lock, unlock, destroy, start, join, set as sets, call, step, look, safepoint, begin_object, end_object, Ir}
use Rattle.struct_ir.specs.Structured.{Position, structured}
use Rattle.struct_ir.specs.Threads.{Thread, Outcome, went, ended, blocked, broke, unfit, alone, back_in, served, finished, if_fits, left_call, result_to, stop_at, stop_event, and_then, turn}
use Rattle.struct_ir.specs.meaning.Blocks.{Own, Fault, blocks_machine, with_blocks as with_own}
use Rattle.struct_ir.specs.meaning.Threads.{action_of, action_with, address_of, all_of, blocks_world, start_in, finished_with, fits, is_plain, left, number_of, on_ok, over, result_of, served_by, served_if}

-- ---- no step is a return

-- an action, but no return
abbrev IsStep : actions.SharedAction → Type 0
IsStep (actions.load at how) = Unit {0}
IsStep (actions.store at value) = Unit {0}
IsStep (actions.copy to from n align eq) = Unit {0}
IsStep (actions.allocate size first) = Unit {0}
IsStep (actions.reallocate at size) = Unit {0}
IsStep (actions.change at ty how by) = Unit {0}
IsStep (actions.compare at want ty new) = Unit {0}
IsStep (actions.free at) = Unit {0}
IsStep (actions.print parts) = Unit {0}
IsStep (actions.lock at) = Unit {0}
IsStep (actions.unlock at) = Unit {0}
IsStep (actions.destroy at) = Unit {0}
IsStep (actions.start to function argument) = Unit {0}
IsStep (actions.join thread to) = Unit {0}
IsStep (actions.finish value) = ⊥

abbrev StepIf : Result actions.SharedAction Fault → Type 0
StepIf (Ok action) = IsStep action
StepIf (Err f) = Unit {0}

ok_step : {A : Type 0} (r : Result A Fault) (go : A → Result actions.SharedAction Fault) → ((a : A) → StepIf (go a)) → StepIf (on_ok r go)
ok_step (Ok a) go h = h a
ok_step (Err f) go h = tt

test_step : (b : Bool) (action : actions.SharedAction) (f : Fault) → IsStep action → StepIf (cond b (Ok action) (Err f))
test_step true action f h = h
test_step false action f h = tt

both_step : (b c : Bool) (action : actions.SharedAction) (f g : Fault) → IsStep action → StepIf (on_ok (cond b (Ok action) (Err f)) (λ a. cond c (Ok a) (Err g)))
both_step true true action f g h = h
both_step true false action f g h = tt
both_step false c action f g h = tt

-- the action of a step
with_step : (a : Action) (places : List Ptr) (vs : List Value) → StepIf (action_with a places vs)
with_step (load how) [] vs = tt
with_step (load how) (at ∷ []) [] = tt
with_step (load how) (at ∷ []) (v ∷ vs) = tt
with_step (load how) (at ∷ b ∷ places) vs = tt
with_step (store how) [] vs = tt
with_step (store how) (at ∷ []) [] = tt
with_step (store how) (at ∷ []) (v ∷ []) = test_step (fits how v) _ _ tt
with_step (store how) (at ∷ []) (v ∷ w ∷ vs) = tt
with_step (store how) (at ∷ b ∷ places) vs = tt
with_step (copy_bytes align eq) [] vs = tt
with_step (copy_bytes align eq) (to ∷ []) vs = tt
with_step (copy_bytes align eq) (to ∷ from ∷ []) [] = tt
with_step (copy_bytes align eq) (to ∷ from ∷ []) (values.Num n ∷ []) = test_step _ _ _ tt
with_step (copy_bytes align eq) (to ∷ from ∷ []) (values.Num n ∷ w ∷ vs) = tt
with_step (copy_bytes align eq) (to ∷ from ∷ []) (values.Pointer p ∷ vs) = tt
with_step (copy_bytes align eq) (to ∷ from ∷ b ∷ places) vs = tt
with_step malloc (at ∷ places) vs = tt
with_step malloc [] [] = tt
with_step malloc [] (values.Num n ∷ []) = test_step _ _ _ tt
with_step malloc [] (values.Num n ∷ w ∷ vs) = tt
with_step malloc [] (values.Pointer p ∷ vs) = tt
with_step calloc (at ∷ places) vs = tt
with_step calloc [] [] = tt
with_step calloc [] (values.Num n ∷ []) = tt
with_step calloc [] (values.Num n ∷ values.Num m ∷ []) = both_step _ _ _ _ _ tt
with_step calloc [] (values.Num n ∷ values.Num m ∷ w ∷ vs) = tt
with_step calloc [] (values.Num n ∷ values.Pointer p ∷ vs) = tt
with_step calloc [] (values.Pointer p ∷ vs) = tt
with_step realloc (at ∷ places) vs = tt
with_step realloc [] [] = tt
with_step realloc [] (values.Pointer p ∷ []) = tt
with_step realloc [] (values.Pointer p ∷ values.Num n ∷ []) = test_step _ _ _ tt
with_step realloc [] (values.Pointer p ∷ values.Num n ∷ w ∷ vs) = tt
with_step realloc [] (values.Pointer p ∷ values.Pointer q ∷ vs) = tt
with_step realloc [] (values.Num n ∷ vs) = tt
with_step (change how t) [] vs = tt
with_step (change how t) (at ∷ []) [] = tt
with_step (change how t) (at ∷ []) (values.Num n ∷ []) = test_step _ _ _ tt
with_step (change how t) (at ∷ []) (values.Num n ∷ w ∷ vs) = tt
with_step (change how t) (at ∷ []) (values.Pointer p ∷ vs) = tt
with_step (change how t) (at ∷ b ∷ places) vs = tt
with_step (compare t) [] vs = tt
with_step (compare t) (at ∷ []) vs = tt
with_step (compare t) (at ∷ want ∷ []) [] = tt
with_step (compare t) (at ∷ want ∷ []) (values.Num n ∷ []) = test_step _ _ _ tt
with_step (compare t) (at ∷ want ∷ []) (values.Num n ∷ w ∷ vs) = tt
with_step (compare t) (at ∷ want ∷ []) (values.Pointer p ∷ vs) = tt
with_step (compare t) (at ∷ want ∷ b ∷ places) vs = tt
with_step free (at ∷ places) vs = tt
with_step free [] [] = tt
with_step free [] (values.Pointer p ∷ []) = tt
with_step free [] (values.Pointer p ∷ w ∷ vs) = tt
with_step free [] (values.Num n ∷ vs) = tt
with_step (print pieces) places vs = ok_step (all_of number_of vs) _ (λ numbers. tt)
with_step lock [] vs = tt
with_step lock (at ∷ []) [] = tt
with_step lock (at ∷ []) (v ∷ vs) = tt
with_step lock (at ∷ b ∷ places) vs = tt
with_step unlock [] vs = tt
with_step unlock (at ∷ []) [] = tt
with_step unlock (at ∷ []) (v ∷ vs) = tt
with_step unlock (at ∷ b ∷ places) vs = tt
with_step destroy [] vs = tt
with_step destroy (at ∷ []) [] = tt
with_step destroy (at ∷ []) (v ∷ vs) = tt
with_step destroy (at ∷ b ∷ places) vs = tt
with_step (start function) [] vs = tt
with_step (start function) (to ∷ []) [] = tt
with_step (start function) (to ∷ []) (values.Pointer p ∷ []) = tt
with_step (start function) (to ∷ []) (values.Pointer p ∷ w ∷ vs) = tt
with_step (start function) (to ∷ []) (values.Num n ∷ vs) = tt
with_step (start function) (to ∷ b ∷ places) vs = tt
with_step join [] vs = tt
with_step join (to ∷ []) [] = tt
with_step join (to ∷ []) (values.Num n ∷ []) = test_step _ _ _ tt
with_step join (to ∷ []) (values.Num n ∷ w ∷ vs) = tt
with_step join (to ∷ []) (values.Pointer p ∷ vs) = tt
with_step join (to ∷ b ∷ places) vs = tt

-- ---- an action

-- the threads behind it: as they were; one more; or one that has returned is joined
pub data Change (ts : List actions.ThreadRecord) : List actions.ThreadRecord → Type 0 where
  same : Change ts ts
  more : (function : ℕ) (argument : Ptr) → Change ts (ts ++ beginning function argument ∷ [])
  joins_one : (number : ℕ) (t : actions.ThreadRecord) (z : ℤ) → slice_get ts number ≡ Some t → t.stage ≡ returned z → Change ts (set ts number (at_stage (joined z) t))

-- the threads once one of them has come to a stage
abbrev pub stage_list : List actions.ThreadRecord → ℕ → Stage → Option actions.ThreadRecord → List actions.ThreadRecord
stage_list ts number stage None = ts
stage_list ts number stage (Some t) = set ts number (at_stage stage t)

list_is : (w : World) (number : ℕ) (stage : Stage) (o : Option actions.ThreadRecord) → (staged_if w number stage o).threads ≡ stage_list w.threads number stage o
list_is w number stage None = refl
list_is w number stage (Some t) = refl

module _ (w : World) (thread : ℕ) where
  abbrev Changes : Done → Type 0
  Changes (actions.went v w2) = Change w.threads w2.threads
  Changes actions.blocked = Unit {0}
  Changes actions.unfit = Unit {0}
  Changes (actions.broke rule) = Unit {0}

  told : (d : Done) → Changes d → (answer : Answer) → Changes (under answer (settled d))
  told d k answers.Plain = k
  told d k answers.Got = tt
  told d k answers.None = tt

  chosen_changes : (answer : Answer) (got none : Done) → Changes got → Changes none → Changes (under answer (actions.chosen got none))
  chosen_changes answers.Plain got none k l = tt
  chosen_changes answers.Got got none k l = k
  chosen_changes answers.None got none k l = l

  gives_changes : (r : Result Value Rule) → Changes (gives w r)
  gives_changes (Ok v) = same
  gives_changes (Err rule) = tt

  changes_changes : (r : Result Blocks Rule) → Changes (changes w r)
  changes_changes (Ok blocks) = same
  changes_changes (Err rule) = tt

  waits_changes : (r : Result (Option Blocks) Rule) → Changes (changes_or_waits w r)
  waits_changes (Ok (Some blocks)) = same
  waits_changes (Ok None) = tt
  waits_changes (Err rule) = tt

  passes_changes : (r : Result (Unit {0}) Rule) → Changes (passes w r)
  passes_changes (Ok u) = same
  passes_changes (Err rule) = tt

  prints_changes : (r : Result (List ℕ) Rule) → Changes (prints w r)
  prints_changes (Ok all) = same
  prints_changes (Err rule) = tt

  allocated_changes : (b : Bool) (v : Option Value) (blocks : Blocks) → Changes (cond b (actions.went v (with_blocks w blocks)) actions.unfit)
  allocated_changes true v blocks = same
  allocated_changes false v blocks = tt

  renews_changes : (answer : Answer) (size : ℕ) (r : Result Blocks Rule) → Changes (under answer (actions.renews w size r))
  renews_changes answers.Plain size (Err rule) = tt
  renews_changes answers.Got size (Err rule) = tt
  renews_changes answers.None size (Err rule) = tt
  renews_changes answer size (Ok blocks) = chosen_changes answer _ (actions.refused_allocation w) (allocated_changes _ _ blocks) same

  number_changes : (r : Result Changed Rule) → Changes (actions.changes_number w r)
  number_changes (Ok c) = same
  number_changes (Err rule) = tt

  compares_changes : (r : Result Compared Rule) → Changes (actions.compares w r)
  compares_changes (Ok c) = same
  compares_changes (Err rule) = tt

  starts_changes : (function : ℕ) (argument : Ptr) (r : Result Blocks Rule) → Changes (starts w function argument r)
  starts_changes function argument (Ok blocks) = more function argument
  starts_changes function argument (Err rule) = tt

  joins_changes : (number : ℕ) (t : actions.ThreadRecord) (z : ℤ) → slice_get w.threads number ≡ Some t → t.stage ≡ returned z → (r : Result Blocks Rule) → Changes (joins w number z r)
  joins_changes number t z is stage (Ok blocks) =
      subst (Change w.threads) (sym (list_is (with_blocks w blocks) number (joined z) (slice_get w.threads number) ∙ ap (stage_list w.threads number (joined z)) is)) (joins_one number t z is stage)
  joins_changes number t z is stage (Err rule) = tt

  stage_changes : (number : ℕ) (to : Ptr) (t : actions.ThreadRecord) → slice_get w.threads number ≡ Some t → (stage : Stage) → t.stage ≡ stage → Changes (joins_at w number to stage)
  stage_changes number to t is running e = tt
  stage_changes number to t is (returned z) e = joins_changes number t z is e (actions.stored_unless_null w.blocks to z)
  stage_changes number to t is (joined z) e = tt

  thread_changes : (number : ℕ) (to : Ptr) (o : Option actions.ThreadRecord) → slice_get w.threads number ≡ o → Changes (joins_if w number to o)
  thread_changes number to None is = tt
  thread_changes number to (Some t) is = stage_changes number to t is t.stage refl

  joined_changes : (b : Bool) (number : ℕ) (to : Ptr) → Changes (cond b (actions.broke C14) (joins_if w number to (slice_get w.threads number)))
  joined_changes true number to = tt
  joined_changes false number to = thread_changes number to (slice_get w.threads number) refl

  telling_changes : (reached : List Reached) (d : Done) → Changes d → Changes (telling reached d)
  telling_changes reached (actions.went v w2) k = k
  telling_changes reached actions.blocked k = tt
  telling_changes reached actions.unfit k = tt
  telling_changes reached (actions.broke rule) k = tt

  -- each action by the table
  under_changes : (answer : Answer) (a : actions.SharedAction) → IsStep a → Changes (under answer (actions.outcomes w thread a))
  under_changes answer (actions.load at how) h = told (gives w (loaded w.blocks at how)) (gives_changes (loaded w.blocks at how)) answer
  under_changes answer (actions.store at v) h = told (changes w (stored w.blocks at v)) (changes_changes (stored w.blocks at v)) answer
  under_changes answer (actions.copy to from n align eq) h = told (changes w (copied w.blocks to from n align eq)) (changes_changes (copied w.blocks to from n align eq)) answer
  under_changes answer (actions.allocate size first) h = chosen_changes answer (actions.allocated w size first) (actions.refused_allocation w) (allocated_changes _ _ _) same
  under_changes answer (actions.reallocate at size) h = renews_changes answer size (renewed w.blocks at size)
  under_changes answer (actions.change at ty how by) h = told (actions.changes_number w (changed w.blocks at ty how by)) (number_changes (changed w.blocks at ty how by)) answer
  under_changes answer (actions.compare at want ty new) h = told (actions.compares w (compared w.blocks at want ty new)) (compares_changes (compared w.blocks at want ty new)) answer
  under_changes answer (actions.free at) h = told (changes w (freed w.blocks at)) (changes_changes (freed w.blocks at)) answer
  under_changes answer (actions.print parts) h = told (prints w (actions.all_bytes w.blocks parts)) (prints_changes (actions.all_bytes w.blocks parts)) answer
  under_changes answer (actions.lock at) h = told (changes_or_waits w (locked w.blocks at thread)) (waits_changes (locked w.blocks at thread)) answer
  under_changes answer (actions.unlock at) h = told (changes w (unlocked w.blocks at thread)) (changes_changes (unlocked w.blocks at thread)) answer
  under_changes answer (actions.destroy at) h = told (passes w (destroyed w.blocks at)) (passes_changes (destroyed w.blocks at)) answer
  under_changes answer (actions.start to function argument) h =
      chosen_changes answer (starts w function argument (stored w.blocks to (actions.next_number w))) (actions.refused_start w) (starts_changes function argument (stored w.blocks to (actions.next_number w))) same
  under_changes answer (actions.join number to) h = told (joined_by w thread number to) (joined_changes (thread == number) number to) answer
  under_changes answer (actions.finish value) h = absurd h

-- ---- a turn

module _ (p : Ir) (thread : ℕ) (answer : Answer) where
  -- where it goes on, a change; where its first function has returned, its own stage
  abbrev pub Comes : List actions.ThreadRecord → Outcome Position Own Fault World → Type 0
  Comes ts (went t w) = Change ts w.threads
  Comes ts (ended l w) = (z : ℤ) × (w.threads ≡ stage_list ts thread (returned z) (slice_get ts thread))
  Comes ts blocked = Unit {0}
  Comes ts (broke f) = Unit {0}
  Comes ts unfit = Unit {0}

  fits_comes : (b : Bool) (t : Thread Position Own) (w : World) → Comes w.threads (if_fits b (went t w))
  fits_comes true t w = same
  fits_comes false t w = tt

  done_comes : (t : Thread Position Own) (place : ℕ) (l : Own) (to : Option ℕ) (w : World) (d : Done) → Changes w thread d → Comes w.threads (served structured t (served_by place l to d))
  done_comes t place l to w (actions.went v w2) k = k
  done_comes t place l to w actions.blocked k = tt
  done_comes t place l to w actions.unfit k = tt
  done_comes t place l to w (actions.broke rule) k = tt

  step_comes : (t : Thread Position Own) (place : ℕ) (l : Own) (to : Option ℕ) (w : World) (r : Result actions.SharedAction Fault) → StepIf r → Comes w.threads (served structured t (served_if place thread answer l to w r))
  step_comes t place l to w (Ok action) h = done_comes t place l to w (acted w thread answer action) (telling_changes w thread _ (under answer (actions.outcomes w thread action)) (under_changes w thread answer action h))
  step_comes t place l to w (Err f) h = tt

  finish_comes : (l : Own) (w : World) (blocks : Blocks) (result : Option ℤ) (a : Answer) → Comes w.threads (finished {P = Position} (served_by 0 l None (acted (with_blocks w blocks) thread a (actions.finish result))))
  finish_comes l w blocks result answers.Plain = (actions.result_of result, list_is (with_blocks w blocks) thread (returned (actions.result_of result)) (slice_get w.threads thread))
  finish_comes l w blocks result answers.Got = tt
  finish_comes l w blocks result answers.None = tt

  result_comes : (l : Own) (w : World) (blocks : Blocks) (r : Result (Option ℤ) Fault) → Comes w.threads (finished {P = Position} (finished_with thread answer l w blocks r))
  result_comes l w blocks (Ok result) = finish_comes l w blocks result answer
  result_comes l w blocks (Err f) = tt

  back_comes : (b : Bool) (l : Own) (w : World) (c : Point Position Own) (cs : List (Point Position Own)) → Comes w.threads (if_fits b (back_in structured (blocks_world p thread) l w c cs))
  back_comes true l w c cs = same
  back_comes false l w c cs = tt

  left_comes : (l : Own) (temp : Option ℕ) (w : World) (cs : List (Point Position Own)) → Comes w.threads (left_call structured (blocks_world p thread) answer l temp w cs)
  left_comes l temp w [] = result_comes l w (over p l).blocks (result_of l temp)
  left_comes l temp w (c ∷ cs) = back_comes (is_plain answer) (left p l temp c.own (result_to (structured.here c.at))) w c cs

  -- by what stands there
  here_comes : (t : Thread Position Own) (w : World) (h : Here) → Comes w.threads (stop_at structured (blocks_machine p) (blocks_world p thread) (start_in p) answer t w h)
  here_comes t w (does place (sets to calc)) = tt
  here_comes t w (does place (call c)) = fits_comes (is_plain answer) _ w
  here_comes t w (does place (step s)) = step_comes t place t.top.own s.to w (action_of place t.top.own s) (ok_step (all_of (address_of place t.top.own) s.places) _ (λ places. ok_step _ _ (λ vs. with_step s.action places vs)))
  here_comes t w (does place (look slot base)) = tt
  here_comes t w (does place (safepoint slots)) = tt
  here_comes t w (does place (begin_object i)) = tt
  here_comes t w (does place (end_object i)) = tt
  here_comes t w (tests place temp) = tt
  here_comes t w passes_by = tt
  here_comes t w round = fits_comes (is_plain answer) _ w
  here_comes t w (returns temp) = left_comes t.top.own temp w t.callers

  run_comes : (callers : List (Point Position Own)) (w : World) (r : Result (Point Position Own) Fault) → Comes w.threads (and_then (alone (blocks_world p thread) callers w r) (stop_event structured (blocks_machine p) (blocks_world p thread) (start_in p) answer))
  run_comes callers w (Ok q) = here_comes (record { top = q; callers = callers }) (with_blocks w q.own.blocks) (structured.here q.at)
  run_comes callers w (Err f) = tt

  -- a turn
  pub turn_comes : (t : Thread Position Own) (w : World) → Comes w.threads (turn structured (blocks_machine p) (blocks_world p thread) (start_in p) answer t w)
  turn_comes t w = run_comes t.callers w (run structured (blocks_machine p) (record { at = t.top.at; own = with_own t.top.own w.blocks }))
