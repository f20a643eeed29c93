-- A turn that breaks a rule when it is told Got breaks one when it is told Plain, or doesn't take Plain; so what is tried breaks one.
use Rattle.std.proofs.Common.{ℕ, List, [], ◌∷◌, Option, Some, None, Result, Ok, Err}
use Rattle.block_store.specs.declared.values.Answer.TheVariants as answers
use Rattle.block_store.specs.Actions as actions
use Rattle.ak_words.specs.declared.rule.Rule.{Rule}
use Rattle.block_store.specs.Actions.{World, Done, Reached, acted, telling}
use Rattle.block_store.specs.Blocks.{Blocks, renewed}
use Rattle.block_store.specs.Runs as runs
use Rattle.block_store.specs.Runs.{own_at, picked, turn_if}
use Rattle.struct_ir.specs.Nodes.{Act, set, call, step, look, safepoint, begin_object, end_object, Ir}
use Rattle.struct_ir.specs.Flow.{Here, does, tests, passes, round, returns}
use Rattle.struct_ir.specs.Structured.{Position, structured}
use Rattle.struct_ir.specs.Machine.{Point}
use Rattle.struct_ir.specs.Threads.{Thread, Outcome, went, ended, blocked, broke, unfit, served, finished, left_call, stop_at, stop_event, local_event, and_then}
use Rattle.struct_ir.specs.meaning.Blocks.{Own, Fault, broken, wrong_kind, blocks_machine}
use Rattle.struct_ir.specs.meaning.Threads.{blocks_world, start_in, served_by, served_if, action_of, result_of, finished_with, over, program_of, turned}
use Rattle.flat_meaning.specs.Order.{pick}
use Rattle.flat_meaning.specs.Reaching.{Broken}
use Rattle.flat_replay.specs.Meaning.{tried_with}

-- a fault; and a fault or an answer that doesn't fit
abbrev Faults : Outcome Position Own Fault World → Type 0
Faults (went t w) = ⊥
Faults (ended l w) = ⊥
Faults blocked = ⊥
Faults (broke f) = Unit {0}
Faults unfit = ⊥

abbrev Stops : Outcome Position Own Fault World → Type 0
Stops (went t w) = ⊥
Stops (ended l w) = ⊥
Stops blocked = ⊥
Stops (broke f) = Unit {0}
Stops unfit = Unit {0}

-- the same of an action
abbrev Fails : Done → Type 0
Fails (actions.went v w) = ⊥
Fails actions.blocked = ⊥
Fails actions.unfit = ⊥
Fails (actions.broke rule) = Unit {0}

abbrev Refuses : Done → Type 0
Refuses (actions.went v w) = ⊥
Refuses actions.blocked = ⊥
Refuses actions.unfit = Unit {0}
Refuses (actions.broke rule) = Unit {0}

-- a realloc takes no Plain, unless it breaks a rule
renewed_refused : (w : World) (size : ℕ) (reached : List Reached) (r : Result Blocks Rule) → Refuses (telling reached (actions.renews w size r).plain)
renewed_refused w size reached (Ok blocks) = tt
renewed_refused w size reached (Err rule) = tt

-- where Got breaks a rule, Plain isn't taken
fails_refused : (w : World) (thread : ℕ) (a : actions.SharedAction) → Fails (acted w thread answers.Got a) → Refuses (acted w thread answers.Plain a)
fails_refused w thread (actions.load at how) h = absurd h
fails_refused w thread (actions.store at v) h = absurd h
fails_refused w thread (actions.copy to from n align same) h = absurd h
fails_refused w thread (actions.allocate size first) h = tt
fails_refused w thread (actions.reallocate at size) h = renewed_refused w size _ (renewed w.blocks at size)
fails_refused w thread (actions.change at ty how by) h = absurd h
fails_refused w thread (actions.compare at want ty new) h = absurd h
fails_refused w thread (actions.free at) h = absurd h
fails_refused w thread (actions.print parts) h = absurd h
fails_refused w thread (actions.lock at) h = absurd h
fails_refused w thread (actions.unlock at) h = absurd h
fails_refused w thread (actions.destroy at) h = absurd h
fails_refused w thread (actions.start to function argument) h = tt
fails_refused w thread (actions.join number to) h = absurd h
fails_refused w thread (actions.finish value) h = absurd h

module _ (p : Ir) (thread : ℕ) where
  served_stops : (t : Thread Position Own) (place : ℕ) (l : Own) (to : Option ℕ) (d e : Done) → (Fails d → Refuses e) → Faults (served structured t (served_by place l to d)) → Stops (served structured t (served_by place l to e))
  served_stops t place l to (actions.went v w) e go h = absurd h
  served_stops t place l to actions.blocked e go h = absurd h
  served_stops t place l to actions.unfit e go h = absurd h
  served_stops t place l to (actions.broke rule) (actions.went v w) go h = absurd (go tt)
  served_stops t place l to (actions.broke rule) actions.blocked go h = absurd (go tt)
  served_stops t place l to (actions.broke rule) actions.unfit go h = tt
  served_stops t place l to (actions.broke rule) (actions.broke r) go h = tt

  finished_stops : (place : ℕ) (l : Own) (to : Option ℕ) (d e : Done) → (Fails d → Refuses e) → Faults (finished (served_by place l to d)) → Stops (finished (served_by place l to e))
  finished_stops place l to (actions.went v w) e go h = absurd h
  finished_stops place l to actions.blocked e go h = absurd h
  finished_stops place l to actions.unfit e go h = absurd h
  finished_stops place l to (actions.broke rule) (actions.went v w) go h = absurd (go tt)
  finished_stops place l to (actions.broke rule) actions.blocked go h = absurd (go tt)
  finished_stops place l to (actions.broke rule) actions.unfit go h = tt
  finished_stops place l to (actions.broke rule) (actions.broke r) go h = tt

  step_stops : (t : Thread Position Own) (place : ℕ) (l : Own) (to : Option ℕ) (w : World) (r : Result actions.SharedAction Fault) → Faults (served structured t (served_if place thread answers.Got l to w r)) → Stops (served structured t (served_if place thread answers.Plain l to w r))
  step_stops t place l to w (Ok action) h = served_stops t place l to (acted w thread answers.Got action) (acted w thread answers.Plain action) (fails_refused w thread action) h
  step_stops t place l to w (Err f) h = tt

  result_stops : (l : Own) (w : World) (blocks : _) (r : Result (Option _) Fault) → Faults (finished (finished_with thread answers.Got l w blocks r)) → Stops (finished (finished_with thread answers.Plain l w blocks r))
  result_stops l w blocks (Ok z) h =
      let v = actions.with_blocks w blocks in
      finished_stops 0 l None (acted v thread answers.Got (actions.finish z)) (acted v thread answers.Plain (actions.finish z)) (fails_refused v thread (actions.finish z)) h
  result_stops l w blocks (Err f) h = tt

  abbrev FaultsAt : Thread Position Own → World → Here → Type 0
  FaultsAt t w h = Faults (stop_at structured (blocks_machine p) (blocks_world p thread) (start_in p) answers.Got t w h)

  abbrev StopsAt : Thread Position Own → World → Here → Type 0
  StopsAt t w h = Stops (stop_at structured (blocks_machine p) (blocks_world p thread) (start_in p) answers.Plain t w h)

  act_stops : (t : Thread Position Own) (w : World) (place : ℕ) (a : Act) → FaultsAt t w (does place a) → StopsAt t w (does place a)
  act_stops t w place (set to calc) h = absurd h
  act_stops t w place (call c) h = absurd h
  act_stops t w place (step s) h = step_stops t place t.top.own s.to w (action_of place t.top.own s) h
  act_stops t w place (look slot base) h = absurd h
  act_stops t w place (safepoint slots) h = absurd h
  act_stops t w place (begin_object i) h = absurd h
  act_stops t w place (end_object i) h = absurd h

  left_stops : (l : Own) (temp : Option ℕ) (w : World) (cs : List (Point Position Own)) → Faults (left_call structured (blocks_world p thread) answers.Got l temp w cs) → Stops (left_call structured (blocks_world p thread) answers.Plain l temp w cs)
  left_stops l temp w [] h = result_stops l w (over p l).blocks (result_of l temp) h
  left_stops l temp w (c ∷ cs) h = absurd h

  here_stops : (t : Thread Position Own) (w : World) (h : Here) → FaultsAt t w h → StopsAt t w h
  here_stops t w (does place a) h = act_stops t w place a h
  here_stops t w (tests place temp) h = absurd h
  here_stops t w passes h = absurd h
  here_stops t w round h = absurd h
  here_stops t w (returns temp) h = left_stops t.top.own temp w t.callers h

  then_stops : (o : Outcome Position Own Fault World) → Faults (and_then o (stop_event structured (blocks_machine p) (blocks_world p thread) (start_in p) answers.Got)) → Stops (and_then o (stop_event structured (blocks_machine p) (blocks_world p thread) (start_in p) answers.Plain))
  then_stops (went t w) h = here_stops t w (structured.here t.top.at) h
  then_stops (ended l w) h = absurd h
  then_stops blocked h = absurd h
  then_stops (broke f) h = tt
  then_stops unfit h = absurd h

  -- ---- a turn

  broken_faults : (o : Outcome Position Own Fault World) → Broken (Some (turned o)) → Faults o
  broken_faults (went t w) h = absurd h
  broken_faults (ended l w) h = absurd h
  broken_faults blocked h = absurd h
  broken_faults (broke (broken rule place)) h = tt
  broken_faults (broke wrong_kind) h = absurd h
  broken_faults unfit h = absurd h

  tried_stops : (o : Outcome Position Own Fault World) (got : Option (runs.Turn (Thread Position Own))) → Stops o → Broken got → Broken (tried_with (Some (turned o)) got)
  tried_stops (went t w) got s h = absurd s
  tried_stops (ended l w) got s h = absurd s
  tried_stops blocked got s h = absurd s
  tried_stops (broke (broken rule place)) got s h = tt
  tried_stops (broke wrong_kind) got s h = h
  tried_stops unfit got s h = h

  turn_tried : (k : Thread Position Own) (w : World) → Broken (Some ((program_of p).turn thread answers.Got k w)) → Broken (tried_with (Some ((program_of p).turn thread answers.Plain k w)) (Some ((program_of p).turn thread answers.Got k w)))
  turn_tried k w h =
      let first = local_event structured (blocks_machine p) (blocks_world p thread) k w in
      tried_stops (and_then first (stop_event structured (blocks_machine p) (blocks_world p thread) (start_in p) answers.Plain)) _ (then_stops first (broken_faults _ h)) h

  if_tried : (u : runs.State (Thread Position Own)) (main own : Option (Thread Position Own)) → Broken (turn_if (program_of p) u (pick thread answers.Got) main own)
      → Broken (tried_with (turn_if (program_of p) u (pick thread answers.Plain) main own) (turn_if (program_of p) u (pick thread answers.Got) main own))
  if_tried u None own h = absurd h
  if_tried u (Some main) None h = absurd h
  if_tried u (Some main) (Some own) h = turn_tried own u.world h

  -- told Got
  pub got_tried : (u : runs.State (Thread Position Own)) → Broken (picked (program_of p) u (pick thread answers.Got)) → Broken (tried_with (picked (program_of p) u (pick thread answers.Plain)) (picked (program_of p) u (pick thread answers.Got)))
  got_tried u h = if_tried u (own_at u.own 0) (own_at u.own thread) h

-- told Plain
pub plain_with : {A : Type 0} (plain got : Option (runs.Turn A)) → Broken plain → Broken (tried_with plain got)
plain_with None got h = absurd h
plain_with (Some (runs.went own w)) got h = absurd h
plain_with (Some (runs.ended w)) got h = absurd h
plain_with (Some runs.blocked) got h = absurd h
plain_with (Some runs.unfit) got h = absurd h
plain_with (Some (runs.broke rule place)) got h = tt
