-- That a turn meets a value of a wrong kind doesn't depend on its answer; so it meets none where it takes some answer.
use Rattle.std.proofs.Common.{◌≡◌, ◌≢◌, ℕ, List, [], ◌∷◌, Bool, true, false, Option, None, Result, Ok, Err, ap}
use Rattle.block_store.specs.declared.values.Answer.{Answer}
use Rattle.block_store.specs.Actions as actions
use Rattle.block_store.specs.Actions.{World, Done}
use Rattle.block_store.specs.Runs as runs
use Rattle.struct_ir.specs.Nodes.{Act, set, call, step, look, safepoint, begin_object, end_object, Ir}
use Rattle.struct_ir.specs.Flow.{Here, does, tests, passes, round, returns}
use Rattle.struct_ir.specs.Structured.{Position, structured}
use Rattle.struct_ir.specs.Machine.{Point}
use Rattle.struct_ir.specs.Threads.{Thread, Outcome, went, ended, blocked, broke, unfit, served, finished, if_fits, left_call, stop_at, stop_event, local_event, and_then}
use Rattle.struct_ir.specs.meaning.Blocks.{Own, Fault, wrong_kind, blocks_machine}
use Rattle.struct_ir.specs.meaning.Threads.{blocks_world, start_in, is_plain, served_by, served_if, action_of, result_of, finished_with, over, program_of, turned}
use Rattle.flat_simulation.specs.inner.Kept.{source_turn}

abbrev IsWrong : Outcome Position Own Fault World → Type 0
IsWrong o = o ≡ broke wrong_kind

module _ (p : Ir) (thread : ℕ) where
  if_wrong : (b : Bool) (t : Thread Position Own) (w : World) → IsWrong (if_fits b (went t w)) → ⊥
  if_wrong true t w e = cc
  if_wrong false t w e = cc

  done_wrong : (t : Thread Position Own) (place : ℕ) (l : Own) (to : Option ℕ) (d : Done) → IsWrong (served structured t (served_by place l to d)) → ⊥
  done_wrong t place l to (actions.went v w) e = cc
  done_wrong t place l to actions.blocked e = cc
  done_wrong t place l to actions.unfit e = cc
  done_wrong t place l to (actions.broke rule) e = cc

  finish_wrong : (place : ℕ) (l : Own) (to : Option ℕ) (d : Done) → IsWrong (finished (served_by place l to d)) → ⊥
  finish_wrong place l to (actions.went v w) e = cc
  finish_wrong place l to actions.blocked e = cc
  finish_wrong place l to actions.unfit e = cc
  finish_wrong place l to (actions.broke rule) e = cc

  module _ (one other : Answer) where
    step_wrong : (t : Thread Position Own) (place : ℕ) (l : Own) (to : Option ℕ) (w : World) (r : Result actions.SharedAction Fault) → IsWrong (served structured t (served_if place thread one l to w r)) → IsWrong (served structured t (served_if place thread other l to w r))
    step_wrong t place l to w (Ok action) e = absurd (done_wrong t place l to _ e)
    step_wrong t place l to w (Err f) e = e

    result_wrong : (l : Own) (w : World) (blocks : _) (r : Result (Option _) Fault) → IsWrong (finished (finished_with thread one l w blocks r)) → IsWrong (finished (finished_with thread other l w blocks r))
    result_wrong l w blocks (Ok z) e = absurd (finish_wrong 0 l None _ e)
    result_wrong l w blocks (Err f) e = e

    act_wrong : (t : Thread Position Own) (w : World) (place : ℕ) (a : Act) → IsWrong (stop_at structured (blocks_machine p) (blocks_world p thread) (start_in p) one t w (does place a)) → IsWrong (stop_at structured (blocks_machine p) (blocks_world p thread) (start_in p) other t w (does place a))
    act_wrong t w place (set to calc) e = absurd cc
    act_wrong t w place (call c) e = absurd (if_wrong (is_plain one) _ _ e)
    act_wrong t w place (step s) e = step_wrong t place t.top.own s.to w (action_of place t.top.own s) e
    act_wrong t w place (look slot base) e = absurd cc
    act_wrong t w place (safepoint slots) e = absurd cc
    act_wrong t w place (begin_object i) e = absurd cc
    act_wrong t w place (end_object i) e = absurd cc

    left_wrong : (l : Own) (temp : Option ℕ) (w : World) (cs : List (Point Position Own)) → IsWrong (left_call structured (blocks_world p thread) one l temp w cs) → IsWrong (left_call structured (blocks_world p thread) other l temp w cs)
    left_wrong l temp w [] e = result_wrong l w (over p l).blocks (result_of l temp) e
    left_wrong l temp w (c ∷ cs) e = absurd (if_wrong (is_plain one) _ _ e)

    here_wrong : (t : Thread Position Own) (w : World) (h : Here) → IsWrong (stop_at structured (blocks_machine p) (blocks_world p thread) (start_in p) one t w h) → IsWrong (stop_at structured (blocks_machine p) (blocks_world p thread) (start_in p) other t w h)
    here_wrong t w (does place a) e = act_wrong t w place a e
    here_wrong t w (tests place temp) e = absurd cc
    here_wrong t w passes e = absurd cc
    here_wrong t w round e = absurd (if_wrong (is_plain one) _ _ e)
    here_wrong t w (returns temp) e = left_wrong t.top.own temp w t.callers e

    then_wrong : (o : Outcome Position Own Fault World) → IsWrong (and_then o (stop_event structured (blocks_machine p) (blocks_world p thread) (start_in p) one)) → IsWrong (and_then o (stop_event structured (blocks_machine p) (blocks_world p thread) (start_in p) other))
    then_wrong (went t w) e = here_wrong t w (structured.here t.top.at) e
    then_wrong (ended l w) e = absurd cc
    then_wrong blocked e = absurd cc
    then_wrong (broke f) e = e
    then_wrong unfit e = absurd cc

  -- a turn that meets one does so whatever its answer
  pub wrong_whatever : (one other : Answer) (k : Thread Position Own) (w : World) → source_turn p thread one k w ≡ broke wrong_kind → source_turn p thread other k w ≡ broke wrong_kind
  wrong_whatever one other k w e = then_wrong one other (local_event structured (blocks_machine p) (blocks_world p thread) k w) e

  -- so one that takes some answer meets none
  pub right_kind : (one other : Answer) (k : Thread Position Own) (w : World) → (program_of p).turn thread other k w ≢ runs.unfit → source_turn p thread one k w ≢ broke wrong_kind
  right_kind one other k w fits e =
      let z = wrong_whatever one other k w e in
      fits (ap (λ o. turned o) z)
