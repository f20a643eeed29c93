-- A thread that waits for what hasn't come is blocked, if its step is tried.
use Rattle.std.proofs.Common.{◌≡◌, ℕ, zero, suc, ◌<◌, Bool, true, false, cond, ◌||◌, List, [], ◌∷◌, length, map, Option, Some, None, refl, sym, ap, ◌∙◌, subst, arith}
use Rattle.std.specs.Prelude.{is_some, slice_get}
use Rattle.block_store.specs.declared.values.Answer.TheVariants as answers
use Rattle.block_store.specs.Runs.{own_at}
use Rattle.struct_ir.specs.Flow.{Here, does, tests, passes, round, returns}
use Rattle.struct_ir.specs.Linear.{Spot}
use Rattle.struct_ir.specs.Nodes.{Action, load, store, copy_bytes, malloc, calloc, realloc, free, change, compare, print, lock, unlock, destroy, start, join, set, call, step, look, safepoint, begin_object, end_object}
use Rattle.struct_ir.specs.Threads.{Thread, Outcome, blocked, served, stop_at}
use Rattle.flat_store.specs.Flat.{first_outside}
use Rattle.ak_trace.specs.declared.endings.End.{End}
use Rattle.ak_trace.specs.declared.endings.TrapKind.{TrapKind}
use Rattle.flat_meaning.specs.Accesses as choices
use Rattle.flat_meaning.specs.Accesses.{Done, Fault, plain, within}
use Rattle.flat_meaning.specs.Actions as actions
use Rattle.flat_meaning.specs.Actions.{is_free, joined_if}
use Rattle.flat_meaning.specs.Allowed.{IsAllowed, MayAct, MayDo, MayStep, MayStepAt, MayTry}
use Rattle.flat_meaning.specs.Effects.{act_before, act_effect, effect_of_outcome, own_list_of}
use Rattle.flat_meaning.specs.Events.{MachineState, act, after, end_or, put_if}
use Rattle.flat_meaning.specs.Image.{Image}
use Rattle.flat_meaning.specs.Machine.{served_by, words_machine, words_world}
use Rattle.flat_meaning.specs.Memory.{Made, Memory}
use Rattle.flat_meaning.specs.Order.{pick, tried_action, tried_answer, tried_at, tried_before, tried_by, tried_if}
use Rattle.flat_meaning.specs.Ready.{has_ended}
use Rattle.flat_meaning.specs.Stages.{Stage, waiting, Before, steps, before, before_here}
use Rattle.flat_meaning.specs.Words.{Target, Words, target_of, word_at}
use Rattle.flat_threads.specs.Waits.{action_waits, waits_here}
use Rattle.flat_machine.specs.Readiness.{is_ready, wants_room}
use Rattle.flat_replay.proofs.WaitsMade.{IsMade}

module _ (x : Image Spot) (thread : ℕ) (m : Memory) (t : Thread Spot Words) where
  -- a step that waits, for which nothing is chosen
  record ActionBlocks (a : Action) (ts : List Target) (ws : List ℕ) : Type 0 where
    pub waits : actions.acted_on_memory x.layout thread plain a ts ws m ≡ choices.waits
    pub told : tried_action a ≡ answers.Plain
    pub may : (temps : List ℕ) → MayDo m.storage t.top.own plain a temps × MayTry m.storage t.top.own plain a temps

  within_waits : (kind : TrapKind) (o : Option ℕ) (b : Bool) (d : Done) → (is_some o || b) ≡ false → within kind o (cond b d choices.waits) ≡ choices.waits
  within_waits kind None true d e = absurd cc
  within_waits kind None false d e = refl
  within_waits kind (Some a) b d e = absurd cc

  none_there : (ts : List Made) (n : ℕ) → slice_get ts n ≡ None → n < length ts → ⊥
  none_there [] n e below = omega (arith, below)
  none_there (u ∷ ts) zero e below = cc
  none_there (u ∷ ts) (suc n) e below = none_there ts n e (omega (arith, below))

  result_waits : (to : Target) (u : Made) (r : Option ℕ) → is_some r ≡ false → actions.joined_at to r m ≡ choices.waits
  result_waits to u None e = refl
  result_waits to u (Some word) e = absurd cc

  join_waits : (to : Target) (number : ℕ) → number < length m.threads → (o : Option Made) → slice_get m.threads number ≡ o → has_ended o ≡ false → joined_if to o m ≡ choices.waits
  join_waits to number below None is e = absurd (none_there m.threads number is below)
  join_waits to number below (Some u) is e = result_waits to u u.result e

  -- a lock or a join whose thread isn't ready
  action_blocks : (a : Action) (ts : List Target) (ws : List ℕ) → is_ready m (action_waits a ts ws) ≡ false → wants_room (action_waits a ts ws) ≡ false → IsMade m.threads (action_waits a ts ws) → ActionBlocks a ts ws
  action_blocks (load how) ts ws e room made = absurd cc
  action_blocks (store how) ts ws e room made = absurd cc
  action_blocks (copy_bytes align same) ts ws e room made = absurd cc
  action_blocks malloc ts ws e room made = absurd cc
  action_blocks calloc ts ws e room made = absurd cc
  action_blocks realloc ts ws e room made = absurd cc
  action_blocks free ts ws e room made = absurd cc
  action_blocks (change how u) ts ws e room made = absurd cc
  action_blocks (compare u) ts ws e room made = absurd cc
  action_blocks (print pieces) ts ws e room made = absurd cc
  action_blocks lock [] ws e room made = absurd cc
  action_blocks lock (a ∷ []) [] e room made = record { waits = within_waits _ (first_outside m.storage.bytes a.address 8) (is_free m a.address) _ e; told = refl; may = λ temps. (refl, tt) }
  action_blocks lock (a ∷ []) (w ∷ ws) e room made = absurd cc
  action_blocks lock (a ∷ b ∷ ts) ws e room made = absurd cc
  action_blocks unlock ts ws e room made = absurd cc
  action_blocks destroy ts ws e room made = absurd cc
  action_blocks (start function) ts ws e room made = absurd cc
  action_blocks join [] ws e room made = absurd cc
  action_blocks join (to ∷ []) [] e room made = absurd cc
  action_blocks join (to ∷ []) (number ∷ []) e room made = record { waits = join_waits to number made (slice_get m.threads number) refl e; told = refl; may = λ temps. (refl, tt) }
  action_blocks join (to ∷ []) (number ∷ w ∷ ws) e room made = absurd cc
  action_blocks join (to ∷ b ∷ ts) ws e room made = absurd cc

  -- what stands there
  record HereBlocks (h : Here) : Type 0 where
    pub steps_ : before_here t.callers h ≡ steps
    pub may : MayAct m.storage t.top.own plain h
    pub outcome : stop_at x.flow (words_machine x.layout thread) (words_world x.layout thread) x.start plain t m h ≡ blocked
    pub told : tried_answer h ≡ answers.Plain

  -- by what stands there
  here_blocks : (h : Here) → is_ready m (waits_here t.top.own h) ≡ false → wants_room (waits_here t.top.own h) ≡ false → IsMade m.threads (waits_here t.top.own h) → HereBlocks h
  here_blocks (does place (set to calc)) e room made = absurd cc
  here_blocks (does place (call c)) e room made = absurd cc
  here_blocks (does place (step s)) e room made =
      let b : ActionBlocks s.action (map (target_of t.top.own) s.places) (map (word_at t.top.own) s.temps) = action_blocks s.action (map (target_of t.top.own) s.places) (map (word_at t.top.own) s.temps) e room made in
      record { steps_ = refl; may = b.may s.temps; outcome = ap (λ (d : Done). served x.flow t (served_by t.top.own s.to d)) b.waits; told = b.told }
  here_blocks (does place (look slot base)) e room made = absurd cc
  here_blocks (does place (safepoint slots)) e room made = absurd cc
  here_blocks (does place (begin_object i)) e room made = absurd cc
  here_blocks (does place (end_object i)) e room made = absurd cc
  here_blocks (tests place temp) e room made = absurd cc
  here_blocks passes e room made = absurd cc
  here_blocks round e room made = absurd cc
  here_blocks (returns temp) e room made = absurd cc

-- ---- in a state

module _ (x : Image Spot) (s : MachineState Spot) (thread : ℕ) where
  -- its step may come, leaves the run going on, and is tried
  pub record ActBlocks : Type 0 where
    pub allowed : IsAllowed x s (act thread plain)
    pub goes_on : (after x s (act thread plain)).end ≡ None
    pub tries : tried_by x s (act thread plain) ≡ pick thread answers.Plain ∷ []

  -- where the thread isn't ready, wants no room, and waits for one that was made
  pub act_blocks : (t : Thread Spot Words) → own_at s.own thread ≡ Some (waiting t) → s.end ≡ None → is_ready s.memory (waits_here t.top.own (x.flow.here t.top.at)) ≡ false → wants_room (waits_here t.top.own (x.flow.here t.top.at)) ≡ false
      → IsMade s.memory.threads (waits_here t.top.own (x.flow.here t.top.at)) → ActBlocks
  act_blocks t at open_ e room made =
      let m : Memory = s.memory in
      let h : HereBlocks x thread s.memory t (x.flow.here t.top.at) = here_blocks x thread s.memory t (x.flow.here t.top.at) e room made in
      let may : MayStep x s.memory plain t (before x t) = subst (λ (b : Before). MayStep x s.memory plain t b) (sym h.steps_) h.may in
      let end : (act_before x thread plain (waiting t) t s.memory (before x t)).end ≡ None =
      ap (λ (b : Before). (act_before x thread plain (waiting t) t s.memory b).end) h.steps_ ∙ ap (λ (o : Outcome Spot Words Fault Memory). (effect_of_outcome thread (waiting t) t (own_list_of (x.flow.here t.top.at)) s.memory o).end) h.outcome in
      let tries : tried_before x s.memory thread plain t (before x t) ≡ pick thread answers.Plain ∷ [] =
      ap (λ (b : Before). tried_before x s.memory thread plain t b) h.steps_ ∙ ap (λ (o : Outcome Spot Words Fault Memory). tried_if thread plain (x.flow.here t.top.at) o) h.outcome ∙ ap (λ a. pick thread a ∷ []) h.told in
      record {
        allowed = (open_, subst (λ (o : Option (Stage Spot)). MayStepAt x s.memory plain o) (sym at) may);
        goes_on = ap (λ (o : Option (Stage Spot)). (put_if s thread (act_effect x thread plain) o).end) at ∙ ap (λ (e : Option End). end_or e s.end) end ∙ open_;
        tries = ap (tried_at x s.memory thread plain) at ∙ tries;
      }
