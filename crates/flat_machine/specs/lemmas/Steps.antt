-- The step, the Look or the return before which a thread stands, from what stands there.
use Rattle.std.proofs.Common.{◌≡◌, ℕ, ◌+◌, ◌*◌, ◌<◌, Bool, true, false, cond, ◌&&◌, ◌||◌, ◌==◌, not, eqb, ◌≢◌, List, [], ◌∷◌, length, map, get_or, Option, Some, None, Box, Global, refl, ap, sym, ◌∙◌, subst, arith}
use Rattle.std.specs.Prelude.{slice_get, slice_index_or, slice_set, is_none, nat_lt}
use Rattle.std.proofs.lemmas.Bool.{and_parts, eqb-true, ltb-true}
use Rattle.struct_ir.specs.declared.code.StepNode.{StepNode}
use Rattle.struct_ir.specs.Valid.{Counts, Scope, counts_of, has_counts, are_below, is_action, is_below_if, is_distinct, is_list, is_own_list, is_place, is_step}
use Rattle.struct_ir.specs.declared.code.Place.{Place as CodePlace}
use Rattle.struct_ir.specs.Views.{action_view, place_view, step_view}
use Rattle.std.proofs.lemmas.Option.{slice_get-get_or}
use Rattle.std.proofs.lemmas.List.{get_or-map, get_or-set_same, length-map, length-set}
use Rattle.handle_table.specs.Table.{translated}
use Rattle.struct_ir.specs.Nodes.{Action, Place, load, store, copy_bytes, malloc, calloc, realloc, free, change, compare, print, lock, unlock, destroy, start, join, Step, step, look, own_list, may_wait}
use Rattle.struct_ir.specs.Flow.{Here, does, returns}
use Rattle.std.specs.List.{list_all}
use Rattle.struct_ir.proofs.ValidCode.{of_all}
use Rattle.struct_ir.specs.Instrs.{Instr, LinearCode, instrs_if, instrs_of}
use Rattle.struct_ir.specs.Machine.{Point}
use Rattle.struct_ir.specs.ValidCode.{code_scope_of, is_instr}
use Rattle.struct_ir.specs.declared.linear.Instr.{Instr as CodeInstr}
use Rattle.struct_ir.specs.declared.linear.InstrKind.{InstrKind}
use Rattle.struct_ir.specs.declared.linear.InstrKind.TheVariants as kinds
use Rattle.struct_ir.specs.InstrViews.{instr_view, instr_kind_view}
use Rattle.std.specs.List.{list_any, AllByRecursion, IsDistinct}
use Rattle.std.specs.Option.{ForSome}
use Rattle.std.proofs.lemmas.Bool.Decides.{nat_tests}
use Rattle.std.proofs.lemmas.Map.Steps.{length-le_from_distinct_below}
use Rattle.struct_ir.specs.Linear.{Spot, instr_here, instr_next, linear}
use Rattle.struct_ir.specs.Threads.{Thread, Outcome, ended, left_call, served, stop_at}
use Rattle.flat_meaning.specs.declared.endings.Stop.{Stop}
use Rattle.flat_meaning.specs.declared.endings.Stop.TheVariants.{AtStep, Spent, NoRoom}
use Rattle.ak_words.specs.declared.int_type.IntType.{IntType}
use Rattle.block_store.specs.declared.values.Change.{Change}
use Rattle.flat_meaning.specs.Accesses as actions
use Rattle.flat_meaning.specs.Accesses.{Choice}
use Rattle.flat_meaning.specs.Actions.{acted_on_memory, locked, started, unlocked, changed, compared}
use Rattle.flat_meaning.specs.Effects as effects
use Rattle.flat_meaning.specs.Effects.{Effect, landing, own_list_of}
use Rattle.ak_trace.specs.declared.endings.End.{End}
use Rattle.flat_meaning.specs.Stages as stages
use Rattle.flat_meaning.specs.Image.{Image, Layout}
use Rattle.flat_meaning.specs.Local.{no_room_if, spent_if, stop_before}
use Rattle.flat_meaning.specs.Local.{stop_at as stop_at_stage}
use Rattle.flat_meaning.specs.Machine.{given, looked, served_by, words_machine, words_world}
use Rattle.flat_meaning.specs.Memory.{Made, Memory, beginning, ended_if, thread_ended, with_result}
use Rattle.flat_meaning.specs.Stages.{Stage, starts, going, waiting, landed, thread_at, Before, looks, steps, before, before_here, before_return}
use Rattle.flat_meaning.specs.Words.{Target, Used, Words, none_used, target_of, used_with, word_at}
use Rattle.flat_threads.specs.declared.wait.Wait.{Wait}
use Rattle.flat_threads.specs.declared.wait.Wait.TheVariants as waits
use Rattle.flat_threads.specs.Contexts.{Context, AreCallsOf, IsCallOf, IsInCall, IsListFor, IsProgram, IsStageIf, IsStageOf, IsThreadOf, layout_of, own_image, standing}
use Rattle.flat_threads.specs.Belonging.{HasStopped, IsContextOf}
use Rattle.flat_threads.specs.Deeds.{ArePlacesOf, IsPlaceOf, top_at, top_of, landed_stage, looked_stage, looked_thread, stepped, waiting_stage}
use Rattle.flat_threads.specs.Waits.{action_waits, waits_at}
use Rattle.flat_rules.specs.Machine as turns
use Rattle.flat_machine.specs.declared.done.Done.{Done}
use Rattle.flat_machine.specs.declared.done.Done.TheVariants as dones
use Rattle.flat_machine.specs.declared.turned.Turned.{Turned}
use Rattle.flat_machine.specs.Acting.{effect_before, effect_if}
use Rattle.flat_machine.specs.Choices.{action_choice, choice_here, malloc_choice}
use Rattle.flat_machine.specs.Shares.{Shared, image_of}
use Rattle.flat_machine.specs.Turns.{done_turned, blocked_turned, outcome_turned, turned_before, turned_of, value_of, value_if}
use Rattle.flat_machine.specs.lemmas.Outcomes.{allocated_waits, zeroed_waits, reallocated_waits}
use Rattle.flat_machine.specs.inner.Acted.{IsSettled, IsStepOf, StepIsDone, settled_stage, settled_turned, settled_wait, wait_turned}
use Rattle.flat_machine.specs.inner.Dones.{Does, WaitsFor, Went, done_view, memory_after, with_memory}
use Rattle.flat_machine.specs.inner.Turneds.{turned_view}

-- ---- a step that couldn't be done

module _ (x : Image Spot) (n : ℕ) (rule : (word size : ℕ) → Choice) (l : Words) (m : Memory) (for : Wait) where
  lock_blocked : (places : List Place) (temps : List ℕ) → action_waits lock (map (target_of l) places) (map (word_at l) temps) ≡ Some for → wait_turned for ≡ turns.found_busy
  lock_blocked [] temps e = absurd cc
  lock_blocked (a ∷ []) [] e = let is : waits.Mutex (target_of l a).address ≡ for = cc in ap wait_turned (sym is)
  lock_blocked (a ∷ []) (t ∷ temps) e = absurd cc
  lock_blocked (a ∷ b ∷ places) temps e = absurd cc

  join_blocked : (places : List Place) (temps : List ℕ) → action_waits join (map (target_of l) places) (map (word_at l) temps) ≡ Some for → wait_turned for ≡ turns.found_busy
  join_blocked [] temps e = absurd cc
  join_blocked (a ∷ []) [] e = absurd cc
  join_blocked (a ∷ []) (t ∷ []) e = let is : waits.Thread (word_at l t) ≡ for = cc in ap wait_turned (sym is)
  join_blocked (a ∷ []) (t ∷ u ∷ temps) e = absurd cc
  join_blocked (a ∷ b ∷ places) temps e = absurd cc

  malloc_blocked : (places : List Place) (temps : List ℕ)
      → acted_on_memory x.layout n (action_choice rule l malloc temps) malloc (map (target_of l) places) (map (word_at l) temps) m ≡ actions.waits → Some waits.Room ≡ Some for
      → wait_turned for ≡ blocked_turned (action_choice rule l malloc temps)
  malloc_blocked (a ∷ places) temps e f = absurd cc
  malloc_blocked [] [] e f = absurd cc
  malloc_blocked [] (t ∷ u ∷ temps) e f = absurd cc
  malloc_blocked [] (t ∷ []) e f = let is : waits.Room ≡ for = cc in ap wait_turned (sym is) ∙ sym (ap blocked_turned (allocated_waits (rule 0 (word_at l t)) (word_at l t) m e))

  calloc_blocked : (places : List Place) (temps : List ℕ)
      → acted_on_memory x.layout n (action_choice rule l calloc temps) calloc (map (target_of l) places) (map (word_at l) temps) m ≡ actions.waits → Some waits.Room ≡ Some for
      → wait_turned for ≡ blocked_turned (action_choice rule l calloc temps)
  calloc_blocked (a ∷ places) temps e f = absurd cc
  calloc_blocked [] [] e f = absurd cc
  calloc_blocked [] (t ∷ []) e f = absurd cc
  calloc_blocked [] (t ∷ u ∷ v ∷ temps) e f = absurd cc
  calloc_blocked [] (t ∷ u ∷ []) e f = let is : waits.Room ≡ for = cc in ap wait_turned (sym is) ∙ sym (ap blocked_turned (zeroed_waits (rule 0 (word_at l t * word_at l u)) (word_at l t * word_at l u) m e))

  realloc_blocked : (places : List Place) (temps : List ℕ)
      → acted_on_memory x.layout n (action_choice rule l realloc temps) realloc (map (target_of l) places) (map (word_at l) temps) m ≡ actions.waits → Some waits.Room ≡ Some for
      → wait_turned for ≡ blocked_turned (action_choice rule l realloc temps)
  realloc_blocked (a ∷ places) temps e f = absurd cc
  realloc_blocked [] [] e f = absurd cc
  realloc_blocked [] (t ∷ []) e f = absurd cc
  realloc_blocked [] (t ∷ u ∷ v ∷ temps) e f = absurd cc
  realloc_blocked [] (t ∷ u ∷ []) e f =
      let is : waits.Room ≡ for = cc in
      ap wait_turned (sym is) ∙ sym (ap blocked_turned (reallocated_waits (eqb (word_at l t) 0) m.leaving (rule (word_at l t) (word_at l u)) (word_at l t) (word_at l u) m e))

  -- it is told so
  pub blocked_is : (a : Action) (places : List Place) (temps : List ℕ)
      → acted_on_memory x.layout n (action_choice rule l a temps) a (map (target_of l) places) (map (word_at l) temps) m ≡ actions.waits → action_waits a (map (target_of l) places) (map (word_at l) temps) ≡ Some for
      → wait_turned for ≡ blocked_turned (action_choice rule l a temps)
  blocked_is (load how) places temps e f = absurd cc
  blocked_is (store how) places temps e f = absurd cc
  blocked_is (copy_bytes align same) places temps e f = absurd cc
  blocked_is malloc places temps e f = malloc_blocked places temps e f
  blocked_is calloc places temps e f = calloc_blocked places temps e f
  blocked_is realloc places temps e f = realloc_blocked places temps e f
  blocked_is free places temps e f = absurd cc
  blocked_is (change how t) places temps e f = absurd cc
  blocked_is (compare t) places temps e f = absurd cc
  blocked_is (print pieces) places temps e f = absurd cc
  blocked_is lock places temps e f = lock_blocked places temps f
  blocked_is unlock places temps e f = absurd cc
  blocked_is destroy places temps e f = absurd cc
  blocked_is (start function) places temps e f = absurd cc
  blocked_is join places temps e f = join_blocked places temps f

-- ---- what comes of it

-- the parts of what a step leaves that depend on how the program is loaded
pub record Comes (x own : Image Spot) (old new : Shared) (c behind : Context) (turned : turns.Turned) : Type 0 where
  pub shared : new ≡ with_memory old (effect_if x c.number old.memory c.stage (Some AtStep)).memory
  pub context : behind ≡ standing c behind.stage (waits_at own behind.stage)
  pub stage : behind.stage ≡ (effect_if x c.number old.memory c.stage (Some AtStep)).stage
  pub turned_ : turned ≡ turned_of x c.number old.memory c.stage (Some AtStep)

-- from the context's parts
comes : (x own : Image Spot) (old new : Shared) (c behind : Context) (turned : turns.Turned) (at behind_at : Option (Stage Spot)) (wait : Option Wait) → c.stage ≡ at → behind ≡ standing c behind_at wait
    → new ≡ with_memory old (effect_if x c.number old.memory at (Some AtStep)).memory → wait ≡ waits_at own behind_at → behind_at ≡ (effect_if x c.number old.memory at (Some AtStep)).stage → turned ≡ turned_of x c.number old.memory at (Some AtStep)
    → Comes x own old new c behind turned
comes x own old new c behind turned at behind_at wait at_is behind_is shared wait_is stage_is turned_is =
    let b : behind.stage ≡ behind_at = ap (λ (b : Context). b.stage) behind_is in
    record {
      shared = rw at_is shared;
      context = behind_is ∙ ap (standing c behind_at) wait_is ∙ ap (λ (o : Option (Stage Spot)). standing c o (waits_at own o)) (sym b);
      stage = rw at_is (b ∙ stage_is);
      turned_ = rw at_is turned_is;
    }

-- ---- a step

abbrev spot_behind : Spot → Spot
spot_behind p = record { function = p.function; index = p.index + 1 }

module _ (x : Image Spot) (n : ℕ) (m : Memory) where
  -- what comes of it where this stands there
  abbrev outcome_here : Choice → Thread Spot Words → Here → Outcome Spot Words actions.Fault Memory
  outcome_here choice t h = stop_at x.flow (words_machine x.layout n) (words_world x.layout n) x.start choice t m h

  abbrev chosen : Thread Spot Words → Here → Choice
  chosen t h = choice_here (malloc_choice m.storage) t.top.own h

  abbrev effect_here : Stage Spot → Thread Spot Words → Here → Effect Spot
  effect_here stage t h = effects.effect_of_outcome n stage t (own_list_of h) m (outcome_here (chosen t h) t h)

  before_is : (t : Thread Spot Words) (h : Here) (b : Before) → x.flow.here t.top.at ≡ h → before_here t.callers h ≡ b → before x t ≡ b
  before_is t h b here_is is = ap (before_here t.callers) here_is ∙ is

  to_step : (stage : Stage Spot) (t : Thread Spot Words) (h : Here) → x.flow.here t.top.at ≡ h → before_here t.callers h ≡ steps
      → effects.act_before x n (chosen t (x.flow.here t.top.at)) stage t m (before x t) ≡ effect_here stage t h
  to_step stage t h here_is is =
      ap (effects.act_before x n (chosen t (x.flow.here t.top.at)) stage t m) (before_is t h steps here_is is) ∙ ap (effect_here stage t) here_is

  effect_is : (stage : Stage Spot) → IsInCall (Some stage) → (h : Here) → x.flow.here (thread_at x stage).top.at ≡ h → before_here (thread_at x stage).callers h ≡ steps
      → effect_if x n m (Some stage) (Some AtStep) ≡ effect_here stage (thread_at x stage) h
  effect_is (starts function argument) call h here_is is = absurd call
  effect_is (going t) call h here_is is = ap (effect_before x n (chosen t (x.flow.here t.top.at)) (going t) m AtStep) (before_is t h steps here_is is) ∙ to_step (going t) t h here_is is
  effect_is (waiting t) call h here_is is = ap (effect_before x n (chosen t (x.flow.here t.top.at)) (waiting t) m AtStep) (before_is t h steps here_is is) ∙ to_step (waiting t) t h here_is is
  effect_is (landed list t) call h here_is is = ap (effect_before x n (chosen t (x.flow.here t.top.at)) (landed list t) m AtStep) (before_is t h steps here_is is) ∙ to_step (landed list t) t h here_is is

  turned_to_step : (t : Thread Spot Words) (h : Here) → x.flow.here t.top.at ≡ h → before_here t.callers h ≡ steps
      → turned_before x n m (chosen t (x.flow.here t.top.at)) t AtStep (before x t) ≡ outcome_turned x n m (chosen t h) h (outcome_here (chosen t h) t h)
  turned_to_step t h here_is is =
      ap (turned_before x n m (chosen t (x.flow.here t.top.at)) t AtStep) (before_is t h steps here_is is)
      ∙ ap (λ (h : Here). outcome_turned x n m (chosen t h) h (outcome_here (chosen t h) t h)) here_is

  to_look : (stage : Stage Spot) (t : Thread Spot Words) (h : Here) → x.flow.here t.top.at ≡ h → before_here t.callers h ≡ looks
      → effects.look_before x n stage t m (before x t) ≡ effects.effect_of_outcome n stage t (own_list_of h) m (outcome_here actions.plain t h)
  to_look stage t h here_is is =
      ap (effects.look_before x n stage t m) (before_is t h looks here_is is)
      ∙ ap (λ (h : Here). effects.effect_of_outcome n stage t (own_list_of h) m (outcome_here actions.plain t h)) here_is

module _ (x : Image Spot) (n : ℕ) (m : Memory) (place : ℕ) (s : Step) where
  abbrev pub choice_at : Words → Choice
  choice_at l = action_choice (malloc_choice m.storage) l s.action s.temps

  abbrev pub done_at : Words → actions.Done
  done_at l = acted_on_memory x.layout n (choice_at l) s.action (map (target_of l) s.places) (map (word_at l) s.temps) m

  abbrev pub outcome_at : Thread Spot Words → actions.Done → Outcome Spot Words actions.Fault Memory
  outcome_at t d = served x.flow t (served_by t.top.own s.to d)

  pub step_effect_is : (stage : Stage Spot) → IsInCall (Some stage) → x.flow.here (thread_at x stage).top.at ≡ does place (step s)
      → effect_if x n m (Some stage) (Some AtStep) ≡ effects.effect_of_outcome n stage (thread_at x stage) (own_list s) m (outcome_at (thread_at x stage) (done_at (thread_at x stage).top.own))
  step_effect_is stage call h = effect_is x n m stage call (does place (step s)) h refl

  pub step_turned_is : (stage : Stage Spot) → IsInCall (Some stage) → x.flow.here (thread_at x stage).top.at ≡ does place (step s)
      → turned_of x n m (Some stage) (Some AtStep) ≡ outcome_turned x n m (choice_at (thread_at x stage).top.own) (does place (step s)) (outcome_at (thread_at x stage) (done_at (thread_at x stage).top.own))
  step_turned_is stage call h = turned_to_step x n m (thread_at x stage) (does place (step s)) h refl

  landed_is : (stage : Stage Spot) → IsInCall (Some stage) → (word : Option ℕ) → landed_stage s (Some stage) word ≡ Some (stepped s (thread_at x stage) word)
  landed_is (starts function argument) call word = absurd call
  landed_is (going t) call word = refl
  landed_is (waiting t) call word = refl
  landed_is (landed list t) call word = refl

  waiting_is : (stage : Stage Spot) → IsInCall (Some stage) → waiting_stage (Some stage) ≡ Some (waiting (thread_at x stage))
  waiting_is (starts function argument) call = absurd call
  waiting_is (going t) call = refl
  waiting_is (waiting t) call = refl
  waiting_is (landed list t) call = refl

  stage_is : (stage : Stage Spot) → IsInCall (Some stage) → (t : Thread Spot Words) → t ≡ thread_at x stage → x.flow.next t.top.at true ≡ spot_behind t.top.at → (after : Memory) (r : Done)
      → settled_stage s (Some stage) r ≡ (effects.effect_of_outcome n stage t (own_list s) m (outcome_at t (done_view after r))).stage
  stage_is stage call t t_is next after (dones.Went None turned) = landed_is stage call None ∙ rw (← t_is, next) refl
  stage_is stage call t t_is next after (dones.Went (Some word) turned) = landed_is stage call (Some word) ∙ rw (← t_is, next) refl
  stage_is stage call t t_is next after (dones.Waits for) = waiting_is stage call ∙ rw (← t_is) refl
  stage_is stage call t t_is next after (dones.Trap word kind) = refl
  stage_is stage call t t_is next after dones.Full = refl

  memory_is : (stage : Stage Spot) (t : Thread Spot Words) (after : Memory) (r : Done) → memory_after m (done_view after r) ≡ (effects.effect_of_outcome n stage t (own_list s) m (outcome_at t (done_view after r))).memory
  memory_is stage t after (dones.Went None turned) = refl
  memory_is stage t after (dones.Went (Some word) turned) = refl
  memory_is stage t after (dones.Waits for) = refl
  memory_is stage t after (dones.Trap word kind) = refl
  memory_is stage t after dones.Full = refl

  turned_is : (t : Thread Spot Words) (after : Memory) (r : Done) → done_view after r ≡ done_at t.top.own → Went r (done_turned x m (choice_at t.top.own) s.action)
      → WaitsFor r (action_waits s.action (map (target_of t.top.own) s.places) (map (word_at t.top.own) s.temps))
      → settled_turned r ≡ outcome_turned x n m (choice_at t.top.own) (does place (step s)) (outcome_at t (done_view after r))
  turned_is t after (dones.Went None turned) e told waits_for = told
  turned_is t after (dones.Went (Some word) turned) e told waits_for = told
  turned_is t after (dones.Waits for) e told waits_for = blocked_is x n (malloc_choice m.storage) t.top.own m for s.action s.places s.temps (sym e) waits_for
  turned_is t after (dones.Trap word kind) e told waits_for = refl
  turned_is t after dones.Full e told waits_for = refl

  module _ (own : Image Spot) where
    landing_waits : (list : Option (List ℕ)) (t : Thread Spot Words) → None ≡ waits_at own (Some (landing list t))
    landing_waits None t = refl
    landing_waits (Some list) t = refl

    wait_is : (stage : Stage Spot) → IsInCall (Some stage) → (t : Thread Spot Words) → t ≡ thread_at x stage → own.flow.here t.top.at ≡ does place (step s) → (wait : Option Wait) → wait ≡ waits_at own (Some stage) → (r : Done)
        → WaitsFor r (action_waits s.action (map (target_of t.top.own) s.places) (map (word_at t.top.own) s.temps)) → settled_wait wait r ≡ waits_at own (settled_stage s (Some stage) r)
    wait_is stage call t t_is h wait w (dones.Went word turned) waits_for = landing_waits (own_list s) _ ∙ ap (waits_at own) (sym (landed_is stage call word))
    wait_is stage call t t_is h wait w (dones.Waits for) waits_for =
        let here_waits : waits_at own (Some (waiting t)) ≡ Some for = rw h waits_for in
        sym here_waits ∙ ap (λ (t : Thread Spot Words). waits_at own (Some (waiting t))) t_is ∙ ap (waits_at own) (sym (waiting_is stage call))
    wait_is stage call t t_is h wait w (dones.Trap word kind) waits_for = w
    wait_is stage call t t_is h wait w dones.Full waits_for = w

-- a step is done
pub step_comes : (x own : Image Spot) (old new : Shared) (c behind : Context) (turned : Turned) (stage : Stage Spot) (place : ℕ) (s : Step) (r : Done) → c.stage ≡ Some stage → IsInCall (Some stage)
    → (t : Thread Spot Words) → t ≡ thread_at x stage → x.flow.here t.top.at ≡ does place (step s) → x.flow.next t.top.at true ≡ spot_behind t.top.at → own.flow.here t.top.at ≡ does place (step s) → c.wait ≡ waits_at own c.stage
    → Does old new r (done_at x c.number old.memory place s t.top.own) → Went r (done_turned x old.memory (choice_at x c.number old.memory place s t.top.own) s.action)
    → WaitsFor r (action_waits s.action (map (target_of t.top.own) s.places) (map (word_at t.top.own) s.temps)) → IsSettled s r c behind turned → Comes x own old new c behind (turned_view turned)
step_comes x own old new c behind turned stage place s r at call t t_is h next own_h wait d told waits_for settled =
    let n = c.number in
    let m : Memory = old.memory in
    let eff = step_effect_is x n m place s stage call (rw (← t_is) h) in
    let tur = step_turned_is x n m place s stage call (rw (← t_is) h) in
    let eff_t : effect_if x n m (Some stage) (Some AtStep) ≡ effects.effect_of_outcome n stage t (own_list s) m (outcome_at x n m place s t (done_view new.memory r)) = rw d.done_ (rw t_is eff) in
    let tur_t : turned_of x n m (Some stage) (Some AtStep) ≡ outcome_turned x n m (choice_at x n m place s t.top.own) (does place (step s)) (outcome_at x n m place s t (done_view new.memory r)) = rw d.done_ (rw t_is tur) in
    comes x own old new c behind (turned_view turned) (Some stage) (settled_stage s (Some stage) r) (settled_wait c.wait r) at
    (rw at at settled.context)
    (d.left ∙ ap (with_memory old) (ap (memory_after m) (sym d.done_) ∙ memory_is x n m place s stage t new.memory r ∙ ap (λ (e : Effect Spot). e.memory) (sym eff_t)))
    (wait_is x n m place s own stage call t t_is own_h c.wait (rw at at wait) r waits_for)
    (stage_is x n m place s stage call t t_is next new.memory r ∙ ap (λ (e : Effect Spot). e.stage) (sym eff_t))
    (settled.turned_ ∙ turned_is x n m place s t new.memory r d.done_ told waits_for ∙ sym tur_t)

-- ---- a Look

module _ (x : Image Spot) (n : ℕ) (m : Memory) (place slot base : ℕ) where
  abbrev pub looked_at : Thread Spot Words → Thread Spot Words
  looked_at t = record { top = record { at = x.flow.next t.top.at true; own = looked m.storage t.top.own slot (word_at t.top.own base) }; callers = t.callers }

  pub look_effect_is : (stage : Stage Spot) → IsInCall (Some stage) → x.flow.here (thread_at x stage).top.at ≡ does place (look slot base)
      → effect_if x n m (Some stage) (Some AtStep) ≡ record { memory = m; stage = Some (going (looked_at (thread_at x stage))); end = None }
  look_effect_is (starts function argument) call h = absurd call
  look_effect_is (going t) call h = ap (effect_before x n (chosen x n m t (x.flow.here t.top.at)) (going t) m AtStep) (before_is x n m t _ looks h refl) ∙ to_look x n m (going t) t _ h refl
  look_effect_is (waiting t) call h = ap (effect_before x n (chosen x n m t (x.flow.here t.top.at)) (waiting t) m AtStep) (before_is x n m t _ looks h refl) ∙ to_look x n m (waiting t) t _ h refl
  look_effect_is (landed list t) call h = ap (effect_before x n (chosen x n m t (x.flow.here t.top.at)) (landed list t) m AtStep) (before_is x n m t _ looks h refl) ∙ to_look x n m (landed list t) t _ h refl

  pub look_turned_is : (stage : Stage Spot) → IsInCall (Some stage) → x.flow.here (thread_at x stage).top.at ≡ does place (look slot base) → turned_of x n m (Some stage) (Some AtStep) ≡ turns.looked
  look_turned_is stage call h = let t = thread_at x stage in ap (turned_before x n m (chosen x n m t (x.flow.here t.top.at)) t AtStep) (before_is x n m t _ looks h refl)

  looked_is : (stage : Stage Spot) → IsInCall (Some stage) → (word address : ℕ) → looked_stage (Some stage) slot word address ≡ Some (going (looked_thread (thread_at x stage) slot word address))
  looked_is (starts function argument) call word address = absurd call
  looked_is (going t) call word address = refl
  looked_is (waiting t) call word address = refl
  looked_is (landed list t) call word address = refl

  same_looked : (t : Thread Spot Words) → x.flow.next t.top.at true ≡ spot_behind t.top.at → (word address : ℕ) → word ≡ word_at t.top.own base → address ≡ translated m.storage.table word → looked_thread t slot word address ≡ looked_at t
  same_looked t next word address word_is address_is = rw (address_is, word_is, next) refl

-- a Look is done
pub look_comes : (x own : Image Spot) (old new : Shared) (c behind : Context) (stage : Stage Spot) (place slot base word address : ℕ) → c.stage ≡ Some stage → IsInCall (Some stage)
    → (t : Thread Spot Words) → t ≡ thread_at x stage → x.flow.here t.top.at ≡ does place (look slot base) → x.flow.next t.top.at true ≡ spot_behind t.top.at
    → word ≡ word_at t.top.own base → address ≡ translated old.memory.storage.table word → new ≡ old → behind ≡ standing c (looked_stage c.stage slot word address) None → Comes x own old new c behind turns.looked
look_comes x own old new c behind stage place slot base word address at call t t_is h next word_is address_is same b =
    let n = c.number in
    let m : Memory = old.memory in
    let eff = look_effect_is x n m place slot base stage call (rw (← t_is) h) in
    let l : looked_stage (Some stage) slot word address ≡ Some (going (looked_at x n m place slot base t)) =
    looked_is x n m place slot base stage call word address ∙ ap (λ (t : Thread Spot Words). Some (going (looked_thread t slot word address))) (sym t_is) ∙ ap (λ (t : Thread Spot Words). Some (going t)) (same_looked x n m place slot base t next word address word_is address_is) in
    comes x own old new c behind turns.looked (Some stage) (Some (going (looked_at x n m place slot base t))) None at
    (b ∙ ap (λ (o : Option (Stage Spot)). standing c (looked_stage o slot word address) None) at ∙ ap (λ o. standing c o None) l)
    (same ∙ ap (λ (e : Effect Spot). with_memory old e.memory) (sym eff))
    refl
    (ap (λ (t : Thread Spot Words). Some (going (looked_at x n m place slot base t))) t_is ∙ ap (λ (e : Effect Spot). e.stage) (sym eff))
    (sym (look_turned_is x n m place slot base stage call (rw (← t_is) h)))

-- ---- the return of a first function

module _ (x : Image Spot) (n : ℕ) (m : Memory) (temp : Option ℕ) where
  abbrev pub ended_at : Words → Memory
  ended_at l = thread_ended m n (given l temp)

  leave_outcome : (t : Thread Spot Words) → t.callers ≡ [] → outcome_here x n m actions.plain t (returns temp) ≡ ended t.top.own (ended_at t.top.own)
  leave_outcome t none = ap (λ callers. left_call x.flow (words_world x.layout n) actions.plain t.top.own temp m callers) none

  pub leave_effect_is : (stage : Stage Spot) → IsInCall (Some stage) → x.flow.here (thread_at x stage).top.at ≡ returns temp → (thread_at x stage).callers ≡ []
      → effect_if x n m (Some stage) (Some AtStep) ≡ effects.effect_of_outcome n stage (thread_at x stage) None m (ended (thread_at x stage).top.own (ended_at (thread_at x stage).top.own))
  leave_effect_is stage call h none = effect_is x n m stage call (returns temp) h (ap before_return none) ∙ ap (effects.effect_of_outcome n stage (thread_at x stage) None m) (leave_outcome (thread_at x stage) none)

  pub leave_memory_is : (stage : Stage Spot) → IsInCall (Some stage) → x.flow.here (thread_at x stage).top.at ≡ returns temp → (thread_at x stage).callers ≡ []
      → (effect_if x n m (Some stage) (Some AtStep)).memory ≡ ended_at (thread_at x stage).top.own
  leave_memory_is stage call h none = ap (λ (e : Effect Spot). e.memory) (leave_effect_is stage call h none)

  leave_stage_is : (stage : Stage Spot) → IsInCall (Some stage) → x.flow.here (thread_at x stage).top.at ≡ returns temp → (thread_at x stage).callers ≡ [] → (effect_if x n m (Some stage) (Some AtStep)).stage ≡ None
  leave_stage_is stage call h none = ap (λ (e : Effect Spot). e.stage) (leave_effect_is stage call h none)

  pub leave_turned_is : (stage : Stage Spot) → IsInCall (Some stage) → x.flow.here (thread_at x stage).top.at ≡ returns temp → (thread_at x stage).callers ≡ []
      → turned_of x n m (Some stage) (Some AtStep) ≡ turns.ended (value_of (slice_get (ended_at (thread_at x stage).top.own).threads n))
  leave_turned_is stage call h none =
      turned_to_step x n m (thread_at x stage) (returns temp) h (ap before_return none) ∙ ap (outcome_turned x n m actions.plain (returns temp)) (leave_outcome (thread_at x stage) none)

-- the value of a thread that has ended
ended_value : (threads : List Made) (n word : ℕ) (d : Made) → n < length threads → value_of (slice_get (ended_if threads n word (slice_get threads n)) n) ≡ value_if (Some word)
ended_value threads n word d within =
    let there = slice_get-get_or threads n d within in
    let now : List Made = slice_set threads n (with_result word (get_or threads n d)) in
    let longer : n < length now = rw length-set within in
    let same : get_or now n d ≡ with_result word (get_or threads n d) = get_or-set_same threads n _ d within in
    ap (λ o. value_of (slice_get (ended_if threads n word o) n)) there ∙ ap value_of (slice_get-get_or now n d longer) ∙ ap (λ (t : Made). value_if t.result) same

-- it is done
pub leave_comes : (x own : Image Spot) (old new : Shared) (c behind : Context) (turned : turns.Turned) (stage : Stage Spot) (temp : Option ℕ) (word : ℕ) → c.stage ≡ Some stage → IsInCall (Some stage)
    → (t : Thread Spot Words) → t ≡ thread_at x stage → x.flow.here t.top.at ≡ returns temp → t.callers ≡ []
    → word ≡ given t.top.own temp → c.number < length old.memory.threads → new ≡ with_memory old (thread_ended old.memory c.number word) → behind ≡ standing c None None → turned ≡ turns.ended (value_if (Some word)) → Comes x own old new c behind turned
leave_comes x own old new c behind turned stage temp word at call t t_is h none word_is made left b ends =
    let n = c.number in
    let m : Memory = old.memory in
    let w : word ≡ given (thread_at x stage).top.own temp = rw (← t_is) word_is in
    let h2 : x.flow.here (thread_at x stage).top.at ≡ returns temp = rw (← t_is) h in
    let none2 : (thread_at x stage).callers ≡ [] = rw (← t_is) none in
    comes x own old new c behind turned (Some stage) None None at b
    (left ∙ ap (λ word. with_memory old (thread_ended m n word)) w ∙ ap (with_memory old) (sym (leave_memory_is x n m temp stage call h2 none2)))
    refl
    (sym (leave_stage_is x n m temp stage call h2 none2))
    (ends ∙ ap turns.ended (sym (ended_value m.threads n word (beginning 0 0) made)) ∙ ap (λ word. turns.ended (value_of (slice_get (thread_ended m n word).threads n))) w ∙ sym (leave_turned_is x n m temp stage call h2 none2))

-- ---- what a step names

pub one_is : {A : Type 0} (xs : List A) (d : A) → length xs ≡ 1 → xs ≡ slice_index_or xs 0 d ∷ []
one_is [] d e = absurd (omega (arith, e))
one_is (a ∷ []) d e = refl
one_is (a ∷ b ∷ xs) d e = absurd (omega (arith, e))

pub two_are : {A : Type 0} (xs : List A) (d : A) → length xs ≡ 2 → xs ≡ slice_index_or xs 0 d ∷ slice_index_or xs 1 d ∷ []
two_are [] d e = absurd (omega (arith, e))
two_are (a ∷ []) d e = absurd (omega (arith, e))
two_are (a ∷ b ∷ []) d e = refl
two_are (a ∷ b ∷ c ∷ xs) d e = absurd (omega (arith, e))

pub none_are : {A : Type 0} (xs : List A) → length xs ≡ 0 → xs ≡ []
none_are [] e = refl
none_are (a ∷ xs) e = absurd (omega (arith, e))

-- the places of a step are those of its call
pub place_is : (l : Words) (xs : List CodePlace) (i : ℕ) (d : CodePlace) → ArePlacesOf l (map place_view xs) → i < length xs → IsPlaceOf l (place_view (slice_index_or xs i d))
place_is l xs i d h within = subst (IsPlaceOf l) (get_or-map place_view xs i d (place_view d) within) (h i (place_view d) (rw length-map within))

-- as many as its action takes
pub counted : (s : StepNode) (a : Action) → action_view s.action ≡ a → has_counts (counts_of (action_view s.action)) (step_view s) ≡ true → (length s.places.items ≡ (counts_of a).places) × (length s.temps.items ≡ (counts_of a).temps)
counted s a is h =
    let n : Counts = counts_of a in
    let e : has_counts n (step_view s) ≡ true = subst (λ (a : Action). has_counts (counts_of a) (step_view s) ≡ true) is h in
    let p = and_parts (length (map place_view s.places.items) == n.places) ((length s.temps.items == n.temps) && (n.gives || is_none s.to)) e in
    let q = and_parts (length s.temps.items == n.temps) (n.gives || is_none s.to) p.1 in
    (sym (length-map s.places.items place_view) ∙ eqb-true _ _ p.0, eqb-true _ _ q.0)

-- ---- actions with their places and words

module _ (x : Layout) (n : ℕ) (rule : (word size : ℕ) → Choice) (l : Words) (m : Memory) (a : Action) (ps xs : List CodePlace) (ts ys : List ℕ) (d : CodePlace) (e : ℕ) (xs_is : xs ≡ ps) (ys_is : ys ≡ ts) where
  abbrev acts : actions.Done
  acts = acted_on_memory x n (action_choice rule l a ts) a (map (target_of l) (map place_view ps)) (map (word_at l) ts) m

  target_here : (i : ℕ) (to : Target) → to ≡ target_of l (place_view (slice_index_or xs i d)) → to ≡ target_of l (place_view (slice_index_or ps i d))
  target_here i to is = rw (← xs_is) is

  word_here : (i w : ℕ) → w ≡ word_at l (slice_index_or ys i e) → w ≡ word_at l (slice_index_or ts i e)
  word_here i w is = rw (← ys_is) is

  pub copies : (align : ℕ) (same : Bool) (to from : Target) (w : ℕ) → a ≡ copy_bytes align same → length ps ≡ 2 → length ts ≡ 1 → to ≡ target_of l (place_view (slice_index_or xs 0 d)) → from ≡ target_of l (place_view (slice_index_or xs 1 d)) → w ≡ word_at l (slice_index_or ys 0 e)
      → actions.copied to from w m ≡ acts
  copies align same to from w a_is two one to_is from_is w_is = rw (target_here 0 to to_is, target_here 1 from from_is, word_here 0 w w_is, a_is, two_are ps d two, one_is ts e one) refl

  pub callocs : (k w : ℕ) → a ≡ calloc → length ps ≡ 0 → length ts ≡ 2 → k ≡ word_at l (slice_index_or ys 0 e) → w ≡ word_at l (slice_index_or ys 1 e) → actions.zeroed (rule 0 (k * w)) (k * w) m ≡ acts
  callocs k w a_is none two k_is w_is = rw (word_here 0 k k_is, word_here 1 w w_is, a_is, none_are ps none, two_are ts e two) refl

  pub reallocs : (k w : ℕ) → a ≡ realloc → length ps ≡ 0 → length ts ≡ 2 → k ≡ word_at l (slice_index_or ys 0 e) → w ≡ word_at l (slice_index_or ys 1 e) → actions.reallocated (rule k w) k w m ≡ acts
  reallocs k w a_is none two k_is w_is = rw (word_here 0 k k_is, word_here 1 w w_is, a_is, none_are ps none, two_are ts e two) refl

  pub changes : (how : Change) (t : IntType) (at : Target) (w : ℕ) → a ≡ change how t → length ps ≡ 1 → length ts ≡ 1 → at ≡ target_of l (place_view (slice_index_or xs 0 d)) → w ≡ word_at l (slice_index_or ys 0 e) → changed how t at w m ≡ acts
  changes how t at w a_is one one_word at_is w_is = rw (target_here 0 at at_is, word_here 0 w w_is, a_is, one_is ps d one, one_is ts e one_word) refl

  pub compares : (t : IntType) (at want : Target) (w : ℕ) → a ≡ compare t → length ps ≡ 2 → length ts ≡ 1 → at ≡ target_of l (place_view (slice_index_or xs 0 d)) → want ≡ target_of l (place_view (slice_index_or xs 1 d)) → w ≡ word_at l (slice_index_or ys 0 e)
      → compared t at want w m ≡ acts
  compares t at want w a_is two one at_is want_is w_is = rw (target_here 0 at at_is, target_here 1 want want_is, word_here 0 w w_is, a_is, two_are ps d two, one_is ts e one) refl

  pub locks : (number : ℕ) (at : Target) → a ≡ lock → length ps ≡ 1 → length ts ≡ 0 → at ≡ target_of l (place_view (slice_index_or xs 0 d)) → number ≡ n → locked number at m ≡ acts
  locks number at a_is one none at_is n_is = rw (n_is, target_here 0 at at_is, a_is, one_is ps d one, none_are ts none) refl

  pub unlocks : (at : Target) → a ≡ unlock → length ps ≡ 1 → length ts ≡ 0 → at ≡ target_of l (place_view (slice_index_or xs 0 d)) → unlocked at m ≡ acts
  unlocks at a_is one none at_is = rw (target_here 0 at at_is, a_is, one_is ps d one, none_are ts none) refl

  pub begins : (function : ℕ) (to : Target) (w : ℕ) → a ≡ start function → length ps ≡ 1 → length ts ≡ 1 → to ≡ target_of l (place_view (slice_index_or xs 0 d)) → w ≡ word_at l (slice_index_or ys 0 e) → x.limits.threads ≡ 64 → started 64 function to w m ≡ acts
  begins function to w a_is one one_word to_is w_is few = rw (target_here 0 to to_is, word_here 0 w w_is, ← few, a_is, one_is ps d one, one_is ts e one_word) refl

-- ---- where a context stands

-- in a call, before what this instruction does, and it has stopped there
pub record Stands (code : LinearCode) (c : Context) : Type 0 where
  pub stage : Stage Spot
  pub is : c.stage ≡ Some stage
  pub inside : IsInCall (Some stage)
  pub t : Thread Spot Words
  pub t_is : (x : Image Spot) → t ≡ thread_at x stage
  pub top_is : top_of c ≡ t.top
  pub thread : IsThreadOf code t
  pub most : ℕ
  pub ends : ℕ
  pub stops : stop_before (own_image code) most ends t (before (own_image code) t) ≡ Some AtStep

no_room_stops : (b : Bool) → no_room_if b ≡ Some AtStep → ⊥
no_room_stops true e = absurd cc
no_room_stops false e = absurd cc

stands_at : (code : LinearCode) (c : Context) (stage : Stage Spot) → c.stage ≡ Some stage → IsStageOf code stage → (most ends : ℕ) → stop_at_stage (own_image code) most ends stage ≡ Some AtStep → Stands code c
stands_at code c (starts function argument) is of most ends stops = absurd (no_room_stops _ stops)
stands_at code c (going t) is of most ends stops = record { stage = going t; is = is; inside = tt; t = t; t_is = λ x. refl; top_is = ap top_at is; thread = of; most = most; ends = ends; stops = stops }
stands_at code c (waiting t) is of most ends stops = record { stage = waiting t; is = is; inside = tt; t = t; t_is = λ x. refl; top_is = ap top_at is; thread = of; most = most; ends = ends; stops = stops }
stands_at code c (landed list t) is of most ends stops = record { stage = landed list t; is = is; inside = tt; t = t; t_is = λ x. refl; top_is = ap top_at is; thread = of.0; most = most; ends = ends; stops = stops }

pub stands : (code : LinearCode) (c : Context) → IsContextOf code c → HasStopped (own_image code) c.stage AtStep → Stands code c
stands code c of h = stands_at code c h.at_stage h.is (subst (IsStageIf code) h.is of.stage) h.most h.turns h.stops

-- the call under way
called : (code : LinearCode) (x : Layout) (p : Point Spot Words) (cs : List (Point Spot Words)) → AreCallsOf code x (p ∷ cs) → (below : Used) × IsCallOf code below p
called code x p [] h = (none_used, h)
called code x p (q ∷ cs) h = (used_with x q.own, h.0)

-- an instruction there is in range
pub record InRange (code : LinearCode) (l : Words) (i : Instr) : Type 0 where
  pub scope : Scope
  pub temps : length l.temps ≡ scope.temps
  pub slots : length l.slots ≡ scope.slots
  pub valid : is_instr scope i ≡ true

pub in_range : (code : LinearCode) (c : Context) → IsProgram code → (s : Stands code c) → (i : Instr) → slice_get (instrs_of code.funcs (top_of c).at.function) (top_of c).at.index ≡ Some i → InRange code (top_of c).own i
in_range code c program s i at =
    let f = (called code (layout_of code) s.t.top s.t.callers s.thread).1 in
    let p : Point Spot Words = s.t.top in
    let at2 : slice_get (instrs_of code.funcs p.at.function) p.at.index ≡ Some i = subst (λ (p : Point Spot Words). slice_get (instrs_of code.funcs p.at.function) p.at.index ≡ Some i) s.top_is at in
    let at3 : slice_get f.function.instrs p.at.index ≡ Some i = subst (λ (is : List Instr). slice_get is p.at.index ≡ Some i) (ap instrs_if f.there) at2 in
    let all = of_all (λ g. list_all (is_instr (code_scope_of code g)) g.instrs) code.funcs p.at.function f.function program.valid f.there in
    record {
      scope = code_scope_of code f.function;
      temps = ap (λ (p : Point Spot Words). length p.own.temps) s.top_is ∙ f.temps;
      slots = ap (λ (p : Point Spot Words). length p.own.slots) s.top_is ∙ f.slots;
      valid = of_all (is_instr (code_scope_of code f.function)) f.function.instrs p.at.index i all at3;
    }

-- what is in range, as the call has it
below_if : (n : ℕ) (o : Option ℕ) → is_below_if n o ≡ true → ForSome o (λ r. r < n)
below_if n None h r e = absurd cc
below_if n (Some x) h r e = let same : x ≡ r = cc in subst (λ (r : ℕ). r < n) same (ltb-true x n h)

all_of : {A : Type 0} (q : A → Bool) (xs : List A) → list_all q xs ≡ true → (k : ℕ) (d : A) → k < length xs → q (slice_index_or xs k d) ≡ true
all_of q xs h k d within = of_all q xs k (slice_index_or xs k d) h (slice_get-get_or xs k d within)

place_fits : (x : Scope) (l : Words) (a : Place) → length l.temps ≡ x.temps → length l.slots ≡ x.slots → is_place x a ≡ true → IsPlaceOf l a
place_fits x l a temps slots h =
    let p = and_parts (nat_lt a.base x.temps) (is_below_if x.temps a.index && is_below_if x.slots a.slot) h in
    let q = and_parts (is_below_if x.temps a.index) (is_below_if x.slots a.slot) p.1 in
    rw (temps, slots) (ltb-true a.base x.temps p.0, below_if x.temps a.index q.0, below_if x.slots a.slot q.1)

lacks_distinct : (x : ℕ) (ys : List ℕ) → not (list_any (λ y. y == x) ys) ≡ true → AllByRecursion (λ y. (x == y) ≡ false) ys
lacks_distinct x [] h = tt
lacks_distinct x (y ∷ ys) h = by (y == x) refl h (lacks_distinct x ys) where
  turned : (y == x) ≡ false → (x == y) ≡ false
  turned e = grind (arith, nat_tests, e)

  by : (b : Bool) → (y == x) ≡ b → not (b || list_any (λ y. y == x) ys) ≡ true → (not (list_any (λ y. y == x) ys) ≡ true → AllByRecursion (λ y. (x == y) ≡ false) ys) → AllByRecursion (λ y. (x == y) ≡ false) (y ∷ ys)
  by true e g rest = absurd cc
  by false e g rest = (turned e, rest g)

distinct : (xs : List ℕ) → is_distinct xs ≡ true → IsDistinct eqb xs
unfolding IsDistinct
distinct [] h = tt
distinct (x ∷ xs) h = let p = and_parts (not (list_any (λ y. y == x) xs)) (is_distinct xs) h in (lacks_distinct x xs p.0, distinct xs p.1)

member_below : (n : ℕ) (xs : List ℕ) → are_below n xs ≡ true → (q : ℕ) → list_any (eqb q) xs ≡ true → q < n
member_below n [] h q e = absurd cc
member_below n (x ∷ xs) h q e = let p = and_parts (nat_lt x n) (list_all (λ x. nat_lt x n) xs) h in by p.0 (member_below n xs p.1 q) (eqb q x) refl e where
  by : nat_lt x n ≡ true → (list_any (eqb q) xs ≡ true → q < n) → (b : Bool) → eqb q x ≡ b → (b || list_any (eqb q) xs) ≡ true → q < n
  by first rest true g e = let same = eqb-true q x g in let lt = ltb-true x n first in omega (arith, same, lt)
  by first rest false g e = rest e

list_fits : (x : Scope) (l : Words) (list : List ℕ) → length l.slots ≡ x.slots → is_list x list ≡ true → IsListFor l list
list_fits x l list slots h =
    let p = and_parts (are_below x.slots list) (is_distinct list) h in
    rw slots ((λ k d within. ltb-true _ _ (all_of (λ y. nat_lt y x.slots) list p.0 k d within)), length-le_from_distinct_below list x.slots (distinct list p.1) (member_below x.slots list p.0))

pub step_fits : (x : Scope) (l : Words) (s : Step) → length l.temps ≡ x.temps → length l.slots ≡ x.slots → is_step x s ≡ true → IsStepOf l s
step_fits x l s temps slots h =
    let p = and_parts (list_all (is_place x) s.places && (are_below x.temps s.temps && is_below_if x.temps s.to)) (has_counts (counts_of s.action) s && (is_action x s.action && is_own_list x s.action s.slots)) h in
    let q = and_parts (list_all (is_place x) s.places) (are_below x.temps s.temps && is_below_if x.temps s.to) p.0 in
    let r = and_parts (are_below x.temps s.temps) (is_below_if x.temps s.to) q.1 in
    let u = and_parts (has_counts (counts_of s.action) s) (is_action x s.action && is_own_list x s.action s.slots) p.1 in
    let v = and_parts (is_action x s.action) (is_own_list x s.action s.slots) u.1 in
    let w = and_parts (is_list x s.slots) (may_wait s.action || (length s.slots == 0)) v.1 in
    record {
      scope = x;
      action = v.0;
      counts = u.0;
      places = λ k d within. place_fits x l (slice_index_or s.places k d) temps slots (all_of (is_place x) s.places q.0 k d within);
      temps = λ k d within. rw temps (ltb-true _ _ (all_of (λ y. nat_lt y x.temps) s.temps r.0 k d within));
      to = rw temps (below_if x.temps s.to r.1);
      list = list_fits x l s.slots slots w.0;
    }

pub look_fits : (x : Scope) (l : Words) (slot base : ℕ) → length l.temps ≡ x.temps → length l.slots ≡ x.slots → (nat_lt slot x.slots && nat_lt base x.temps) ≡ true → (slot < length l.slots) × (base < length l.temps)
look_fits x l slot base temps slots h = let p = and_parts (nat_lt slot x.slots) (nat_lt base x.temps) h in rw (temps, slots) (ltb-true slot x.slots p.0, ltb-true base x.temps p.1)

pub given_fits : (x : Scope) (l : Words) (temp : Option ℕ) → length l.temps ≡ x.temps → is_below_if x.temps temp ≡ true → ForSome temp (λ r. r < length l.temps)
given_fits x l temp temps h = rw temps (below_if x.temps temp h)

-- what it stands before, by the instruction
pub stops_before : (code : LinearCode) (c : Context) → (s : Stands code c) → (i : Instr) → slice_get (instrs_of code.funcs (top_of c).at.function) (top_of c).at.index ≡ Some i
    → stop_before (own_image code) s.most s.ends s.t (before_here s.t.callers (instr_here (Some i))) ≡ Some AtStep
stops_before code c s i at =
    subst (λ (o : Option Instr). stop_before (own_image code) s.most s.ends s.t (before_here s.t.callers (instr_here o)) ≡ Some AtStep)
    (subst (λ (p : Point Spot Words). slice_get (instrs_of code.funcs p.at.function) p.at.index ≡ Some i) s.top_is at) s.stops

pub here_at : (code : LinearCode) (c : Context) → (s : Stands code c) → (i : Instr) → slice_get (instrs_of code.funcs (top_of c).at.function) (top_of c).at.index ≡ Some i → (linear code.funcs).here s.t.top.at ≡ instr_here (Some i)
here_at code c s i at = ap instr_here (subst (λ (p : Point Spot Words). slice_get (instrs_of code.funcs p.at.function) p.at.index ≡ Some i) s.top_is at)

pub next_at : (code : LinearCode) (c : Context) → (s : Stands code c) → (i : Instr) → slice_get (instrs_of code.funcs (top_of c).at.function) (top_of c).at.index ≡ Some i
    → (linear code.funcs).next s.t.top.at true ≡ record { function = s.t.top.at.function; index = instr_next s.t.top.at.index (Some i) true }
next_at code c s i at =
    ap (λ (o : Option Instr). record { function = s.t.top.at.function; index = instr_next s.t.top.at.index o true }) (subst (λ (p : Point Spot Words). slice_get (instrs_of code.funcs p.at.function) p.at.index ≡ Some i) s.top_is at)

-- a return before which a thread stops is that of its first function
pub last_call : (x : Image Spot) (most ends : ℕ) (t : Thread Spot Words) (cs : List (Point Spot Words)) → stop_before x most ends t (before_return cs) ≡ Some AtStep → cs ≡ []
last_call x most ends t [] e = refl
last_call x most ends t (c ∷ cs) e = absurd cc

pub no_spent : (b : Bool) → spent_if b ≡ Some AtStep → ⊥
no_spent true e = absurd cc
no_spent false e = absurd cc

-- nothing else is stopped before
pub stops_at_these : (x : Image Spot) (most ends : ℕ) (t : Thread Spot Words) (i : CodeInstr) → stop_before x most ends t (before_here t.callers (instr_here (Some (instr_view i)))) ≡ Some AtStep
    → ((slot base : ℕ) → i.kind ≢ kinds.Look slot base) → ((temp : Option ℕ) → i.kind ≢ kinds.Leave temp) → ((node : Box StepNode Global) → i.kind ≢ kinds.Step node) → ⊥
stops_at_these x most ends t i e no_look no_leave no_step = by i.kind refl e where
  by : (k : InstrKind) → i.kind ≡ k → stop_before x most ends t (before_here t.callers (instr_here (Some (instr_kind_view i.place k)))) ≡ Some AtStep → ⊥
  by (kinds.Set to calc) is e = absurd cc
  by (kinds.Step node) is e = no_step node is
  by (kinds.Look slot base) is e = no_look slot base is
  by (kinds.Safe slots) is e = no_spent _ e
  by (kinds.Unless temp to) is e = absurd cc
  by (kinds.Jump to) is e = absurd cc
  by (kinds.Round to) is e = absurd cc
  by (kinds.Enter node) is e = no_room_stops _ e
  by (kinds.Leave temp) is e = no_leave temp is

-- ---- the whole

-- with the image and the settings of a run
pub all_done : (code : LinearCode) (old new : Shared) (c behind : Context) (turned : Turned) → Comes (image_of code old) (own_image code) old new c behind (turned_view turned) → StepIsDone code old new c behind turned
all_done code old new c behind turned h = record { shared = h.shared; context = h.context; stage = h.stage; turned_ = h.turned_ }

-- a step is done
pub step_is_done : (code : LinearCode) (old new : Shared) (c behind : Context) (turned : Turned) (s : Stands code c) (i : CodeInstr) (node : Box StepNode Global) (r : Done) → i.kind ≡ kinds.Step node
    → slice_get (instrs_of code.funcs (top_of c).at.function) (top_of c).at.index ≡ Some (instr_view i) → c.wait ≡ waits_at (own_image code) c.stage
    → Does old new r (done_at (image_of code old) c.number old.memory i.place (step_view node.value) (top_of c).own) → Went r (done_turned (image_of code old) old.memory (choice_at (image_of code old) c.number old.memory i.place (step_view node.value) (top_of c).own) (action_view node.value.action))
    → WaitsFor r (action_waits (action_view node.value.action) (map (target_of (top_of c).own) (map place_view node.value.places.items)) (map (word_at (top_of c).own) node.value.temps.items)) → IsSettled (step_view node.value) r c behind turned → StepIsDone code old new c behind turned
step_is_done code old new c behind turned s i node r is at wait d told waits_for settled =
    let x : Image Spot = image_of code old in
    let h : (linear code.funcs).here s.t.top.at ≡ does i.place (step (step_view node.value)) = here_at code c s (instr_view i) at ∙ ap (λ (k : InstrKind). instr_here (Some (instr_kind_view i.place k))) is in
    let next : (linear code.funcs).next s.t.top.at true ≡ spot_behind s.t.top.at =
    next_at code c s (instr_view i) at ∙ ap (λ (k : InstrKind). record { function = s.t.top.at.function; index = instr_next s.t.top.at.index (Some (instr_kind_view i.place k)) true }) is in
    all_done code old new c behind turned (step_comes x (own_image code) old new c behind turned s.stage i.place (step_view node.value) r s.is s.inside s.t (s.t_is x) h next h wait
    (subst (λ (p : Point Spot Words). Does old new r (done_at x c.number old.memory i.place (step_view node.value) p.own)) s.top_is d)
    (subst (λ (p : Point Spot Words). Went r (done_turned x old.memory (choice_at x c.number old.memory i.place (step_view node.value) p.own) (action_view node.value.action))) s.top_is told)
    (subst (λ (p : Point Spot Words). WaitsFor r (action_waits (action_view node.value.action) (map (target_of p.own) (map place_view node.value.places.items)) (map (word_at p.own) node.value.temps.items))) s.top_is waits_for)
    settled)

-- a first function returns
pub leave_is_done : (code : LinearCode) (old new : Shared) (c behind : Context) (turned : Turned) (s : Stands code c) (i : CodeInstr) (temp : Option ℕ) (number word : ℕ) → i.kind ≡ kinds.Leave temp
    → slice_get (instrs_of code.funcs (top_of c).at.function) (top_of c).at.index ≡ Some (instr_view i)
    → word ≡ given (top_of c).own temp → number ≡ behind.number → c.number < length old.memory.threads → new ≡ with_memory old (thread_ended old.memory number word) → behind ≡ standing c None None → turned_view turned ≡ turns.ended (value_if (Some word))
    → StepIsDone code old new c behind turned
leave_is_done code old new c behind turned s i temp number word is at word_is number_is made left b ends =
    let x : Image Spot = image_of code old in
    let h : (linear code.funcs).here s.t.top.at ≡ returns temp = here_at code c s (instr_view i) at ∙ ap (λ (k : InstrKind). instr_here (Some (instr_kind_view i.place k))) is in
    let stops : stop_before (own_image code) s.most s.ends s.t (before_return s.t.callers) ≡ Some AtStep =
    subst (λ (k : InstrKind). stop_before (own_image code) s.most s.ends s.t (before_here s.t.callers (instr_here (Some (instr_kind_view i.place k)))) ≡ Some AtStep) is (stops_before code c s (instr_view i) at) in
    let n_is : number ≡ c.number = number_is ∙ ap (λ (c : Context). c.number) b in
    all_done code old new c behind turned (leave_comes x (own_image code) old new c behind (turned_view turned) s.stage temp word s.is s.inside s.t (s.t_is x) h (last_call (own_image code) s.most s.ends s.t s.t.callers stops)
    (word_is ∙ ap (λ (p : Point Spot Words). given p.own temp) s.top_is) made
    (subst (λ (n : ℕ). new ≡ with_memory old (thread_ended old.memory n word)) n_is left) b ends)

-- ---- where no step is done

-- what threads share and the stage stay as they are
pub record Stays (x : Image Spot) (n : ℕ) (m : Memory) (stage : Option (Stage Spot)) (stop : Stop) (turned : turns.Turned) : Type 0 where
  pub memory : (effect_if x n m stage (Some stop)).memory ≡ m
  pub same : (effect_if x n m stage (Some stop)).stage ≡ stage
  pub turned_ : turned_of x n m stage (Some stop) ≡ turned

-- a thread rests
pub rests : (x : Image Spot) (n : ℕ) (m : Memory) (stage : Stage Spot) → Stays x n m (Some stage) Spent turns.rested
rests x n m stage = record { memory = refl; same = refl; turned_ = refl }

either_memory : (b : Bool) (m : Memory) (stage : Stage Spot) (end : End) → (cond b (effects.no_effect m stage) (effects.ends_run m stage end)).memory ≡ m
either_memory true m stage end = refl
either_memory false m stage end = refl

either_stage : (b : Bool) (m : Memory) (stage : Stage Spot) (end : End) → (cond b (effects.no_effect m stage) (effects.ends_run m stage end)).stage ≡ Some stage
either_stage true m stage end = refl
either_stage false m stage end = refl

spent_no_room : (b : Bool) → spent_if b ≡ Some NoRoom → ⊥
spent_no_room true e = absurd cc
spent_no_room false e = absurd cc

module _ (x own : Image Spot) (n : ℕ) (m : Memory) (choice : Choice) (most ends : ℕ) (stage : Stage Spot) (t : Thread Spot Words) where
  lacks_memory : (b : Before) → stop_before own most ends t b ≡ Some NoRoom → (effects.act_before x n choice stage t m b).memory ≡ m
  lacks_memory stages.safe e = refl
  lacks_memory looks e = refl
  lacks_memory steps e = absurd cc
  lacks_memory (stages.calls function) e = either_memory _ m stage _
  lacks_memory stages.turn_over e = refl
  lacks_memory stages.nothing e = refl

  lacks_stage : (b : Before) → stop_before own most ends t b ≡ Some NoRoom → (effects.act_before x n choice stage t m b).stage ≡ Some stage
  lacks_stage stages.safe e = refl
  lacks_stage looks e = refl
  lacks_stage steps e = absurd cc
  lacks_stage (stages.calls function) e = either_stage _ m stage _
  lacks_stage stages.turn_over e = refl
  lacks_stage stages.nothing e = refl

-- a call has no room
pub lacks : (code : LinearCode) (s : Shared) (n : ℕ) (stage : Stage Spot) (most ends : ℕ) → stop_at_stage (own_image code) most ends stage ≡ Some NoRoom → Stays (image_of code s) n s.memory (Some stage) NoRoom turns.lacked_stack
lacks code s n (starts function argument) most ends e = record { memory = either_memory _ s.memory _ _; same = either_stage _ s.memory _ _; turned_ = refl }
lacks code s n (going t) most ends e = record { memory = lacks_memory (image_of code s) (own_image code) n s.memory _ most ends (going t) t _ e; same = lacks_stage (image_of code s) (own_image code) n s.memory _ most ends (going t) t _ e; turned_ = refl }
lacks code s n (waiting t) most ends e = record { memory = lacks_memory (image_of code s) (own_image code) n s.memory _ most ends (waiting t) t _ e; same = lacks_stage (image_of code s) (own_image code) n s.memory _ most ends (waiting t) t _ e; turned_ = refl }
lacks code s n (landed list t) most ends e = record { memory = lacks_memory (image_of code s) (own_image code) n s.memory _ most ends (landed list t) t _ e; same = lacks_stage (image_of code s) (own_image code) n s.memory _ most ends (landed list t) t _ e; turned_ = refl }
