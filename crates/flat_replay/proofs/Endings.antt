-- How an act ends a run of the machine: by a fault, without room for a call, or by main's return; which turn it does or tries, and what it
-- leaves.
use Rattle.std.proofs.Common.{◌≡◌, ℕ, ◌*◌, ◌==◌, Bool, true, false, cond, List, [], ◌∷◌, map, Option, Some, None, refl, sym, ap, ◌∙◌, subst, inl, inr}
use Rattle.std.specs.Prelude.{◌⊎◌, slice_get}
use Rattle.block_store.specs.declared.values.Answer.{Answer}
use Rattle.block_store.specs.declared.values.Answer.TheVariants as answers
use Rattle.block_store.specs.Runs.{Pick}
use Rattle.struct_ir.specs.Flow.{Here, does, tests, passes, round, returns}
use Rattle.struct_ir.specs.Linear.{Spot}
use Rattle.struct_ir.specs.Nodes.{Action, load, store, copy_bytes, malloc, calloc, realloc, free, change, compare, print, lock, unlock, destroy, start, join, set, call, step, look, safepoint, begin_object, end_object}
use Rattle.struct_ir.specs.Threads.{Thread, Outcome, went, ended, blocked, broke, unfit, served, stop_at}
use Rattle.ak_trace.specs.declared.endings.End.{End}
use Rattle.ak_trace.specs.declared.endings.End.TheVariants as ends
use Rattle.ak_trace.specs.declared.endings.TrapKind.{TrapKind}
use Rattle.flat_meaning.specs.Accesses as choices
use Rattle.flat_meaning.specs.Accesses.{Choice, Done, Fault, is_plain, output_limit, over, plain, wait, within}
use Rattle.flat_meaning.specs.Actions as actions
use Rattle.flat_meaning.specs.Actions.{may_start}
use Rattle.flat_meaning.specs.Allowed.{MayAct, MayDo, MayStep, MayStepAt}
use Rattle.flat_meaning.specs.Effects.{Effect, act_before, act_effect, effect_of_outcome, end_of, ends_run, exit_of, no_effect, own_list_of}
use Rattle.flat_meaning.specs.Image.{Image}
use Rattle.flat_meaning.specs.Machine.{served_by, words_machine, words_world}
use Rattle.flat_meaning.specs.Memory.{Memory}
use Rattle.flat_meaning.specs.Order.{act_picks, answer_here, pick, pick_if, picks_of_act, tried_action, tried_answer, tried_at, tried_before, tried_if}
use Rattle.flat_meaning.specs.Ready.{is_allocation, takes_room}
use Rattle.flat_meaning.specs.Stages.{Stage, starts, going, waiting, landed, Before, safe, looks, steps, calls, turn_over, nothing, before, can_advance, room_for}
use Rattle.flat_meaning.specs.Words.{Target, Words, target_of, word_at}
use Rattle.flat_rules.specs.inner.Cases.{same_number}
use Rattle.flat_replay.proofs.Allocations.{waiting_ends}

-- what is tried is told Plain or Got
told_either : (h : Here) → (tried_answer h ≡ answers.Plain) ⊎ (tried_answer h ≡ answers.Got)
told_either (does place (set to calc)) = inl refl
told_either (does place (call c)) = inl refl
told_either (does place (step s)) = by s.action where
  by : (a : Action) → (tried_action a ≡ answers.Plain) ⊎ (tried_action a ≡ answers.Got)
  by (load how) = inl refl
  by (store how) = inl refl
  by (copy_bytes align same) = inl refl
  by malloc = inr refl
  by calloc = inr refl
  by realloc = inl refl
  by free = inl refl
  by (change how t) = inl refl
  by (compare t) = inl refl
  by (print pieces) = inl refl
  by lock = inl refl
  by unlock = inl refl
  by destroy = inl refl
  by (start function) = inr refl
  by join = inl refl
told_either (does place (look slot base)) = inl refl
told_either (does place (safepoint slots)) = inl refl
told_either (does place (begin_object i)) = inl refl
told_either (does place (end_object i)) = inl refl
told_either (tests place temp) = inl refl
told_either passes = inl refl
told_either round = inl refl
told_either (returns temp) = inl refl

module _ (x : Image Spot) (thread : ℕ) (choice : Choice) (m : Memory) where
  -- ---- only a print passes the output's limit

  -- a start doesn't pass it
  started_limit : (b c : Bool) (kind : TrapKind) (o : Option ℕ) (one other : Option ℕ) (m1 m2 : Memory)
      → cond b (cond c (within kind o (choices.went one m1)) (choices.went other m2)) choices.unfit ≡ over output_limit → ⊥
  started_limit true true kind None one other m1 m2 e = absurd cc
  started_limit true true kind (Some a) one other m1 m2 e = absurd cc
  started_limit true false kind o one other m1 m2 e = absurd cc
  started_limit false c kind o one other m1 m2 e = absurd cc

  -- nor does a malloc or a calloc
  allocated_limit : (c : Choice) (size : ℕ) → choices.allocated c size m ≡ over output_limit → ⊥
  allocated_limit plain size e = absurd cc
  allocated_limit (choices.got id place) size e = absurd cc
  allocated_limit choices.null size e = absurd cc
  allocated_limit wait size e = absurd cc

  zeroed_limit : (c : Choice) (size : ℕ) → choices.zeroed c size m ≡ over output_limit → ⊥
  zeroed_limit plain size e = absurd cc
  zeroed_limit (choices.got id place) size e = absurd cc
  zeroed_limit choices.null size e = absurd cc
  zeroed_limit wait size e = absurd cc

  -- so the turn is told Plain
  limit_action : (a : Action) (ts : List Target) (ws : List ℕ) → actions.acted_on_memory x.layout thread choice a ts ws m ≡ over output_limit → tried_action a ≡ answers.Plain
  limit_action (load how) ts ws e = refl
  limit_action (store how) ts ws e = refl
  limit_action (copy_bytes align same) ts ws e = refl
  limit_action malloc [] [] e = absurd cc
  limit_action malloc [] (size ∷ []) e = absurd (allocated_limit choice size e)
  limit_action malloc [] (size ∷ w ∷ ws) e = absurd cc
  limit_action malloc (a ∷ ts) ws e = absurd cc
  limit_action calloc [] [] e = absurd cc
  limit_action calloc [] (count ∷ []) e = absurd cc
  limit_action calloc [] (count ∷ size ∷ []) e = absurd (zeroed_limit choice (count * size) e)
  limit_action calloc [] (count ∷ size ∷ w ∷ ws) e = absurd cc
  limit_action calloc (a ∷ ts) ws e = absurd cc
  limit_action realloc ts ws e = refl
  limit_action free ts ws e = refl
  limit_action (change how t) ts ws e = refl
  limit_action (compare t) ts ws e = refl
  limit_action (print pieces) ts ws e = refl
  limit_action lock ts ws e = refl
  limit_action unlock ts ws e = refl
  limit_action destroy ts ws e = refl
  limit_action (start function) [] ws e = absurd cc
  limit_action (start function) (a ∷ []) [] e = absurd cc
  limit_action (start function) (a ∷ []) (w ∷ []) e = absurd (started_limit (is_plain choice) (may_start x.layout.limits.threads m) _ _ _ _ _ _ e)
  limit_action (start function) (a ∷ []) (w ∷ v ∷ ws) e = absurd cc
  limit_action (start function) (a ∷ b ∷ ts) ws e = absurd cc
  limit_action join ts ws e = refl

  module _ (t : Thread Spot Words) where
    abbrev outcome_at : Here → Outcome Spot Words Fault Memory
    outcome_at h = stop_at x.flow (words_machine x.layout thread) (words_world x.layout thread) x.start choice t m h

    served_over : (l : Words) (to : Option ℕ) (d : Done) → served x.flow t (served_by l to d) ≡ broke output_limit → d ≡ over output_limit
    served_over l to (choices.went None m2) e = absurd cc
    served_over l to (choices.went (Some word) m2) e = absurd cc
    served_over l to choices.waits e = absurd cc
    served_over l to choices.unfit e = absurd cc
    served_over l to (over f) e = let same : f ≡ output_limit = cc in ap (λ (g : Fault). over g) same

    -- by what stands there
    limit_plain : (h : Here) → outcome_at h ≡ broke output_limit → tried_answer h ≡ answers.Plain
    limit_plain (does place (set to calc)) e = refl
    limit_plain (does place (call c)) e = refl
    limit_plain (does place (step s)) e = limit_action s.action (map (target_of t.top.own) s.places) (map (word_at t.top.own) s.temps) (served_over t.top.own s.to _ e)
    limit_plain (does place (look slot base)) e = refl
    limit_plain (does place (safepoint slots)) e = refl
    limit_plain (does place (begin_object i)) e = refl
    limit_plain (does place (end_object i)) e = refl
    limit_plain (tests place temp) e = refl
    limit_plain passes e = refl
    limit_plain round e = refl
    limit_plain (returns temp) e = refl

    -- ---- nothing that waits for room ends a run

    plain_action : (a : Action) (temps : List ℕ) → takes_room a ≡ false → MayDo m.storage t.top.own choice a temps → choice ≡ plain
    plain_action (load how) temps e may = may
    plain_action (store how) temps e may = may
    plain_action (copy_bytes align same) temps e may = may
    plain_action malloc temps e may = absurd cc
    plain_action calloc temps e may = absurd cc
    plain_action realloc temps e may = absurd cc
    plain_action free temps e may = may
    plain_action (change how u) temps e may = may
    plain_action (compare u) temps e may = may
    plain_action (print pieces) temps e may = may
    plain_action lock temps e may = may
    plain_action unlock temps e may = may
    plain_action destroy temps e may = may
    plain_action (start function) temps e may = may
    plain_action join temps e may = may

    -- of any step but an allocation nothing is chosen
    pub plain_of : (h : Here) → is_allocation h ≡ false → MayAct m.storage t.top.own choice h → choice ≡ plain
    plain_of (does place (set to calc)) e may = may
    plain_of (does place (call c)) e may = may
    plain_of (does place (step s)) e may = plain_action s.action s.temps e may.0
    plain_of (does place (look slot base)) e may = may
    plain_of (does place (safepoint slots)) e may = may
    plain_of (does place (begin_object i)) e may = may
    plain_of (does place (end_object i)) e may = may
    plain_of (tests place temp) e may = may
    plain_of passes e may = may
    plain_of round e may = may
    plain_of (returns temp) e may = may

    -- so what ended the run wasn't left waiting
    not_wait : (stage : Stage Spot) (h : Here) (end : End) → MayAct m.storage t.top.own choice h → (effect_of_outcome thread stage t (own_list_of h) m (outcome_at h)).end ≡ Some end → choice ≡ wait → ⊥
    not_wait stage h end may stops waiting_ = by (is_allocation h) refl where
      by : (b : Bool) → is_allocation h ≡ b → ⊥
      by true is =
          let still = waiting_ends x thread m stage t (own_list_of h) h is (subst (λ (c : Choice). MayAct m.storage t.top.own c h) waiting_ may) in
          let bad : None ≡ Some end = sym still ∙ ap (λ (c : Choice). (effect_of_outcome thread stage t (own_list_of h) m (stop_at x.flow (words_machine x.layout thread) (words_world x.layout thread) x.start c t m h)).end) (sym waiting_) ∙ stops in
          cc
      by false is = let bad : plain ≡ wait = sym (plain_of h is may) ∙ waiting_ in cc

  -- ---- how an act ends a run

  -- with the turns that it does and tries, and what it comes to
  pub data ActEnds (picks tries : List Pick) (e : Effect Spot) (end : End) : Type 0 where
    by_fault : (f : Fault) (answer : Answer) → (f ≡ output_limit → answer ≡ answers.Plain) → ((answer ≡ answers.Plain) ⊎ (answer ≡ answers.Got)) → end ≡ end_of f
        → picks ≡ [] → tries ≡ pick thread answer ∷ [] → e.memory ≡ m → ActEnds picks tries e end
    by_room : end ≡ ends.StackLimit thread → picks ≡ [] → tries ≡ pick thread answers.Plain ∷ [] → e.memory ≡ m → ActEnds picks tries e end
    by_return : (answer : Answer) → thread ≡ 0 → exit_of (slice_get e.memory.threads 0) ≡ Some end → picks ≡ pick thread answer ∷ [] → ActEnds picks tries e end

  module _ (end : End) where
    tried_choice : (c : Choice) (h : Here) (f : Fault) → (c ≡ wait → ⊥) → tried_if {P = Spot} thread c h (broke f) ≡ pick thread (tried_answer h) ∷ []
    tried_choice plain h f goes_on = refl
    tried_choice (choices.got id place) h f goes_on = refl
    tried_choice choices.null h f goes_on = refl
    tried_choice wait h f goes_on = absurd (goes_on refl)

    -- a step
    step_ends : (stage : Stage Spot) (t : Thread Spot Words) (h : Here) → MayAct m.storage t.top.own choice h → (o : Outcome Spot Words Fault Memory) → outcome_at t h ≡ o → (effect_of_outcome thread stage t (own_list_of h) m o).end ≡ Some end
        → ActEnds (pick_if thread (answer_here x m choice h) o) (tried_if {P = Spot} thread choice h o) (effect_of_outcome thread stage t (own_list_of h) m o) end
    step_ends stage t h may (went q m2) is e = absurd cc
    step_ends stage t h may (ended l m2) is e = by (thread == 0) refl e where
      by : (b : Bool) → (thread == 0) ≡ b → cond b (exit_of (slice_get m2.threads 0)) None ≡ Some end
          → ActEnds (pick thread (answer_here x m choice h) ∷ []) (tried_if {P = Spot} thread choice h (ended l m2)) (effect_of_outcome thread stage t (own_list_of h) m (ended l m2)) end
      by true main e = by_return (answer_here x m choice h) (same_number thread 0 main) e refl
      by false main e = absurd cc
    step_ends stage t h may blocked is e = absurd cc
    step_ends stage t h may (broke f) is e =
        let moving : choice ≡ wait → ⊥ = not_wait t stage h end may (ap (λ (o : Outcome Spot Words Fault Memory). (effect_of_outcome thread stage t (own_list_of h) m o).end) is ∙ e) in
        let limit : f ≡ output_limit → tried_answer h ≡ answers.Plain = λ (same : f ≡ output_limit). limit_plain t h (is ∙ ap (λ (g : Fault). broke g) same) in
        by_fault f (tried_answer h) limit (told_either h) (let same : end_of f ≡ end = cc in sym same) refl (tried_choice choice h f moving) refl
    step_ends stage t h may unfit is e = absurd cc

    -- of a thread that has begun
    begun_ends : (stage : Stage Spot) (t : Thread Spot Words) (b : Before) → MayStep x m choice t b → (act_before x thread choice stage t m b).end ≡ Some end
        → ActEnds (act_picks x m thread choice t b) (tried_before x m thread choice t b) (act_before x thread choice stage t m b) end
    begun_ends stage t safe may e = absurd may
    begun_ends stage t looks may e = absurd may
    begun_ends stage t steps may e = step_ends stage t (x.flow.here t.top.at) may (outcome_at t (x.flow.here t.top.at)) refl e
    begun_ends stage t (calls function) may e = by (room_for x t function) may.0 e where
      by : (b : Bool) → b ≡ false → (cond b (no_effect m stage) (ends_run m stage (ends.StackLimit thread))).end ≡ Some end
          → ActEnds [] (cond b [] (pick thread answers.Plain ∷ [])) (cond b (no_effect m stage) (ends_run m stage (ends.StackLimit thread))) end
      by true no_room e = absurd cc
      by false no_room e = by_room (let same : ends.StackLimit thread ≡ end = cc in sym same) refl refl refl
    begun_ends stage t turn_over may e = absurd may
    begun_ends stage t nothing may e = absurd may

    -- of any
    pub act_ends : (stage : Stage Spot) → MayStepAt x m choice (Some stage) → (act_effect x thread choice stage m).end ≡ Some end
        → ActEnds (picks_of_act x m thread choice (Some stage)) (tried_at x m thread choice (Some stage)) (act_effect x thread choice stage m) end
    act_ends (starts function argument) may e = by (can_advance x (starts function argument)) may.0 e where
      by : (b : Bool) → b ≡ false → (cond b (no_effect {P = Spot} m (starts function argument)) (ends_run m (starts function argument) (ends.StackLimit thread))).end ≡ Some end
          → ActEnds [] (cond b [] (pick thread answers.Plain ∷ [])) (cond b (no_effect m (starts function argument)) (ends_run m (starts function argument) (ends.StackLimit thread))) end
      by true no_room e = absurd cc
      by false no_room e = by_room (let same : ends.StackLimit thread ≡ end = cc in sym same) refl refl refl
    act_ends (going t) may e = begun_ends (going t) t (before x t) may e
    act_ends (waiting t) may e = begun_ends (waiting t) t (before x t) may e
    act_ends (landed list t) may e = begun_ends (landed list t) t (before x t) may e
