-- The allocations that a barrier serves, as turns, and how their entries tell of them.
use Rattle.std.proofs.Common.{◌≡◌, ℕ, zero, suc, ◌+◌, ◌<◌, ◌≤◌, Bool, true, false, List, [], ◌∷◌, ◌++◌, length, map, set, Option, Some, None, refl, sym, ap, ◌∙◌, subst, arith, append_assoc}
use Rattle.std.specs.Prelude.{All, is_some}
use Rattle.std.specs.List.{range_with_len}
use Rattle.std.proofs.lemmas.List.{append-nil, length-append, length-set, map-append}
use Rattle.block_store.specs.Runs.{Pick, own_at}
use Rattle.struct_ir.specs.Flow.{Here, does, tests, passes, round, returns}
use Rattle.struct_ir.specs.Instrs.{LinearCode}
use Rattle.struct_ir.specs.Linear.{Spot}
use Rattle.struct_ir.specs.Nodes.{Action, Step, set as sets, call, step, look, safepoint, begin_object, end_object}
use Rattle.struct_ir.specs.Threads.{Thread, Outcome, served, stop_at}
use Rattle.struct_ir.specs.Valid.{Scope, is_step}
use Rattle.struct_ir.specs.ValidCode.{code_scope_of, is_here}
use Rattle.flat_meaning.specs.Accesses.{Choice, Fault, went}
use Rattle.flat_meaning.specs.Effects as effects
use Rattle.flat_meaning.specs.Effects.{Effect, own_list_of, serve_effect}
use Rattle.flat_meaning.specs.Events.{MachineState, Serve, after_serve, after_serves, new_stages, put, put_if}
use Rattle.flat_meaning.specs.Image.{Image}
use Rattle.flat_meaning.specs.Machine.{served_by, words_machine, words_world}
use Rattle.flat_meaning.specs.Memory.{Made, Memory}
use Rattle.flat_meaning.specs.Order.{action_answer, answer_here, choice_answer, pick, pick_if, picks_of_serve, picks_of_serves}
use Rattle.flat_meaning.specs.Ready.{is_allocation, takes_room}
use Rattle.flat_meaning.specs.Stages.{Stage, going, landed, starts, waiting}
use Rattle.flat_meaning.specs.Words.{Words}
use Rattle.flat_rules.specs.Lawful.{IsOfRun}
use Rattle.flat_threads.proofs.Threads.{here_fits, top_is}
use Rattle.flat_threads.specs.Belonging.{IsContextOf}
use Rattle.flat_threads.specs.Contexts.{Context, IsProgram, IsStageIf, IsStageOf, IsThreadOf}
use Rattle.flat_machine.specs.Choices.{choice_here, served_choice}
use Rattle.flat_machine.specs.Machine.{machine_of}
use Rattle.flat_machine.specs.Shares.{Shared, image_of}
use Rattle.flat_machine.specs.Sweeping.{if_wants, serve_of, serves_from, serves_if, stage_home, stage_or, stages_home}
use Rattle.flat_machine.specs.lemmas.Homes.{after_serves-append, own_at_set-later}
use Rattle.flat_machine.specs.lemmas.Serving.{Gives, gives}
use Rattle.flat_machine.specs.lemmas.Waiting.{IsSized, Operands, of_malloc, of_calloc, of_realloc, keeps, leaves, sized}
use Rattle.flat_replay.proofs.Doings.{SameHeaps, more_heaps, same_heaps}

-- ---- which allocation stands there

record IsAllocationAt (h : Here) : Type 0 where
  pub place : ℕ
  pub node : Step
  pub there : h ≡ does place (step node)
  pub action : takes_room node.action ≡ true

allocation_there : (h : Here) → is_allocation h ≡ true → IsAllocationAt h
allocation_there (does place (sets to calc)) e = absurd cc
allocation_there (does place (call c)) e = absurd cc
allocation_there (does place (step node)) e = record { place = place; node = node; there = refl; action = e }
allocation_there (does place (look slot base)) e = absurd cc
allocation_there (does place (safepoint slots)) e = absurd cc
allocation_there (does place (begin_object i)) e = absurd cc
allocation_there (does place (end_object i)) e = absurd cc
allocation_there (tests place temp) e = absurd cc
allocation_there passes e = absurd cc
allocation_there round e = absurd cc
allocation_there (returns temp) e = absurd cc

-- ---- the pick of a serve

abbrev pub serve_pick : Serve → Pick
serve_pick v = pick v.thread (choice_answer v.choice)

module _ (x : Image Spot) (k : ℕ) (t : Thread Spot Words) (m : Memory) where
  abbrev outcome_here : Choice → Here → Outcome Spot Words Fault Memory
  outcome_here c h = stop_at x.flow (words_machine x.layout k) (words_world x.layout k) x.start c t m h

  -- what comes of a step with this choice is a turn, behind which the barrier still serves
  record ComesAsTurn (c : Choice) (h : Here) (o : Outcome Spot Words Fault Memory) : Type 0 where
    pub picks : pick_if k (answer_here x m c h) o ≡ pick k (choice_answer c) ∷ []
    pub heaps : SameHeaps m (effects.effect_of_outcome k (waiting t) t (own_list_of h) m o).memory
    pub serves : is_some (effects.effect_of_outcome k (waiting t) t (own_list_of h) m o).memory.leaving ≡ true

  abbrev IsTurn : Choice → Here → Type 0
  IsTurn c h = ComesAsTurn c h (outcome_here c h)

  -- an allocation is told what is chosen
  told : (c : Choice) (a : Action) (temps : List ℕ) → Operands a temps → action_answer x m c a ≡ choice_answer c
  told c _ _ (of_malloc size) = refl
  told c _ _ (of_calloc count size) = refl
  told c _ _ (of_realloc word size) = refl

  went_turn : (c : Choice) (place : ℕ) (node : Step) (word : Option ℕ) (after : Memory) → action_answer x m c node.action ≡ choice_answer c → SameHeaps m after → is_some after.leaving ≡ true
      → ComesAsTurn c (does place (step node)) (served x.flow t (served_by t.top.own node.to (went word after)))
  went_turn c place node None after tells heaps some = record { picks = ap (λ a. pick k a ∷ []) tells; heaps = heaps; serves = some }
  went_turn c place node (Some word) after tells heaps some = record { picks = ap (λ a. pick k a ∷ []) tells; heaps = heaps; serves = some }

  allocation_turn : (temps place : ℕ) (node : Step) → IsSized temps node → is_some m.leaving ≡ true → IsTurn (choice_here (served_choice m.storage) t.top.own (does place (step node))) (does place (step node))
  allocation_turn temps place node h some =
      let c : Choice = choice_here (served_choice m.storage) t.top.own (does place (step node)) in
      let g : Gives _ = gives x.layout k t.top.own temps node h m some in
      let shape = keeps x.layout k c t.top.own temps node h m g.after g.word g.is in
      let heaps : SameHeaps m g.after = record { count = shape.count; size = shape.size; most = shape.most } in
      let still : is_some g.after.leaving ≡ true = (leaves x.layout k c t.top.own temps node h m g.after g.word g.is).serves some in
      subst (ComesAsTurn c (does place (step node))) (sym (ap (λ d. served x.flow t (served_by t.top.own node.to d)) g.is))
      (went_turn c place node g.word g.after (told c node.action node.temps h.operands) heaps still)

module _ (code : LinearCode) (program : IsProgram code) (sh : Shared) where
  abbrev x : Image Spot
  x = image_of code sh

  turn_here : (m : Memory) (k : ℕ) (t : Thread Spot Words) → IsThreadOf code t → is_allocation (x.flow.here t.top.at) ≡ true → is_some m.leaving ≡ true → IsTurn x k t m (choice_here (served_choice m.storage) t.top.own (x.flow.here t.top.at)) (x.flow.here t.top.at)
  turn_here m k t all is some =
      let there = allocation_there (x.flow.here t.top.at) is in
      let func = top_is code t.top t.callers all in
      let scope : Scope = code_scope_of code func.1.function in
      let valid : is_step scope there.node ≡ true = subst (λ (h : Here). is_here scope h ≡ true) there.there (here_fits code program t.top.at func.1.function func.1.there) in
      subst (λ (h : Here). IsTurn x k t m (choice_here (served_choice m.storage) t.top.own h) h) (sym there.there)
      (allocation_turn x k t m scope.temps there.place there.node (sized scope there.node there.action valid) some)

  -- ---- one serve

  module _ (first : List (Option (Stage Spot))) (count : ℕ) (each : (k : ℕ) (stage : Stage Spot) → own_at first k ≡ Some stage → IsStageOf code stage) where
    -- threads from one on have not had their turn, and the barrier serves
    pub record AreLeft (n : ℕ) (st : MachineState Spot) : Type 0 where
      pub serves_on : is_some st.memory.leaving ≡ true
      pub long : count ≤ length st.own
      pub later : (k : ℕ) → n ≤ k → k < count → own_at st.own k ≡ own_at first k

    record Says (n : ℕ) (vs : List Serve) (st : MachineState Spot) : Type 0 where
      pub picks : picks_of_serves x vs st ≡ map serve_pick vs
      pub heaps : SameHeaps st.memory (after_serves x vs st).memory
      pub left : AreLeft n (after_serves x vs st)

    idle : (n : ℕ) (st : MachineState Spot) → AreLeft n st → Says (n + 1) [] st
    idle n st left = record { picks = refl; heaps = same_heaps st.memory; left = record { serves_on = left.serves_on; long = left.long; later = λ k le lt. left.later k (omega (arith, le)) lt } }

    own_at-front : {A : Type 0} (own more : List (Option A)) (k : ℕ) → k < length own → own_at (own ++ more) k ≡ own_at own k
    own_at-front [] more k below = absurd (omega (arith, below))
    own_at-front (o ∷ own) more zero below = refl
    own_at-front (o ∷ own) more (suc k) below = own_at-front own more k (omega (arith, below))

    put_left : (n : ℕ) (st : MachineState Spot) (e : Effect Spot) → AreLeft n st → is_some e.memory.leaving ≡ true → AreLeft (n + 1) (put st n e)
    put_left n st e left some = record {
      serves_on = some;
      long = omega (arith, left.long, length-set st.own n e.stage, length-append (set st.own n e.stage) (new_stages st.own e.memory));
      later = λ k le lt. own_at-front (set st.own n e.stage) (new_stages st.own e.memory) k (omega (arith, lt, left.long, length-set st.own n e.stage)) ∙ own_at_set-later st.own n k e.stage (omega (arith, le)) ∙ left.later k (omega (arith, le)) lt;
    }

    serves : (n : ℕ) (st : MachineState Spot) → AreLeft n st → (t : Thread Spot Words) → own_at st.own n ≡ Some (waiting t) → IsThreadOf code t → is_allocation (x.flow.here t.top.at) ≡ true → Says (n + 1) (serve_of x st n (waiting t) ∷ []) st
    serves n st left t own all is =
        let v : Serve = serve_of x st n (waiting t) in
        let turn = turn_here st.memory n t all is left.serves_on in
        let after_is : after_serve x st v ≡ put st n (serve_effect x n v.choice (waiting t) st.memory) = ap (put_if st n (serve_effect x n v.choice)) own in
        record {
          picks = append-nil (picks_of_serve x st.memory v (own_at st.own n)) ∙ ap (picks_of_serve x st.memory v) own ∙ turn.picks;
          heaps = subst (λ (z : MachineState Spot). SameHeaps st.memory z.memory) (sym after_is) turn.heaps;
          left = subst (AreLeft (n + 1)) (sym after_is) (put_left n st (serve_effect x n v.choice (waiting t) st.memory) left turn.serves);
        }

    -- one thread's turn, by its stage
    turn_at : (n : ℕ) (st : MachineState Spot) → AreLeft n st → (o : Option (Stage Spot)) → own_at st.own n ≡ o → ((stage : Stage Spot) → o ≡ Some stage → IsStageOf code stage) → Says (n + 1) (serves_if x st n o) st
    turn_at n st left None own is = idle n st left
    turn_at n st left (Some (starts function argument)) own is = idle n st left
    turn_at n st left (Some (going t)) own is = idle n st left
    turn_at n st left (Some (landed list t)) own is = idle n st left
    turn_at n st left (Some (waiting t)) own is = by (is_allocation (x.flow.here t.top.at)) refl where
      by : (b : Bool) → is_allocation (x.flow.here t.top.at) ≡ b → Says (n + 1) (if_wants b (serve_of x st n (waiting t))) st
      by true e = serves n st left t own (is (waiting t) refl) e
      by false e = idle n st left

    picks-append : (vs ws : List Serve) (st : MachineState Spot) → picks_of_serves x (vs ++ ws) st ≡ picks_of_serves x vs st ++ picks_of_serves x ws (after_serves x vs st)
    picks-append [] ws st = refl
    picks-append (v ∷ vs) ws st =
        ap (λ (ps : List Pick). picks_of_serve x st.memory v (own_at st.own v.thread) ++ ps) (picks-append vs ws (after_serve x st v))
        ∙ sym (append_assoc (picks_of_serve x st.memory v (own_at st.own v.thread)) (picks_of_serves x vs (after_serve x st v)) (picks_of_serves x ws (after_serves x vs (after_serve x st v))))

    pub all_say : (more n : ℕ) (st : MachineState Spot) → n + more ≡ count → AreLeft n st → (picks_of_serves x (serves_from x (range_with_len n more) st) st ≡ map serve_pick (serves_from x (range_with_len n more) st)) × SameHeaps st.memory (after_serves x (serves_from x (range_with_len n more) st) st).memory
    all_say zero n st e left = (refl, same_heaps st.memory)
    all_say (suc more) n st e left =
        let here : Says (n + 1) (serves_if x st n (own_at st.own n)) st = turn_at n st left (own_at st.own n) refl (λ stage is. each n stage (sym (left.later n (omega arith) (omega (arith, e))) ∙ is)) in
        let vs : List Serve = serves_if x st n (own_at st.own n) in
        let next : MachineState Spot = after_serves x vs st in
        let ws : List Serve = serves_from x (range_with_len (n + 1) more) next in
        let rest = all_say more (n + 1) next (omega (arith, e)) here.left in (
          picks-append vs ws st ∙ ap (λ (ps : List Pick). ps ++ picks_of_serves x ws next) here.picks ∙ ap (λ (ps : List Pick). map serve_pick vs ++ ps) rest.0 ∙ sym (map-append serve_pick vs ws),
          subst (λ (z : MachineState Spot). SameHeaps st.memory z.memory) (sym (after_serves-append x vs ws st)) (more_heaps st.memory next.memory (after_serves x ws next).memory here.heaps rest.1),
        )

    pub from_first : (st : MachineState Spot) → st.own ≡ first → count ≡ length first → is_some st.memory.leaving ≡ true → AreLeft 0 st
    from_first st own long some = record { serves_on = some; long = omega (arith, long, ap length own); later = λ k le lt. ap (λ (os : List (Option (Stage Spot))). own_at os k) own }

-- ---- stages at home are of the program

module _ (code : LinearCode) where
  stage_of_run : (t : Made) → t.function < length code.funcs → (c : Context) → IsContextOf code c → (o : Option (Stage Spot)) → c.stage ≡ o → (stage : Stage Spot) → stage_or t o ≡ Some stage → IsStageOf code stage
  stage_of_run t below c of_ None at stage is = let same : starts t.function t.argument ≡ stage = cc in subst (IsStageOf code) same below
  stage_of_run t below c of_ (Some one) at stage is = let same : one ≡ stage = cc in subst (IsStageOf code) same (subst (IsStageIf code) at of_.stage)

  stage_at_place : (t : Made) → t.function < length code.funcs → (p : Option Context) → IsOfRun (machine_of code) (IsContextOf code) p → (stage : Stage Spot) → stage_home t p ≡ Some stage → IsStageOf code stage
  stage_at_place t below None of_ stage is = absurd cc
  stage_at_place t below (Some c) of_ stage is = stage_of_run t below c of_ c.stage refl stage is

  pub stages_of_run : (ts : List Made) (home : List (Option Context)) → All (λ (t : Made). t.function < length code.funcs) ts → All (IsOfRun (machine_of code) (IsContextOf code)) home
      → (k : ℕ) (stage : Stage Spot) → own_at (stages_home ts home) k ≡ Some stage → IsStageOf code stage
  stages_of_run [] home functions all k stage is = absurd cc
  stages_of_run (t ∷ ts) [] functions all zero stage is = absurd cc
  stages_of_run (t ∷ ts) [] functions all (suc k) stage is = stages_of_run ts [] (λ j d below. functions (suc j) d (omega (arith, below))) all k stage is
  stages_of_run (t ∷ ts) (c ∷ home) functions all zero stage is = stage_at_place t (functions 0 t (omega arith)) c (all 0 c (omega arith)) stage is
  stages_of_run (t ∷ ts) (c ∷ home) functions all (suc k) stage is = stages_of_run ts home (λ j d below. functions (suc j) d (omega (arith, below))) (λ j d below. all (suc j) d (omega (arith, below))) k stage is
