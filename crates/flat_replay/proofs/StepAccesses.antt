-- From what follows after events to what is said of an entry: the step of a turn, and an allocation that is served.
use Rattle.std.proofs.Common.{◌≡◌, ℕ, true, false, List, [], ◌∷◌, ◌++◌, Option, Some, None, refl, sym, ap, subst, ◌∙◌, arith, inl, inr, length-append}
use Rattle.std.specs.Prelude.{All}
use Rattle.std.proofs.lemmas.List.{get_or_append_left}
use Rattle.std.proofs.lemmas.List.Elements.{All-nil}
use Rattle.block_store.specs.Runs as runs
use Rattle.block_store.specs.Runs.{Pick, own_at, picked, run}
use Rattle.arena_meaning.specs.Arena.{Storage}
use Rattle.arena_meaning.specs.Changes.{is_live_start, without_words}
use Rattle.struct_ir.specs.Nodes.{Ir, Step, set, call, step, look, safepoint, begin_object, end_object}
use Rattle.struct_ir.specs.Flow.{Here, does, tests, passes, round, returns}
use Rattle.struct_ir.specs.Linear.{Spot}
use Rattle.struct_ir.specs.Structured.{Position}
use Rattle.struct_ir.specs.Threads.{Thread, stop_at}
use Rattle.struct_ir.specs.meaning.Blocks.{Own}
use Rattle.struct_ir.specs.meaning.Start.{start}
use Rattle.struct_ir.specs.meaning.Threads.{program_of}
use Rattle.ak_trace.specs.declared.endings.End.{End}
use Rattle.flat_meaning.specs.Accesses.{Choice}
use Rattle.flat_meaning.specs.Allowed.{AreAllowed, IsAllowed, MayAct, MayServe, MayServeAll, MayStep, MayStepAt}
use Rattle.flat_meaning.specs.Events.{MachineState, Serve, Event, act, after_all, after_serve, after_serves, end_or, first_state, put_if, served_state}
use Rattle.flat_meaning.specs.Effects.{serve_effect}
use Rattle.flat_meaning.specs.Image.{Image}
use Rattle.flat_meaning.specs.Machine.{words_machine, words_world}
use Rattle.flat_meaning.specs.Memory.{Memory, words_leaving}
use Rattle.flat_meaning.specs.Order.{act_picks, answer_here, order_of, pick_if, picks_of, picks_of_act, picks_of_serve, tried_by}
use Rattle.flat_meaning.specs.Ready.{is_allocation, takes_room}
use Rattle.flat_meaning.specs.Reaching.{Unbroken}
use Rattle.flat_meaning.specs.Stages.{Stage, before, going, landed, starts, steps, waiting}
use Rattle.flat_meaning.specs.Start.{ids_of}
use Rattle.flat_meaning.specs.Words.{Words, word_at}
use Rattle.flat_simulation.specs.Kinds.{TakesRightKinds, MeetsWrongKind, UpToAKind, LinearStandsAfter}
use Rattle.flat_simulation.specs.LinearSteps.{AllocationsFit, StepTouches, TurnsTouch}
use Rattle.flat_simulation.proofs.KindRuns.{up_to}
use Rattle.flat_simulation.proofs.ServedOn.{IsGone, gone_traps, kept_or_gone, may_act_left, serving_on}
use Rattle.flat_simulation.proofs.ServedSteps.{IsServing, KeepsOldAt}
use Rattle.flat_simulation.proofs.StepKinds.{malloc_before}
use Rattle.flat_replay.specs.Accesses.{ActStays, ServeStays, StandsBy}
use Rattle.flat_replay.proofs.Segments.{Comes}

-- of all, the first are so
all_first : {A : Type 0} (P : A → Type 0) (xs ys : List A) → All P (xs ++ ys) → All P xs
all_first P xs ys h k d below = subst P (get_or_append_left xs ys d k below) (h k d (omega (arith, below, length-append xs ys)))

module _ (y : Image Spot) where
  -- a barrier that serves but the first of these allocations may come, too; and then the others may be served
  pub serves_front : (vs ws : List Serve) (s : MachineState Spot) → MayServeAll y (vs ++ ws) s → MayServeAll y vs s × MayServeAll y ws (after_serves y vs s)
  serves_front [] ws s may = (tt, may)
  serves_front (v ∷ vs) ws s may = let r = serves_front vs ws (after_serve y s v) may.1 in ((may.0, r.0), r.1)

  -- where the run goes on behind them, it did before
  none_now : (now past : Option End) → end_or now past ≡ None → past ≡ None
  none_now None past e = e
  none_now (Some end) past e = absurd cc

  put_on : (s : MachineState Spot) (v : Serve) (o : Option (Stage Spot)) → (put_if s v.thread (serve_effect y v.thread v.choice) o).end ≡ None → s.end ≡ None
  put_on s v None e = e
  put_on s v (Some stage) e = none_now (serve_effect y v.thread v.choice stage s.memory).end s.end e

  pub serves_on : (vs : List Serve) (s : MachineState Spot) → (after_serves y vs s).end ≡ None → s.end ≡ None
  serves_on [] s e = e
  serves_on (v ∷ vs) s e = put_on s v (own_at s.own v.thread) (serves_on vs (after_serve y s v) e)

  -- an allocation that may be served is of a thread that waits
  pub record Waiting (m : Memory) (choice : Choice) (o : Option (Stage Spot)) : Type 0 where
    pub thread : Thread Spot Words
    pub is : o ≡ Some (waiting thread)
    pub may : MayServe y m choice (Some (waiting thread))

  pub waits_there : (m : Memory) (choice : Choice) (o : Option (Stage Spot)) → MayServe y m choice o → Waiting m choice o
  waits_there m choice None may = absurd may
  waits_there m choice (Some (starts function argument)) may = absurd may
  waits_there m choice (Some (going t)) may = absurd may
  waits_there m choice (Some (waiting t)) may = record { thread = t; is = refl; may = may }
  waits_there m choice (Some (landed list t)) may = absurd may

  -- it is a step that may be done
  served_steps : (m : Memory) (choice : Choice) (q : Thread Spot Words) → MayServe y m choice (Some (waiting q)) → before y q ≡ steps
  served_steps m choice q may = malloc_before q.callers (y.flow.here q.top.at) may.0

  -- while allocations are served, the old objects of reallocs are live
  pub serving_all : (vs : List Serve) (s : MachineState Spot) → IsServing s → MayServeAll y vs s → IsServing (after_serves y vs s)
  serving_all [] s serving may = serving
  serving_all (v ∷ vs) s serving may =
      let who = waits_there s.memory v.choice (own_at s.own v.thread) may.0 in
      serving_all vs (after_serve y s v) (serving_on y s serving v who.thread who.is who.may.0 who.may.2) may.1

  module _ (p : Ir) (ds : List Event) (given : List ℕ) (u : runs.State (Thread Position Own)) (s : MachineState Spot) (f : LinearStandsAfter y p ds u s) (ids : ids_of ds ≡ given) where
    abbrev stands_by : s.end ≡ None → StandsBy y p given u s
    stands_by open_ = record { names = f.names; loaded = f.made.loaded; ids = f.made.ids ∙ ids; world = f.world; stacks = f.stacks open_ }

    -- a step that may come next
    act_stays : (thread : ℕ) (right : TakesRightKinds p u thread) (choice : Choice) (stage : Stage Spot) → own_at s.own thread ≡ Some stage → IsAllowed y s (act thread choice) → ActStays y p given u s thread choice stage
    act_stays thread right choice stage at may = let h = f.stacks may.0 thread stage at in record {
      stands = stands_by may.0;
      own = h.own;
      at = h.at;
      follows = f.steps thread right choice h.own stage h.at at may;
    }

  -- an allocation that may be served next, in the state that the barrier leaves where it serves those before alone
  module _ (p : Ir) (ds : List Event) (given : List ℕ) (u : runs.State (Thread Position Own)) (r : MachineState Spot) (f : LinearStandsAfter y p ds u (served_state r)) (ids : ids_of ds ≡ given) (fits : AllocationsFit y.flow) (serving : IsServing r)
      (v : Serve) (q : Thread Spot Words) (open_ : r.end ≡ None) (at : own_at r.own v.thread ≡ Some (waiting q)) (may : MayServe y r.memory v.choice (Some (waiting q))) (right : TakesRightKinds p u v.thread) where
    abbrev s : MachineState Spot
    s = served_state r

    abbrev left : Storage
    left = without_words serving.words r.memory.storage

    abbrev here : Here
    here = y.flow.here q.top.at

    abbrev own : Thread Position Own
    own = (f.stacks open_ v.thread (waiting q) at).own

    abbrev Touch : List Pick → Type 0
    Touch = TurnsTouch y p f.names u s own q

    steps_there : before y q ≡ steps
    steps_there = served_steps r.memory v.choice q may

    -- where it is no realloc of what has left, it may be done there
    kept_touch : KeepsOldAt left q.top.own (y.flow.here q.top.at) → Touch (picks_of_serve y s.memory v (Some (waiting q)))
    kept_touch kept =
        let act_left : MayAct left q.top.own v.choice (y.flow.here q.top.at) = may_act_left serving.words r.memory.storage q.top.own v.choice (y.flow.here q.top.at) may.0 may.2 kept in
        let act_there : MayAct s.memory.storage q.top.own v.choice (y.flow.here q.top.at) =
        subst (λ (words : Option (List ℕ)). MayAct (without_words (words_leaving words) r.memory.storage) q.top.own v.choice (y.flow.here q.top.at)) (sym serving.leaving) act_left in
        let step_may : MayStepAt y s.memory v.choice (Some (waiting q)) = subst (MayStep y s.memory v.choice q) (sym steps_there) act_there in
        let acts : IsAllowed y s (act v.thread v.choice) = (open_, subst (MayStepAt y s.memory v.choice) (sym at) step_may) in
        let all = (f.steps v.thread right v.choice own (waiting q) (f.stacks open_ v.thread (waiting q) at).at at acts).touches steps_there in
        let first : Touch (picks_of y s (act v.thread v.choice)) = all_first (λ (k : Pick). Unbroken (picked (program_of p) u k) → StepTouches y p f.names u s k own q) (picks_of y s (act v.thread v.choice)) (tried_by y s (act v.thread v.choice)) all in
        let same : picks_of y s (act v.thread v.choice) ≡ picks_of_serve y s.memory v (Some (waiting q)) = ap (picks_of_act y s.memory v.thread v.choice) at ∙ ap (act_picks y s.memory v.thread v.choice q) steps_there in
        subst Touch same first

    -- and else it has no turn there
    gone_touch : (place : ℕ) (node : Step) → y.flow.here q.top.at ≡ does place (step node) → IsGone left q.top.own node.action node.temps → Touch (picks_of_serve y s.memory v (Some (waiting q)))
    gone_touch place node is gone =
        let none : node.places ≡ [] = fits q.top.at place node is (ap takes_room gone.action) in
        let dead : is_live_start s.memory.storage (word_at q.top.own gone.word) ≡ false =
        subst (λ (words : Option (List ℕ)). is_live_start (without_words (words_leaving words) r.memory.storage) (word_at q.top.own gone.word) ≡ false) (sym serving.leaving) gone.dead in
        let traps = gone_traps y v.thread q s.memory v.choice place node gone.word gone.size gone.action gone.temps_are none refl gone.some dead in
        let nothing : [] ≡ picks_of_serve y s.memory v (Some (waiting q)) =
        sym (ap (λ (h : Here). pick_if v.thread (answer_here y s.memory v.choice h) (stop_at y.flow (words_machine y.layout v.thread) (words_world y.layout v.thread) y.start v.choice q s.memory h)) is
        ∙ ap (pick_if v.thread (answer_here y s.memory v.choice (does place (step node)))) traps) in
        subst Touch nothing (All-nil (λ (k : Pick). Unbroken (picked (program_of p) u k) → StepTouches y p f.names u s k own q))

    by_here : (h : Here) → y.flow.here q.top.at ≡ h → is_allocation h ≡ true → Touch (picks_of_serve y s.memory v (Some (waiting q)))
    by_here (does place (step node)) is e = elim (kept_or_gone left q.top.own node.action node.temps) [
      | inl kept ↦ kept_touch (subst (KeepsOldAt left q.top.own) (sym is) kept)
      | inr gone ↦ gone_touch place node is gone
    ]
    by_here (does place (set to calc)) is e = absurd cc
    by_here (does place (call c)) is e = absurd cc
    by_here (does place (look slot base)) is e = absurd cc
    by_here (does place (safepoint slots)) is e = absurd cc
    by_here (does place (begin_object i)) is e = absurd cc
    by_here (does place (end_object i)) is e = absurd cc
    by_here (tests place temp) is e = absurd cc
    by_here passes is e = absurd cc
    by_here round is e = absurd cc
    by_here (returns temp) is e = absurd cc

    serve_stays : ServeStays y p given u s v q
    serve_stays = record {
      stands = stands_by p ds given u s f ids open_;
      own = own;
      at = (f.stacks open_ v.thread (waiting q) at).at;
      touches = by_here (y.flow.here q.top.at) refl may.0;
    }

  module _ (p : Ir) (follows : (es : List Event) → AreAllowed y es (first_state y) → UpToAKind p (order_of y es (first_state y)) (λ u. LinearStandsAfter y p es u (after_all y es (first_state y))))
      (r : MachineState Spot) (picks : List Pick) (tries : ℕ → List (ℕ × ℕ)) (given : List ℕ) (c : Comes y (first_state y) r picks tries given) where
    there : UpToAKind p picks (λ u. LinearStandsAfter y p c.events u r)
    there =
        subst (λ (o : List Pick). UpToAKind p o (λ u. LinearStandsAfter y p c.events u r)) c.order
        (subst (λ (z : MachineState Spot). UpToAKind p (order_of y c.events (first_state y)) (λ u. LinearStandsAfter y p c.events u z)) c.after (follows c.events c.allowed))

    -- what holds so of a state that follows
    there_so : (A : runs.State (Thread Position Own) → Type 0) → ((u : runs.State (Thread Position Own)) → LinearStandsAfter y p c.events u r → A u) → UpToAKind p picks A
    there_so A so =
        up_to (run (program_of p) (start p) picks) (λ u. LinearStandsAfter y p c.events u r) A (MeetsWrongKind p picks 0 (runs.first_state (program_of p) (start p))) (λ u reached f. so u f) there

    -- in the run of these turns, up to a broken rule or an operation on a value of a kind that it doesn't take
    pub run_act_stays : (thread : ℕ) (choice : Choice) (stage : Stage Spot) → own_at r.own thread ≡ Some stage → IsAllowed y r (act thread choice)
        → UpToAKind p picks (λ u. StandsBy y p given u r × (TakesRightKinds p u thread → ActStays y p given u r thread choice stage))
    run_act_stays thread choice stage at may =
        there_so (λ u. StandsBy y p given u r × (TakesRightKinds p u thread → ActStays y p given u r thread choice stage))
        (λ u f. (stands_by p c.events given u r f c.ids may.0, λ right. act_stays p c.events given u r f c.ids thread right choice stage at may))

  module _ (p : Ir) (follows : (es : List Event) → AreAllowed y es (first_state y) → UpToAKind p (order_of y es (first_state y)) (λ u. LinearStandsAfter y p es u (after_all y es (first_state y)))) (fits : AllocationsFit y.flow)
      (r : MachineState Spot) (serving : IsServing r) (picks : List Pick) (tries : ℕ → List (ℕ × ℕ)) (given : List ℕ) (c : Comes y (first_state y) (served_state r) picks tries given) where
    pub run_serve_stays : (v : Serve) (q : Thread Spot Words) → r.end ≡ None → own_at r.own v.thread ≡ Some (waiting q) → MayServe y r.memory v.choice (Some (waiting q))
        → UpToAKind p picks (λ u. StandsBy y p given u (served_state r) × (TakesRightKinds p u v.thread → ServeStays y p given u (served_state r) v q))
    run_serve_stays v q open_ at may =
        there_so p follows (served_state r) picks tries given c (λ u. StandsBy y p given u (served_state r) × (TakesRightKinds p u v.thread → ServeStays y p given u (served_state r) v q))
        (λ u f. (stands_by p c.events given u (served_state r) f c.ids open_, λ right. serve_stays p c.events given u r f c.ids fits serving v q open_ at may right))
