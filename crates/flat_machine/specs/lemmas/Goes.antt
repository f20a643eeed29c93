-- What a step leaves of the context of a thread that goes on or comes home.
use Rattle.std.proofs.Common.{◌≡◌, ℕ, ◌<◌, ◌≤◌, ◌⊎◌, Bool, true, false, cond, ◌&&◌, List, [], ◌∷◌, length, map, All, Option, Some, None, refl, ap, sym, ◌∙◌, subst, inl, inr}
use Rattle.std.specs.Prelude.{is_some}
use Rattle.std.proofs.lemmas.List.{length-set}
use Rattle.struct_ir.specs.Flow.{Here, does, tests, passes, round, returns, GoesOn}
use Rattle.struct_ir.specs.Instrs.{LinearCode}
use Rattle.struct_ir.specs.Linear.{Spot, linear}
use Rattle.struct_ir.specs.Machine.{Point}
use Rattle.struct_ir.specs.Nodes.{Step, set, call, step, look, safepoint, begin_object, end_object, may_wait, own_list}
use Rattle.struct_ir.specs.Threads.{Thread, behind}
use Rattle.std.specs.List.{list_all}
use Rattle.std.proofs.lemmas.Bool.{and_parts}
use Rattle.struct_ir.specs.Valid.{Scope, are_below, counts_of, has_counts, is_action, is_below_if, is_own_list, is_place, is_step}
use Rattle.struct_ir.specs.ValidCode.{code_scope_of, is_here}
use Rattle.flat_meaning.specs.declared.endings.Stop.{Stop}
use Rattle.flat_meaning.specs.declared.endings.Stop.TheVariants.{AtStep, Spent, NoRoom}
use Rattle.flat_meaning.specs.Accesses as actions
use Rattle.flat_meaning.specs.Allowed as stages
use Rattle.flat_meaning.specs.Allowed.{list_at}
use Rattle.flat_meaning.specs.Effects as effects
use Rattle.flat_meaning.specs.Effects.{Effect, landing}
use Rattle.flat_meaning.specs.Image.{Image}
use Rattle.flat_meaning.specs.Local.{no_room_if, stop_before}
use Rattle.flat_meaning.specs.Local.{stop_at as stop_at_stage}
use Rattle.flat_meaning.specs.Memory.{Memory}
use Rattle.flat_meaning.specs.Ready.{takes_room}
use Rattle.flat_meaning.specs.Stages.{Stage, starts, going, waiting, landed, thread_at, before_here, before_return}
use Rattle.flat_meaning.specs.Words.{Used, Words, set_if, target_of, with_temps, word_at}
use Rattle.flat_meaning.specs.Machine.{looked}
use Rattle.flat_rules.specs.Events.{away, back, goes, on}
use Rattle.flat_rules.specs.Lawful.{Goes_on, Lives, is_for_room}
use Rattle.flat_rules.specs.Machine as turns
use Rattle.flat_rules.specs.Machine.{steps}
use Rattle.flat_threads.proofs.Threads.{SameCounts, behind_is, here_fits, same_counts, top_is}
use Rattle.flat_threads.specs.Belonging.{HasStopped, IsContextOf}
use Rattle.flat_threads.specs.Contexts.{Context, IsCallOf, IsInCall, IsListFor, IsProgram, IsStageIf, IsStageOf, IsThreadOf, own_image}
use Rattle.flat_threads.specs.Waits.{action_waits, waits_at, waits_here}
use Rattle.flat_machine.specs.Acting.{act_of, acted_by, effect_if}
use Rattle.flat_machine.specs.Machine.{machine_of, progress_of, stands_of}
use Rattle.flat_machine.specs.Readiness.{wants_room}
use Rattle.flat_machine.specs.Shares.{Shared, IsSharedOf, image_of}
use Rattle.flat_machine.specs.Turns.{done_turned, fault_turned, outcome_turned, turned_of}
use Rattle.flat_machine.specs.Choices.{malloc_choice}
use Rattle.flat_machine.specs.lemmas.Outcomes.{done_on, malloc_fits, room_or_malloc, wait_told, waits_may}
use Rattle.flat_machine.specs.lemmas.Steps.{choice_at, done_at, lacks, last_call, leave_turned_is, look_effect_is, look_turned_is, looked_at, no_spent, outcome_at, stands, step_effect_is, step_fits, step_turned_is}
use Rattle.flat_machine.specs.lemmas.Waiting.{sized}

-- ---- what a thread stands before that has stopped

stop_none : (b : Bool) (stop : Stop) → (stop ≡ NoRoom → ⊥) → no_room_if b ≡ Some stop → ⊥
stop_none true stop other e = absurd cc
stop_none false stop other e = let same : NoRoom ≡ stop = cc in other (sym same)

module _ (x : Image Spot) (most ends : ℕ) (t : Thread Spot Words) where
  -- it has ended its turns, at a safepoint
  spent_here : (callers : List (Point Spot Words)) (l : Words) (h : Here) → stop_before x most ends t (before_here callers h) ≡ Some Spent → (is_some (list_at h) ≡ true) × (waits_here l h ≡ None)
  spent_here callers l (does place (set to calc)) e = absurd cc
  spent_here callers l (does place (call c)) e = absurd (stop_none _ Spent (λ f. absurd cc) e)
  spent_here callers l (does place (step s)) e = absurd cc
  spent_here callers l (does place (look slot base)) e = absurd cc
  spent_here callers l (does place (safepoint slots)) e = (refl, refl)
  spent_here callers l (does place (begin_object i)) e = absurd cc
  spent_here callers l (does place (end_object i)) e = absurd cc
  spent_here callers l (tests place temp) e = absurd cc
  spent_here callers l passes e = absurd cc
  spent_here callers l round e = absurd cc
  spent_here [] l (returns temp) e = absurd cc
  spent_here (c ∷ callers) l (returns temp) e = absurd cc

  -- a step, a Look or the return of its first function
  pub data Pending (h : Here) : Type 0 where
    looks_so : (place slot base : ℕ) → h ≡ does place (look slot base) → Pending h
    does_so : (place : ℕ) (s : Step) → h ≡ does place (step s) → Pending h
    returns_so : (temp : Option ℕ) → h ≡ returns temp → stop_before x most ends t (before_return t.callers) ≡ Some AtStep → Pending h

  pub pending : (h : Here) → stop_before x most ends t (before_here t.callers h) ≡ Some AtStep → Pending h
  pending (does place (set to calc)) e = absurd cc
  pending (does place (call c)) e = absurd (stop_none _ AtStep (λ f. absurd cc) e)
  pending (does place (step s)) e = does_so place s refl
  pending (does place (look slot base)) e = looks_so place slot base refl
  pending (does place (safepoint slots)) e = absurd (no_spent _ e)
  pending (does place (begin_object i)) e = absurd cc
  pending (does place (end_object i)) e = absurd cc
  pending (tests place temp) e = absurd cc
  pending passes e = absurd cc
  pending round e = absurd cc
  pending (returns temp) e = returns_so temp refl e

-- ---- a thread that goes on, or comes home

module _ (code : LinearCode) where
  -- it is at a stage of the program, waits for room just where its turn says so, and stands at a safepoint where it comes home
  record GoesTo (e : Effect Spot) (turned : turns.Turned) : Type 0 where
    pub stage : Stage Spot
    pub is : e.stage ≡ Some stage
    pub of_ : IsStageOf code stage
    pub waits : wants_room (waits_at (own_image code) (Some stage)) ≡ is_for_room turned
    pub stands_ : goes turned ≡ back → stages.stands (own_image code).flow stage ≡ true

  goes_on_by : (s : Shared) (c : Context) → IsContextOf code c → GoesTo (act_of code s c) (turned_of (image_of code s) c.number s.memory c.stage c.stop) → Goes_on (machine_of code) (IsContextOf code) (acted_by code s c) c
  goes_on_by s c of_ g = record {
    of_ = record { program = of_.program; number = of_.number; stage = subst (IsStageIf code) (sym g.is) g.of_; wait = refl; stopped = λ stop e. absurd cc; turns = of_.turns };
    thread = refl;
    progress = ap (λ (o : Option (Stage Spot)). progress_of o None) g.is;
    waits = ap (λ (o : Option (Stage Spot)). wants_room (waits_at (own_image code) o)) g.is ∙ g.waits;
    stands = λ b. ap (stands_of code) g.is ∙ g.stands_ b;
  }

  -- ---- a rest

  rested_to : (x : Image Spot) (n : ℕ) (m : Memory) (stage : Stage Spot) → IsStageOf code stage → (most ends : ℕ) → stop_at_stage (own_image code) most ends stage ≡ Some Spent → GoesTo (effect_if x n m (Some stage) (Some Spent)) (turned_of x n m (Some stage) (Some Spent))
  rested_to x n m stage of_ most ends e = record { stage = stage; is = refl; of_ = of_; waits = (at_rest stage e).1; stands_ = λ b. (at_rest stage e).0 } where
    here_rests : (t : Thread Spot Words) → stop_before (own_image code) most ends t (before_here t.callers ((linear code.funcs).here t.top.at)) ≡ Some Spent → (is_some (list_at ((linear code.funcs).here t.top.at)) ≡ true) × (waits_here t.top.own ((linear code.funcs).here t.top.at) ≡ None)
    here_rests t e = spent_here (own_image code) most ends t t.callers t.top.own ((linear code.funcs).here t.top.at) e

    at_rest : (stage : Stage Spot) → stop_at_stage (own_image code) most ends stage ≡ Some Spent → (stages.stands (own_image code).flow stage ≡ true) × (wants_room (waits_at (own_image code) (Some stage)) ≡ false)
    at_rest (starts function argument) e = absurd (stop_none _ Spent (λ f. absurd cc) e)
    at_rest (going t) e = ((here_rests t e).0, refl)
    at_rest (waiting t) e = ((here_rests t e).0, ap wants_room (here_rests t e).1)
    at_rest (landed list t) e = (refl, refl)

  -- if the thread goes on, or comes home
  abbrev IfGoes : Effect Spot → turns.Turned → Type 0
  IfGoes e turned = (goes turned ≡ away → ⊥) → GoesTo e turned

  fault_away : (f : actions.Fault) → goes (fault_turned f) ≡ away
  fault_away (actions.trap word kind) = refl
  fault_away actions.output_limit = refl

  landing_waits : (list : Option (List ℕ)) (q : Thread Spot Words) → wants_room (waits_at (own_image code) (Some (landing list q))) ≡ false
  landing_waits None q = refl
  landing_waits (Some list) q = refl

  pub action_valid : (x : Scope) (node : Step) → is_step x node ≡ true → is_action x node.action ≡ true
  action_valid x node h =
      let p = and_parts (list_all (is_place x) node.places && (are_below x.temps node.temps && is_below_if x.temps node.to)) (has_counts (counts_of node.action) node && (is_action x node.action && is_own_list x node.action node.slots)) h in
      let u = and_parts (has_counts (counts_of node.action) node) (is_action x node.action && is_own_list x node.action node.slots) p.1 in
      (and_parts (is_action x node.action) (is_own_list x node.action node.slots) u.1).0

  -- ---- a step, a Look or a return

  module _ (s : Shared) (n : ℕ) (program : IsProgram code) (stage : Stage Spot) (of_ : IsStageOf code stage) (inside : IsInCall (Some stage)) (all : IsThreadOf code (thread_at (image_of code s) stage)) where
    abbrev x : Image Spot
    x = image_of code s

    abbrev m : Memory
    m = s.memory

    abbrev t : Thread Spot Words
    t = thread_at (image_of code s) stage

    abbrev now : Effect Spot
    now = effect_if x n m (Some stage) (Some AtStep)

    abbrev turned_now : turns.Turned
    turned_now = turned_of x n m (Some stage) (Some AtStep)

    -- behind what stands there, with other words
    behind_of : (l : Words) → SameCounts code t.top.own l → (h : Here) → (linear code.funcs).here t.top.at ≡ h → GoesOn h → IsThreadOf code (record { top = behind (linear code.funcs) t.top l; callers = t.callers })
    behind_of l counts h here_is on_ = behind_is code program t.top l t.callers (subst GoesOn (sym here_is) on_) counts all

    look_to : (place slot base : ℕ) → (linear code.funcs).here t.top.at ≡ does place (look slot base) → GoesTo now turned_now
    look_to place slot base here_is =
        let e = look_effect_is x n m place slot base stage inside here_is in
        let u = look_turned_is x n m place slot base stage inside here_is in
        record {
          stage = going (looked_at x n m place slot base t);
          is = ap (λ (e : Effect Spot). e.stage) e;
          of_ = behind_of (looked m.storage t.top.own slot (word_at t.top.own base)) (record { function = refl; temps = refl; slots = length-set t.top.own.slots slot _; below = refl }) (does place (look slot base)) here_is tt;
          waits = ap is_for_room (sym u);
          stands_ = λ b. let bad : on ≡ back = ap goes (sym u) ∙ b in absurd cc;
        }

    module _ (place : ℕ) (node : Step) (here_is : (linear code.funcs).here t.top.at ≡ does place (step node)) where
      abbrev choice : actions.Choice
      choice = choice_at x n m place node t.top.own

      abbrev func : (below : Used) × IsCallOf code below t.top
      func = top_is code t.top t.callers all

      abbrev scope : Scope
      scope = code_scope_of code func.1.function

      valid : is_step scope node ≡ true
      valid = subst (λ (h : Here). is_here scope h ≡ true) here_is (here_fits code program t.top.at func.1.function func.1.there)

      list_of_call : IsListFor t.top.own node.slots
      list_of_call = (step_fits scope t.top.own node func.1.temps func.1.slots valid).list

      -- it was done
      landed_to : (l : Words) → SameCounts code t.top.own l → (after : Memory)
          → GoesTo (record { memory = after; stage = Some (landing (own_list node) (record { top = behind (linear code.funcs) t.top l; callers = t.callers })); end = None }) (done_turned x m choice node.action)
      landed_to l counts after =
          let q : Thread Spot Words = record { top = behind (linear code.funcs) t.top l; callers = t.callers } in
          let told = done_on x m choice node.action in
          record {
            stage = landing (own_list node) q;
            is = refl;
            of_ = landed_of (may_wait node.action) (behind_of l counts (does place (step node)) here_is tt) (subst (λ k. All (λ j. j < k) node.slots × (length node.slots ≤ k)) (sym counts.slots) list_of_call);
            waits = landing_waits (own_list node) q ∙ sym told.0;
            stands_ = λ b. absurd (told.2 b);
          }
        where
          landed_of : (b : Bool) → IsThreadOf code (record { top = behind (linear code.funcs) t.top l; callers = t.callers }) → IsListFor l node.slots → IsStageOf code (landing (cond b (Some node.slots) None) (record { top = behind (linear code.funcs) t.top l; callers = t.callers }))
          landed_of true thread list = (thread, list)
          landed_of false thread list = thread

      word_counts : (to : Option ℕ) (word : ℕ) → SameCounts code t.top.own (with_temps t.top.own (set_if t.top.own.temps to word))
      word_counts None word = same_counts code t.top.own
      word_counts (Some r) word = record { function = refl; temps = length-set t.top.own.temps r word; slots = refl; below = refl }

      -- what waits there
      waits_now : wants_room (waits_here t.top.own ((linear code.funcs).here t.top.at)) ≡ wants_room (action_waits node.action (map (target_of t.top.own) node.places) (map (word_at t.top.own) node.temps))
      waits_now = ap (λ (h : Here). wants_room (waits_here t.top.own h)) here_is

      stage_waits : (one : Stage Spot) → wants_room (waits_here (thread_at x one).top.own ((linear code.funcs).here (thread_at x one).top.at)) ≡ false → wants_room (waits_at (own_image code) (Some one)) ≡ false
      stage_waits (starts function argument) none = refl
      stage_waits (going q) none = refl
      stage_waits (waiting q) none = none
      stage_waits (landed list q) none = refl

      by_done : (d : actions.Done) → done_at x n m place node t.top.own ≡ d
          → IfGoes (effects.effect_of_outcome n stage t (own_list node) m (outcome_at x n m place node t d)) (outcome_turned x n m choice (does place (step node)) (outcome_at x n m place node t d))
      by_done (actions.went None after) e = λ _. landed_to t.top.own (same_counts code t.top.own) after
      by_done (actions.went (Some word) after) e = λ _. landed_to (with_temps t.top.own (set_if t.top.own.temps node.to word)) (word_counts node.to word) after
      by_done actions.waits e = λ _. record {
        stage = waiting t;
        is = refl;
        of_ = all;
        waits = waits_now ∙ wait_told x.layout n (malloc_choice m.storage) t.top.own m node.action (map (target_of t.top.own) node.places) node.temps e;
        stands_ = λ _. ap (λ (h : Here). is_some (list_at h)) here_is ∙ ap (λ (b : Bool). is_some (cond b (Some node.slots) None)) (waits_may x.layout n m choice node.action (map (target_of t.top.own) node.places) (map (word_at t.top.own) node.temps) e);
      }
      by_done actions.unfit e = λ _. record { stage = stage; is = refl; of_ = of_; waits = idle; stands_ = λ b. absurd cc } where
        none_here : (takes_room node.action ≡ true) ⊎ (wants_room (action_waits node.action (map (target_of t.top.own) node.places) (map (word_at t.top.own) node.temps)) ≡ false) → wants_room (waits_here t.top.own ((linear code.funcs).here t.top.at)) ≡ false
        none_here (inl is) = absurd (malloc_fits x.layout n t.top.own m scope.temps node (sized scope node is valid) e)
        none_here (inr none) = waits_now ∙ none

        idle : wants_room (waits_at (own_image code) (Some stage)) ≡ false
        idle = stage_waits stage (none_here (room_or_malloc node.action (map (target_of t.top.own) node.places) (map (word_at t.top.own) node.temps)))
      by_done (actions.over f) e = λ not. absurd (not (fault_away f))

      step_to : IfGoes now turned_now
      step_to =
          let d = done_at x n m place node t.top.own in
          subst (λ (e : Effect Spot). IfGoes e turned_now) (sym (step_effect_is x n m place node stage inside here_is))
          (subst (IfGoes (effects.effect_of_outcome n stage t (own_list node) m (outcome_at x n m place node t d))) (sym (step_turned_is x n m place node stage inside here_is)) (by_done d refl))

    return_to : (temp : Option ℕ) → (linear code.funcs).here t.top.at ≡ returns temp → t.callers ≡ [] → IfGoes now turned_now
    return_to temp here_is none = λ not. absurd (not (ap goes (leave_turned_is x n m temp stage inside here_is none)))

    pending_to : (most ends : ℕ) → Pending (own_image code) most ends t ((linear code.funcs).here t.top.at) → IfGoes now turned_now
    pending_to most ends (looks_so place slot base is) = λ _. look_to place slot base is
    pending_to most ends (does_so place node is) = step_to place node is
    pending_to most ends (returns_so temp is stops) = return_to temp is (last_call (own_image code) most ends t t.callers stops)

  -- ---- by why it stopped

  by_stop : (s : Shared) (c : Context) → IsContextOf code c → (stop : Stop) → HasStopped (own_image code) c.stage stop → IfGoes (effect_if (image_of code s) c.number s.memory c.stage (Some stop)) (turned_of (image_of code s) c.number s.memory c.stage (Some stop))
  by_stop s c of_ AtStep h =
      let st = stands code c of_ h in
      let x : Image Spot = image_of code s in
      let same : st.t ≡ thread_at x st.stage = st.t_is x in
      let all : IsThreadOf code (thread_at x st.stage) = subst (IsThreadOf code) same st.thread in
      let stops = subst (λ (t : Thread Spot Words). stop_before (own_image code) st.most st.ends t (before_here t.callers ((linear code.funcs).here t.top.at)) ≡ Some AtStep) same st.stops in
      subst (λ (o : Option (Stage Spot)). IfGoes (effect_if x c.number s.memory o (Some AtStep)) (turned_of x c.number s.memory o (Some AtStep))) (sym st.is)
      (pending_to s c.number of_.program st.stage (subst (IsStageIf code) st.is of_.stage) st.inside all st.most st.ends (pending (own_image code) st.most st.ends (thread_at x st.stage) ((linear code.funcs).here (thread_at x st.stage).top.at) stops))
  by_stop s c of_ Spent h =
      let x : Image Spot = image_of code s in
      subst (λ (o : Option (Stage Spot)). IfGoes (effect_if x c.number s.memory o (Some Spent)) (turned_of x c.number s.memory o (Some Spent))) (sym h.is)
      (λ _. rested_to x c.number s.memory h.at_stage (subst (IsStageIf code) h.is of_.stage) h.most h.turns h.stops)
  by_stop s c of_ NoRoom h =
      let x : Image Spot = image_of code s in
      subst (λ (o : Option (Stage Spot)). IfGoes (effect_if x c.number s.memory o (Some NoRoom)) (turned_of x c.number s.memory o (Some NoRoom))) (sym h.is)
      (λ not. absurd (not (ap goes (lacks code s c.number h.at_stage h.most h.turns h.stops).turned_)))

  pub stop_is : (stage : Option (Stage Spot)) (stop : Option Stop) → progress_of stage stop ≡ steps → (reason : Stop) × (stop ≡ Some reason)
  stop_is None stop e = absurd cc
  stop_is (Some stage) None e = absurd cc
  stop_is (Some stage) (Some reason) e = (reason, refl)

  pub goes_on : (s : Shared) (c : Context) → Lives (machine_of code) (IsSharedOf code) (IsContextOf code) s c → progress_of c.stage c.stop ≡ steps → (goes (acted_by code s c).turned ≡ away → ⊥) → Goes_on (machine_of code) (IsContextOf code) (acted_by code s c) c
  goes_on s c lives is not =
      let r = stop_is c.stage c.stop is in
      let x : Image Spot = image_of code s in
      goes_on_by s c lives.context (subst (λ (o : Option Stop). IfGoes (effect_if x c.number s.memory c.stage o) (turned_of x c.number s.memory c.stage o)) (sym r.1) (by_stop s c lives.context r.0 (lives.context.stopped r.0 r.1)) not)
