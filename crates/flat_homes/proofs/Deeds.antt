-- A turn behind which its thread goes on is a Look or a step, and the thread then stands behind it.
use Rattle.std.proofs.Common.{◌≡◌, ℕ, Option, Some, None, true, refl, sym, ap, subst, ◌∙◌, List}
use Rattle.struct_ir.specs.Flow.{Here, does, Flow}
use Rattle.struct_ir.specs.Instrs.{LinearCode}
use Rattle.struct_ir.specs.Linear.{Spot, linear}
use Rattle.struct_ir.specs.Nodes.{Act, Step, step, look, own_list}
use Rattle.struct_ir.specs.Lawful.{safepoint_list}
use Rattle.struct_ir.specs.Threads.{Thread, behind}
use Rattle.struct_ir.specs.Valid.{Scope, is_step}
use Rattle.struct_ir.specs.ValidCode.{code_scope_of, is_here}
use Rattle.flat_meaning.specs.declared.endings.Stop.{Stop}
use Rattle.flat_meaning.specs.declared.endings.Stop.TheVariants.{AtStep, Spent, NoRoom}
use Rattle.flat_meaning.specs.Accesses as actions
use Rattle.flat_meaning.specs.Effects as effects
use Rattle.flat_meaning.specs.Effects.{Effect, landing}
use Rattle.flat_meaning.specs.Image.{Image}
use Rattle.flat_meaning.specs.Local.{stop_before}
use Rattle.flat_meaning.specs.Memory.{Memory}
use Rattle.flat_meaning.specs.Stages.{Stage, starts, going, waiting, landed, thread_at, before_here}
use Rattle.flat_meaning.specs.Words.{Used, Words, set_if, with_temps}
use Rattle.flat_rules.specs.Events.{away, back, goes, on}
use Rattle.flat_rules.specs.Machine as turns
use Rattle.flat_threads.proofs.Threads.{here_fits, top_is}
use Rattle.flat_threads.specs.Belonging.{IsContextOf}
use Rattle.flat_threads.specs.Contexts.{Context, IsCallOf, IsInCall, IsProgram, IsThreadOf, own_image}
use Rattle.flat_machine.specs.Acting.{act_of, acted_by, effect_if}
use Rattle.flat_machine.specs.Shares.{Shared, image_of}
use Rattle.flat_machine.specs.Turns.{blocked_turned, fault_turned, outcome_turned, turned_of}
use Rattle.flat_machine.specs.lemmas.Goes.{Pending, looks_so, does_so, returns_so, pending}
use Rattle.flat_machine.specs.lemmas.Steps.{choice_at, done_at, last_call, leave_turned_is, look_effect_is, looked_at, outcome_at, stands, step_effect_is, step_turned_is}
use Rattle.struct_ir.specs.Looks.{is_look_or_step}
use Rattle.flat_homes.proofs.Fits.{step_is_fit}

back_not_on : (turned : turns.Turned) → goes turned ≡ back → goes turned ≡ on → ⊥
back_not_on turned b o = let bad : back ≡ on = sym b ∙ o in cc

away_not_on : (turned : turns.Turned) → goes turned ≡ away → goes turned ≡ on → ⊥
away_not_on turned a o = let bad : away ≡ on = sym a ∙ o in cc

blocked_back : (choice : actions.Choice) → goes (blocked_turned choice) ≡ back
blocked_back actions.plain = refl
blocked_back (actions.got id place) = refl
blocked_back actions.null = refl
blocked_back actions.wait = refl

fault_away : (f : actions.Fault) → goes (fault_turned f) ≡ away
fault_away (actions.trap word kind) = refl
fault_away actions.output_limit = refl

module _ (code : LinearCode) where
  abbrev C : Flow Spot
  C = linear code.funcs

  -- behind what stood there
  pub record IsPast (t : Thread Spot Words) (o : Option (Stage Spot)) : Type 0 where
    pub stage : Stage Spot
    pub is : o ≡ Some stage
    pub at : (thread_at (own_image code) stage).top.at ≡ C.next t.top.at true

  landing_top : (list : Option (List ℕ)) (q : Thread Spot Words) → thread_at (own_image code) (landing list q) ≡ q
  landing_top None q = refl
  landing_top (Some list) q = refl

  past_of : (t : Thread Spot Words) (list : Option (List ℕ)) (l : Words) → IsPast t (Some (landing list (record { top = behind C t.top l; callers = t.callers })))
  past_of t list l =
      let q : Thread Spot Words = record { top = behind C t.top l; callers = t.callers } in
      record { stage = landing list q; is = refl; at = ap (λ (r : Thread Spot Words). r.top.at) (landing_top list q) }

  -- ---- a step

  module _ (x : Image Spot) (n : ℕ) (m : Memory) (place : ℕ) (node : Step) (stage : Stage Spot) (t : Thread Spot Words) (flow : x.flow ≡ C) where
    outcome_past : (d : actions.Done) → (d ≡ actions.unfit → ⊥) → (l : Words)
        → goes (outcome_turned x n m (choice_at x n m place node l) (does place (step node)) (outcome_at x n m place node t d)) ≡ on
        → IsPast t (effects.effect_of_outcome n stage t (own_list node) m (outcome_at x n m place node t d)).stage
    outcome_past (actions.went None after) fit l e = subst (λ (F : Flow Spot). IsPast t (Some (landing (own_list node) (record { top = behind F t.top t.top.own; callers = t.callers })))) (sym flow) (past_of t (own_list node) t.top.own)
    outcome_past (actions.went (Some word) after) fit l e =
        let own : Words = with_temps t.top.own (set_if t.top.own.temps node.to word) in
        subst (λ (F : Flow Spot). IsPast t (Some (landing (own_list node) (record { top = behind F t.top own; callers = t.callers })))) (sym flow) (past_of t (own_list node) own)
    outcome_past actions.waits fit l e = absurd (back_not_on _ (blocked_back _) e)
    outcome_past actions.unfit fit l e = absurd (fit refl)
    outcome_past (actions.over f) fit l e = absurd (away_not_on _ (fault_away f) e)

  -- ---- a thread that goes on behind its turn

  -- it has stopped before a Look or a step, and stands behind it then
  pub record Deed (s : Shared) (c : Context) : Type 0 where
    pub stage : Stage Spot
    pub is : c.stage ≡ Some stage
    pub stop : c.stop ≡ Some AtStep
    pub place : ℕ
    pub act : Act
    pub here : C.here (thread_at (own_image code) stage).top.at ≡ does place act
    pub done : is_look_or_step act ≡ true
    pub none : safepoint_list act ≡ None
    pub past : IsPast (thread_at (own_image code) stage) (acted_by code s c).context.stage

  module _ (s : Shared) (n : ℕ) (program : IsProgram code) (stage : Stage Spot) (inside : IsInCall (Some stage)) (all : IsThreadOf code (thread_at (image_of code s) stage)) where
    abbrev x : Image Spot
    x = image_of code s

    abbrev m : Memory
    m = s.memory

    abbrev t : Thread Spot Words
    t = thread_at (image_of code s) stage

    -- where it goes on
    record Goes_so : Type 0 where
      place : ℕ
      act : Act
      here : C.here t.top.at ≡ does place act
      done : is_look_or_step act ≡ true
      none : safepoint_list act ≡ None
      past : IsPast t (effect_if x n m (Some stage) (Some AtStep)).stage

    look_so : (place slot base : ℕ) → C.here t.top.at ≡ does place (look slot base) → Goes_so
    look_so place slot base h = record {
      place = place;
      act = look slot base;
      here = h;
      done = refl;
      none = refl;
      past = record { stage = going (looked_at x n m place slot base t); is = ap (λ (e : Effect Spot). e.stage) (look_effect_is x n m place slot base stage inside h); at = refl };
    }

    step_so : (place : ℕ) (node : Step) → C.here t.top.at ≡ does place (step node) → goes (turned_of x n m (Some stage) (Some AtStep)) ≡ on → Goes_so
    step_so place node h e =
        let func : (below : Used) × IsCallOf code below t.top = top_is code t.top t.callers all in
        let scope : Scope = code_scope_of code func.1.function in
        let valid : is_step scope node ≡ true = subst (λ (k : Here). is_here scope k ≡ true) h (here_fits code program t.top.at func.1.function func.1.there) in
        let told = ap goes (sym (step_turned_is x n m place node stage inside h)) ∙ e in
        record {
          place = place;
          act = step node;
          here = h;
          done = refl;
          none = refl;
          past = subst (λ (f : Effect Spot). IsPast t f.stage) (sym (step_effect_is x n m place node stage inside h))
              (outcome_past x n m place node stage t refl (done_at x n m place node t.top.own) (step_is_fit x.layout n m t.top.own scope node valid) t.top.own told);
        }

    pending_so : (most ends : ℕ) → Pending (own_image code) most ends t (C.here t.top.at) → goes (turned_of x n m (Some stage) (Some AtStep)) ≡ on → Goes_so
    pending_so most ends (looks_so place slot base h) e = look_so place slot base h
    pending_so most ends (does_so place node h) e = step_so place node h e
    pending_so most ends (returns_so temp h stops) e = absurd (away_not_on _ (ap goes (leave_turned_is x n m temp stage inside h (last_call (own_image code) most ends t t.callers stops))) e)

  -- ---- by why it has stopped

  same_top : (s : Shared) (stage : Stage Spot) → thread_at (image_of code s) stage ≡ thread_at (own_image code) stage
  same_top s (starts function argument) = refl
  same_top s (going t) = refl
  same_top s (waiting t) = refl
  same_top s (landed list t) = refl

  at_step : (s : Shared) (c : Context) → IsContextOf code c → c.stop ≡ Some AtStep → goes (acted_by code s c).turned ≡ on → Deed s c
  at_step s c of_ is e =
      let st = stands code c of_ (of_.stopped AtStep is) in
      let x : Image Spot = image_of code s in
      let same : st.t ≡ thread_at x st.stage = st.t_is x in
      let own : st.t ≡ thread_at (own_image code) st.stage = st.t_is (own_image code) in
      let all : IsThreadOf code (thread_at x st.stage) = subst (IsThreadOf code) same st.thread in
      let stops = subst (λ (t : Thread Spot Words). stop_before (own_image code) st.most st.ends t (before_here t.callers (C.here t.top.at)) ≡ Some AtStep) same st.stops in
      let told : goes (turned_of x c.number s.memory (Some st.stage) (Some AtStep)) ≡ on =
      sym (ap (λ (o : Option (Stage Spot)). goes (turned_of x c.number s.memory o (Some AtStep))) st.is) ∙ (sym (ap (λ (o : Option Stop). goes (turned_of x c.number s.memory c.stage o)) is) ∙ e) in
      let g = pending_so s c.number of_.program st.stage st.inside all st.most st.ends (pending (own_image code) st.most st.ends (thread_at x st.stage) (C.here (thread_at x st.stage).top.at) stops) told in
      let to : thread_at x st.stage ≡ thread_at (own_image code) st.stage = sym same ∙ own in
      let effect : (act_of code s c).stage ≡ (effect_if x c.number s.memory (Some st.stage) (Some AtStep)).stage =
      ap (λ (o : Option (Stage Spot)). (effect_if x c.number s.memory o c.stop).stage) st.is ∙ ap (λ (o : Option Stop). (effect_if x c.number s.memory (Some st.stage) o).stage) is in
      record {
        stage = st.stage;
        is = st.is;
        stop = is;
        place = g.place;
        act = g.act;
        here = subst (λ (t : Thread Spot Words). C.here t.top.at ≡ does g.place g.act) to g.here;
        done = g.done;
        none = g.none;
        past = subst (λ (t : Thread Spot Words). IsPast t (act_of code s c).stage) to (subst (IsPast (thread_at x st.stage)) (sym effect) g.past);
      }

  turned_none : (s : Shared) (n : ℕ) (o : Option (Stage Spot)) → goes (turned_of (image_of code s) n s.memory o None) ≡ back
  turned_none s n None = refl
  turned_none s n (Some stage) = refl

  spent_back : (s : Shared) (n : ℕ) (o : Option (Stage Spot)) → goes (turned_of (image_of code s) n s.memory o (Some Spent)) ≡ back
  spent_back s n None = refl
  spent_back s n (Some stage) = refl

  lacks_room : (s : Shared) (n : ℕ) (o : Option (Stage Spot)) → goes (turned_of (image_of code s) n s.memory o (Some NoRoom)) ≡ on → ⊥
  lacks_room s n None e = cc
  lacks_room s n (Some stage) e = cc

  by_stop : (s : Shared) (c : Context) → IsContextOf code c → goes (acted_by code s c).turned ≡ on → (o : Option Stop) → c.stop ≡ o → goes (turned_of (image_of code s) c.number s.memory c.stage o) ≡ on → Deed s c
  by_stop s c of_ e None is told = absurd (back_not_on (turned_of (image_of code s) c.number s.memory c.stage None) (turned_none s c.number c.stage) told)
  by_stop s c of_ e (Some AtStep) is told = at_step s c of_ is e
  by_stop s c of_ e (Some Spent) is told = absurd (back_not_on (turned_of (image_of code s) c.number s.memory c.stage (Some Spent)) (spent_back s c.number c.stage) told)
  by_stop s c of_ e (Some NoRoom) is told = absurd (lacks_room s c.number c.stage told)

  pub deed_of : (s : Shared) (c : Context) → IsContextOf code c → goes (acted_by code s c).turned ≡ on → Deed s c
  deed_of s c of_ e = by_stop s c of_ e c.stop refl e
