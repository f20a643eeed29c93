-- What a step leaves of the threads: those that there were, and one more at most; and just the thread itself may have ended.
use Rattle.std.proofs.Common.{◌≡◌, ℕ, zero, suc, ◌<◌, ◌≤◌, Bool, true, false, ◌||◌, ◌&&◌, ◌==◌, List, [], ◌∷◌, ◌++◌, length, map, get_or, All, Option, Some, None, refl, ap, sym, ◌∙◌, subst, arith}
use Rattle.std.specs.Prelude.{slice_get, slice_set}
use Rattle.std.proofs.lemmas.Bool.{eqb-true, eqb-false}
use Rattle.std.proofs.lemmas.Option.{slice_get-get_or}
use Rattle.std.proofs.lemmas.List.{get_or-set_same, get_or-set_other, length-set, length-append, length-map}
use Rattle.std.proofs.lemmas.List.Elements.{All-append}
use Rattle.struct_ir.specs.Flow.{Here, does, returns}
use Rattle.struct_ir.specs.Instrs.{LinearCode, LinearFunc}
use Rattle.struct_ir.specs.Linear.{Spot, linear}
use Rattle.struct_ir.specs.Nodes.{Action, start, Step, step, look, own_list}
use Rattle.struct_ir.specs.Threads.{Thread}
use Rattle.struct_ir.specs.Valid.{has_params, is_action, is_step}
use Rattle.struct_ir.specs.ValidCode.{code_scope_of, is_here}
use Rattle.flat_meaning.specs.declared.endings.Stop.{Stop}
use Rattle.flat_meaning.specs.declared.endings.Stop.TheVariants.{AtStep, Spent, NoRoom}
use Rattle.flat_meaning.specs.Accesses as actions
use Rattle.flat_meaning.specs.Effects as effects
use Rattle.flat_meaning.specs.Effects.{Effect}
use Rattle.flat_meaning.specs.Image.{Image}
use Rattle.flat_meaning.specs.Local.{stop_before}
use Rattle.flat_meaning.specs.Memory.{Made, Memory, beginning, ended_if, with_result}
use Rattle.flat_meaning.specs.Ready.{has_ended}
use Rattle.flat_meaning.specs.Stages.{Stage, thread_at, before_here}
use Rattle.flat_meaning.specs.Words.{Words, target_of, word_at}
use Rattle.flat_meaning.specs.Machine.{given}
use Rattle.flat_rules.specs.Lawful.{Leaves, Lives, is_end}
use Rattle.flat_rules.specs.Machine as turns
use Rattle.flat_rules.specs.Machine.{steps}
use Rattle.flat_rules.specs.States.{most_threads}
use Rattle.flat_threads.proofs.Threads.{here_fits, top_is}
use Rattle.flat_threads.specs.Belonging.{HasStopped, IsContextOf}
use Rattle.flat_threads.specs.Contexts.{Context, IsInCall, IsThreadOf, own_image}
use Rattle.flat_machine.specs.Acting.{acted_by, effect_if}
use Rattle.flat_machine.specs.Machine.{machine_of, progress_of}
use Rattle.flat_machine.specs.Shares.{Shared, IsSharedOf, image_of}
use Rattle.flat_machine.specs.Turns.{blocked_turned, fault_turned, outcome_turned, turned_of}
use Rattle.flat_machine.specs.lemmas.Goes.{Pending, looks_so, does_so, returns_so, action_valid, pending, stop_is}
use Rattle.flat_machine.specs.lemmas.Outcomes.{AreThreads, same, one_more, done_on, threads_are, idle_behind}
use Rattle.flat_machine.specs.lemmas.Steps.{choice_at, done_at, lacks, last_call, leave_memory_is, leave_turned_is, look_effect_is, look_turned_is, outcome_at, stands, step_effect_is, step_turned_is}

-- ---- the threads

or_none : (b c d : Bool) → d ≡ false → b ≡ (b || (c && d))
or_none true c d e = refl
or_none false true d e = sym e
or_none false false d e = refl

or_ended : (b d : Bool) → d ≡ true → true ≡ (b || (true && d))
or_ended true d e = refl
or_ended false d e = sym e

or_other : (b d : Bool) → b ≡ (b || (false && d))
or_other true d = refl
or_other false d = refl

-- a thread that was made just now hasn't ended
ended_push : (ts : List Made) (function argument k : ℕ) → has_ended (slice_get (ts ++ beginning function argument ∷ []) k) ≡ has_ended (slice_get ts k)
ended_push [] function argument zero = refl
ended_push [] function argument (suc k) = refl
ended_push (t ∷ ts) function argument zero = refl
ended_push (t ∷ ts) function argument (suc k) = ended_push ts function argument k

set_here : (ts : List Made) (n : ℕ) (v : Made) → n < length ts → slice_get (slice_set ts n v) n ≡ Some v
set_here [] n v below = absurd (omega arith)
set_here (t ∷ ts) zero v below = refl
set_here (t ∷ ts) (suc n) v below = set_here ts n v (omega arith)

set_other : (ts : List Made) (n k : ℕ) (v : Made) → (k ≡ n → ⊥) → slice_get (slice_set ts n v) k ≡ slice_get ts k
set_other [] n k v other = refl
set_other (t ∷ ts) zero zero v other = absurd (other refl)
set_other (t ∷ ts) zero (suc k) v other = refl
set_other (t ∷ ts) (suc n) zero v other = refl
set_other (t ∷ ts) (suc n) (suc k) v other = set_other ts n k v (λ e. other (ap suc e))

all_set : (P : Made → Type 0) (ts : List Made) (n : ℕ) (v : Made) → All P ts → P v → All P (slice_set ts n v)
all_set P ts n v all here k d below = by (k == n) refl where
  by : (b : Bool) → (k == n) ≡ b → P (get_or (slice_set ts n v) k d)
  by true e =
      let at_n : k ≡ n = eqb-true k n e in
      let within : n < length ts = omega (arith, below, at_n, length-set ts n v) in
      subst P (sym (ap (λ j. get_or (slice_set ts n v) j d) at_n ∙ get_or-set_same ts n v d within)) here
  by false e = subst P (sym (get_or-set_other ts n k v d (eqb-false k n e))) (all k d (omega (arith, below, length-set ts n v)))

some_params : (xs : List ℕ) (n count : ℕ) → has_params (slice_get xs n) count ≡ true → n < length xs
some_params [] n count is = absurd cc
some_params (y ∷ xs) zero count is = omega arith
some_params (y ∷ xs) (suc n) count is = omega (arith, some_params xs n count is)

module _ (code : LinearCode) (s : Shared) (of_ : IsSharedOf code s) (n : ℕ) where
  -- those that there were, and one more at most; just this thread may have ended
  record LeavesTo (new : List Made) (turned : turns.Turned) : Type 0 where
    pub functions : All (λ (t : Made). t.function < length code.funcs) new
    pub more : length s.memory.threads ≤ length new
    pub most : length new ≤ most_threads
    pub ends : (k : ℕ) → has_ended (slice_get new k) ≡ (has_ended (slice_get s.memory.threads k) || ((k == n) && is_end turned))

  same_left : (new : List Made) (turned : turns.Turned) → new ≡ s.memory.threads → is_end turned ≡ false → LeavesTo new turned
  same_left new turned as_before on_ = subst (λ (ts : List Made). LeavesTo ts turned) (sym as_before) (record { functions = of_.functions; more = omega arith; most = of_.few; ends = λ k. or_none _ (k == n) _ on_ })

  more_left : (function argument : ℕ) (turned : turns.Turned) → length s.memory.threads < 64 → function < length code.funcs → is_end turned ≡ false → LeavesTo (s.memory.threads ++ beginning function argument ∷ []) turned
  more_left function argument turned few there on_ = record {
    functions = All-append (λ (t : Made). t.function < length code.funcs) s.memory.threads (beginning function argument ∷ []) of_.functions one;
    more = omega (arith, length-append s.memory.threads (beginning function argument ∷ []));
    most = omega (arith, few, length-append s.memory.threads (beginning function argument ∷ []));
    ends = λ k. ended_push s.memory.threads function argument k ∙ or_none _ (k == n) _ on_;
  } where
    one : (k : ℕ) (d : Made) → k < 1 → (get_or (beginning function argument ∷ []) k d).function < length code.funcs
    one zero d below = there
    one (suc k) d below = absurd (omega arith)

  abbrev old : Made
  old = get_or s.memory.threads n (beginning 0 0)

  ended_left : (word : ℕ) (turned : turns.Turned) → n < length s.memory.threads → is_end turned ≡ true → LeavesTo (ended_if s.memory.threads n word (slice_get s.memory.threads n)) turned
  ended_left word turned below is = subst (λ (ts : List Made). LeavesTo ts turned) (sym (ap (ended_if s.memory.threads n word) there)) (record {
    functions = all_set (λ (t : Made). t.function < length code.funcs) s.memory.threads n (with_result word old) of_.functions (of_.functions n (beginning 0 0) below);
    more = omega (arith, length-set s.memory.threads n (with_result word old));
    most = omega (arith, of_.few, length-set s.memory.threads n (with_result word old));
    ends = λ k. by k (k == n) refl;
  }) where
    there : slice_get s.memory.threads n ≡ Some old
    there = slice_get-get_or s.memory.threads n (beginning 0 0) below

    by : (k : ℕ) (b : Bool) → (k == n) ≡ b → has_ended (slice_get (slice_set s.memory.threads n (with_result word old)) k) ≡ (has_ended (slice_get s.memory.threads k) || ((k == n) && is_end turned))
    by k true e =
        ap (λ j. has_ended (slice_get (slice_set s.memory.threads n (with_result word old)) j)) (eqb-true k n e) ∙ ap has_ended (set_here s.memory.threads n (with_result word old) below)
        ∙ or_ended (has_ended (slice_get s.memory.threads k)) (is_end turned) is ∙ ap (λ b. has_ended (slice_get s.memory.threads k) || (b && is_end turned)) (sym e)
    by k false e =
        ap has_ended (set_other s.memory.threads n k (with_result word old) (eqb-false k n e)) ∙ or_other (has_ended (slice_get s.memory.threads k)) (is_end turned) ∙ ap (λ b. has_ended (slice_get s.memory.threads k) || (b && is_end turned)) (sym e)

  -- behind an action
  acted_left : (a : Action) (turned : turns.Turned) → ((function : ℕ) → a ≡ start function → function < length code.funcs) → is_end turned ≡ false → (new : List Made) → AreThreads a 64 s.memory.threads new → LeavesTo new turned
  acted_left a turned starts_there on_ _ same = same_left s.memory.threads turned refl on_
  acted_left a turned starts_there on_ _ (one_more function argument is few) = more_left function argument turned few (starts_there function is) on_

  fault_on : (f : actions.Fault) → is_end (fault_turned f) ≡ false
  fault_on (actions.trap word kind) = refl
  fault_on actions.output_limit = refl

  blocked_on : (choice : actions.Choice) → is_end (blocked_turned choice) ≡ false
  blocked_on actions.plain = refl
  blocked_on (actions.got id place) = refl
  blocked_on actions.null = refl
  blocked_on actions.wait = refl

  module _ (stage : Stage Spot) (inside : IsInCall (Some stage)) (all : IsThreadOf code (thread_at (image_of code s) stage)) where
    abbrev x : Image Spot
    x = image_of code s

    abbrev m : Memory
    m = s.memory

    abbrev t : Thread Spot Words
    t = thread_at (image_of code s) stage

    abbrev now : List Made
    now = (effect_if x n m (Some stage) (Some AtStep)).memory.threads

    abbrev turned_now : turns.Turned
    turned_now = turned_of x n m (Some stage) (Some AtStep)

    module _ (place : ℕ) (node : Step) (here_is : (linear code.funcs).here t.top.at ≡ does place (step node)) where
      abbrev choice : actions.Choice
      choice = choice_at x n m place node t.top.own

      starts_there : (function : ℕ) → node.action ≡ start function → function < length code.funcs
      starts_there function is =
          let call = (top_is code t.top t.callers all).1 in
          let scope = code_scope_of code call.function in
          let valid : is_step scope node ≡ true = subst (λ (h : Here). is_here scope h ≡ true) here_is (here_fits code of_.program t.top.at call.function call.there) in
          let may : is_action scope (start function) ≡ true = subst (λ (a : Action). is_action scope a ≡ true) is (action_valid code scope node valid) in
          omega (arith, some_params (map (λ (f : LinearFunc). f.params) code.funcs) function 1 may, length-map code.funcs (λ (f : LinearFunc). f.params))

      by_done_left : (d : actions.Done) → done_at x n m place node t.top.own ≡ d
          → LeavesTo (effects.effect_of_outcome n stage t (own_list node) m (outcome_at x n m place node t d)).memory.threads (outcome_turned x n m choice (does place (step node)) (outcome_at x n m place node t d))
      by_done_left (actions.went None after) e =
          acted_left node.action _ starts_there (done_on x m choice node.action).1 after.threads (threads_are x.layout n m choice node.action (map (target_of t.top.own) node.places) (map (word_at t.top.own) node.temps) None after e)
      by_done_left (actions.went (Some word) after) e =
          acted_left node.action _ starts_there (done_on x m choice node.action).1 after.threads (threads_are x.layout n m choice node.action (map (target_of t.top.own) node.places) (map (word_at t.top.own) node.temps) (Some word) after e)
      by_done_left actions.waits e = same_left m.threads _ refl (blocked_on choice)
      by_done_left actions.unfit e = same_left m.threads turns.stepped refl refl
      by_done_left (actions.over f) e = same_left m.threads _ refl (fault_on f)

      step_left : LeavesTo now turned_now
      step_left =
          let d = done_at x n m place node t.top.own in
          subst (λ (e : Effect Spot). LeavesTo e.memory.threads turned_now) (sym (step_effect_is x n m place node stage inside here_is))
          (subst (LeavesTo (effects.effect_of_outcome n stage t (own_list node) m (outcome_at x n m place node t d)).memory.threads) (sym (step_turned_is x n m place node stage inside here_is)) (by_done_left d refl))

      by_done_idle : (d : actions.Done) → done_at x n m place node t.top.own ≡ d → (effects.effect_of_outcome n stage t (own_list node) m (outcome_at x n m place node t d)).memory.leaving ≡ None
      by_done_idle (actions.went None after) e = idle_behind x.layout n m choice node.action (map (target_of t.top.own) node.places) (map (word_at t.top.own) node.temps) None after e of_.idle
      by_done_idle (actions.went (Some word) after) e = idle_behind x.layout n m choice node.action (map (target_of t.top.own) node.places) (map (word_at t.top.own) node.temps) (Some word) after e of_.idle
      by_done_idle actions.waits e = of_.idle
      by_done_idle actions.unfit e = of_.idle
      by_done_idle (actions.over f) e = of_.idle

      step_idle : (effect_if x n m (Some stage) (Some AtStep)).memory.leaving ≡ None
      step_idle = ap (λ (e : Effect Spot). e.memory.leaving) (step_effect_is x n m place node stage inside here_is) ∙ by_done_idle (done_at x n m place node t.top.own) refl

    look_left : (place slot base : ℕ) → (linear code.funcs).here t.top.at ≡ does place (look slot base) → LeavesTo now turned_now
    look_left place slot base here_is =
        same_left now turned_now (ap (λ (e : Effect Spot). e.memory.threads) (look_effect_is x n m place slot base stage inside here_is)) (ap is_end (look_turned_is x n m place slot base stage inside here_is))

    return_left : (temp : Option ℕ) → (linear code.funcs).here t.top.at ≡ returns temp → t.callers ≡ [] → n < length m.threads → LeavesTo now turned_now
    return_left temp here_is none below =
        subst (λ (after : Memory). LeavesTo after.threads turned_now) (sym (leave_memory_is x n m temp stage inside here_is none)) (ended_left (given t.top.own temp) turned_now below (ap is_end (leave_turned_is x n m temp stage inside here_is none)))

    pending_left : (most ends : ℕ) → n < length m.threads → Pending (own_image code) most ends t ((linear code.funcs).here t.top.at) → LeavesTo now turned_now
    pending_left most ends below (looks_so place slot base is) = look_left place slot base is
    pending_left most ends below (does_so place node is) = step_left place node is
    pending_left most ends below (returns_so temp is stops) = return_left temp is (last_call (own_image code) most ends t t.callers stops) below

    -- no barrier serves behind it
    pending_idle : (most ends : ℕ) → Pending (own_image code) most ends t ((linear code.funcs).here t.top.at) → (effect_if x n m (Some stage) (Some AtStep)).memory.leaving ≡ None
    pending_idle most ends (looks_so place slot base is) = ap (λ (e : Effect Spot). e.memory.leaving) (look_effect_is x n m place slot base stage inside is) ∙ of_.idle
    pending_idle most ends (does_so place node is) = step_idle place node is
    pending_idle most ends (returns_so temp is stops) = ap (λ (after : Memory). after.leaving) (leave_memory_is x n m temp stage inside is (last_call (own_image code) most ends t t.callers stops)) ∙ of_.idle

module _ (code : LinearCode) where
  left_idle : (s : Shared) (c : Context) → IsSharedOf code s → IsContextOf code c → (stop : Stop) → HasStopped (own_image code) c.stage stop → (effect_if (image_of code s) c.number s.memory c.stage (Some stop)).memory.leaving ≡ None
  left_idle s c shared of_ AtStep h =
      let st = stands code c of_ h in
      let x : Image Spot = image_of code s in
      let is_t : st.t ≡ thread_at x st.stage = st.t_is x in
      let all : IsThreadOf code (thread_at x st.stage) = subst (IsThreadOf code) is_t st.thread in
      let stops = subst (λ (t : Thread Spot Words). stop_before (own_image code) st.most st.ends t (before_here t.callers ((linear code.funcs).here t.top.at)) ≡ Some AtStep) is_t st.stops in
      ap (λ (o : Option (Stage Spot)). (effect_if x c.number s.memory o (Some AtStep)).memory.leaving) st.is
      ∙ pending_idle code s shared c.number st.stage st.inside all st.most st.ends (pending (own_image code) st.most st.ends (thread_at x st.stage) ((linear code.funcs).here (thread_at x st.stage).top.at) stops)
  left_idle s c shared of_ Spent h = ap (λ (o : Option (Stage Spot)). (effect_if (image_of code s) c.number s.memory o (Some Spent)).memory.leaving) h.is ∙ shared.idle
  left_idle s c shared of_ NoRoom h =
      ap (λ (o : Option (Stage Spot)). (effect_if (image_of code s) c.number s.memory o (Some NoRoom)).memory.leaving) h.is
      ∙ ap (λ (m : Memory). m.leaving) (lacks code s c.number h.at_stage h.most h.turns h.stops).memory ∙ shared.idle

  left_by : (s : Shared) (c : Context) → (shared : IsSharedOf code s) → IsContextOf code c → c.number < length s.memory.threads → (stop : Stop) → HasStopped (own_image code) c.stage stop
      → LeavesTo code s shared c.number (effect_if (image_of code s) c.number s.memory c.stage (Some stop)).memory.threads (turned_of (image_of code s) c.number s.memory c.stage (Some stop))
  left_by s c shared of_ made AtStep h =
      let st = stands code c of_ h in
      let x : Image Spot = image_of code s in
      let is_t : st.t ≡ thread_at x st.stage = st.t_is x in
      let all : IsThreadOf code (thread_at x st.stage) = subst (IsThreadOf code) is_t st.thread in
      let stops = subst (λ (t : Thread Spot Words). stop_before (own_image code) st.most st.ends t (before_here t.callers ((linear code.funcs).here t.top.at)) ≡ Some AtStep) is_t st.stops in
      subst (λ (o : Option (Stage Spot)). LeavesTo code s shared c.number (effect_if x c.number s.memory o (Some AtStep)).memory.threads (turned_of x c.number s.memory o (Some AtStep))) (sym st.is)
      (pending_left code s shared c.number st.stage st.inside all st.most st.ends made (pending (own_image code) st.most st.ends (thread_at x st.stage) ((linear code.funcs).here (thread_at x st.stage).top.at) stops))
  left_by s c shared of_ made Spent h =
      let x : Image Spot = image_of code s in
      subst (λ (o : Option (Stage Spot)). LeavesTo code s shared c.number (effect_if x c.number s.memory o (Some Spent)).memory.threads (turned_of x c.number s.memory o (Some Spent))) (sym h.is)
      (same_left code s shared c.number s.memory.threads turns.rested refl refl)
  left_by s c shared of_ made NoRoom h =
      let x : Image Spot = image_of code s in
      let stays = lacks code s c.number h.at_stage h.most h.turns h.stops in
      subst (λ (o : Option (Stage Spot)). LeavesTo code s shared c.number (effect_if x c.number s.memory o (Some NoRoom)).memory.threads (turned_of x c.number s.memory o (Some NoRoom))) (sym h.is)
      (same_left code s shared c.number _ _ (ap (λ (m : Memory). m.threads) stays.memory) (ap is_end stays.turned_))

  pub leaves : (s : Shared) (c : Context) → Lives (machine_of code) (IsSharedOf code) (IsContextOf code) s c → progress_of c.stage c.stop ≡ steps → length s.memory.threads ≤ most_threads → Leaves (machine_of code) (IsSharedOf code) s c.number (acted_by code s c)
  leaves s c lives is few =
      let r = stop_is code c.stage c.stop is in
      let x : Image Spot = image_of code s in
      let left = subst (λ (o : Option Stop). LeavesTo code s lives.shared c.number (effect_if x c.number s.memory c.stage o).memory.threads (turned_of x c.number s.memory c.stage o)) (sym r.1) (left_by s c lives.shared lives.context lives.made r.0 (lives.context.stopped r.0 r.1)) in
      record {
        of_ = record {
          program = lives.shared.program;
          some = omega (arith, left.more, lives.shared.some);
          few = left.most;
          functions = left.functions;
          idle = ap (λ (o : Option Stop). (effect_if x c.number s.memory c.stage o).memory.leaving) r.1 ∙ left_idle s c lives.shared lives.context r.0 (lives.context.stopped r.0 r.1);
        };
        more = left.more;
        most = left.most;
        ends = left.ends;
      }
