-- A thread's pending step as an event: what it leaves, and how its entry tells of it.
use Rattle.std.proofs.Common.{◌≡◌, ℕ, zero, suc, ◌<◌, ◌≤◌, ◌==◌, Bool, true, false, cond, List, [], ◌∷◌, ◌++◌, length, map, get_or, Option, Some, None, refl, sym, ap, ◌∙◌, subst, arith}
use Rattle.std.specs.Prelude.{slice_get, is_none, ◌&&◌, ◌||◌}
use Rattle.std.specs.List.{list_all}
use Rattle.std.proofs.lemmas.Bool.{and_parts, eqb-true}
use Rattle.std.proofs.lemmas.Bool.Decides.{nat_tests}
use Rattle.std.proofs.lemmas.List.{append-nil, length-append, length-map, length-set}
use Rattle.block_store.specs.Runs.{Pick, own_at}
use Rattle.block_store.specs.declared.values.Answer.TheVariants as answers
use Rattle.struct_ir.specs.Flow.{Here, does, returns}
use Rattle.struct_ir.specs.Instrs.{LinearCode}
use Rattle.struct_ir.specs.Linear.{Spot, linear}
use Rattle.struct_ir.specs.Nodes.{Action, load, store, copy_bytes, malloc, calloc, realloc, free, change, compare, print, lock, unlock, destroy, start, join, Step, step, look, own_list}
use Rattle.struct_ir.specs.Threads.{Thread, Outcome, went, ended, blocked, broke, left_call, stop_at}
use Rattle.struct_ir.specs.Valid.{Scope, are_below, counts_of, has_counts, is_action, is_below_if, is_own_list, is_place, is_step}
use Rattle.struct_ir.specs.ValidCode.{code_scope_of, is_here}
use Rattle.ak_trace.specs.declared.endings.End.TheVariants as endings
use Rattle.flat_meaning.specs.declared.endings.Stop.{Stop}
use Rattle.flat_meaning.specs.declared.endings.Stop.TheVariants.{AtStep, Spent, NoRoom}
use Rattle.flat_meaning.specs.Accesses as actions
use Rattle.flat_meaning.specs.Accesses.{Choice, Fault, plain, got, null, wait}
use Rattle.flat_meaning.specs.Actions.{may_start}
use Rattle.flat_meaning.specs.Effects as effects
use Rattle.flat_meaning.specs.Effects.{Effect, act_before, act_effect, exit_of, no_effect}
use Rattle.flat_meaning.specs.Events as events
use Rattle.flat_meaning.specs.Events.{MachineState, Event, act, stage_made}
use Rattle.flat_meaning.specs.Image.{Image}
use Rattle.flat_meaning.specs.Local.{no_room_if, spent_if, stop_before}
use Rattle.flat_meaning.specs.Local.{stop_at as stop_at_stage}
use Rattle.flat_meaning.specs.Machine.{given, words_machine, words_world}
use Rattle.flat_meaning.specs.Memory.{Made, Memory, beginning, ended_if, thread_ended, with_result}
use Rattle.flat_meaning.specs.Order.{Attempt, action_answer, act_picks, answer_here, attempts_of, made_answer, order_of, pick, pick_if, picks_of_act, tried_answer, tried_at, tried_before, tried_if}
use Rattle.flat_meaning.specs.Stages.{Before, Stage, before, before_here, before_return, calls, can_advance, going, landed, looks, nothing, room_for, safe, starts, steps, thread_at, turn_over, waiting}
use Rattle.flat_meaning.specs.Start.{chosen_id, ids_of}
use Rattle.flat_meaning.specs.Words.{Words, target_of, word_at}
use Rattle.flat_rules.specs.Events.{away, ends_with, goes}
use Rattle.flat_rules.specs.Machine as turns
use Rattle.flat_threads.proofs.Threads.{here_fits, top_is}
use Rattle.flat_threads.specs.Contexts.{IsInCall, IsProgram, IsStageOf, IsThreadOf, own_image}
use Rattle.flat_machine.specs.Acting.{choice_for, effect_if}
use Rattle.flat_machine.specs.Choices.{choice_here, malloc_choice}
use Rattle.flat_machine.specs.Laws.{event_before, events_of}
use Rattle.flat_machine.specs.Shares.{Shared, image_of}
use Rattle.flat_machine.specs.Turns.{blocked_turned, done_turned, malloc_turned, outcome_turned, start_turned, turned_of, value_of}
use Rattle.flat_machine.specs.lemmas.Goes.{Pending, looks_so, does_so, returns_so, pending}
use Rattle.flat_machine.specs.lemmas.Outcomes.{AreThreads, same, one_more, threads_are}
use Rattle.flat_machine.specs.lemmas.Steps.{choice_at, done_at, last_call, leave_effect_is, leave_turned_is, look_effect_is, look_turned_is, outcome_at, step_effect_is, step_turned_is}
use Rattle.flat_replay.specs.Attempts.{placed}
use Rattle.flat_replay.proofs.Doings.{GivesNone, SameHeaps, Sound, action_sound, gives_none, same_heaps}
use Rattle.flat_replay.proofs.Entries.{turned_ids, turned_picks, turned_tries}

-- ---- threads that were made

-- no thread is unmade, and each begins as it did
pub record KeptThreads (old new : List Made) : Type 0 where
  pub more : length old ≤ length new
  pub kept : (k : ℕ) (d : Made) → k < length old → stage_made {P = Spot} (get_or new k d) ≡ stage_made (get_or old k d)

pub same_threads : (ts : List Made) → KeptThreads ts ts
same_threads ts = record { more = omega arith; kept = λ k d below. refl }

get_or-front : (ts us : List Made) (k : ℕ) (d : Made) → k < length ts → get_or (ts ++ us) k d ≡ get_or ts k d
get_or-front [] us k d below = absurd (omega (arith, below))
get_or-front (t ∷ ts) us zero d below = refl
get_or-front (t ∷ ts) us (suc k) d below = get_or-front ts us k d (omega (arith, below))

more_threads : (ts : List Made) (t : Made) → KeptThreads ts (ts ++ t ∷ [])
more_threads ts t = record { more = omega (arith, length-append ts (t ∷ [])); kept = λ k d below. ap (stage_made {P = Spot}) (get_or-front ts (t ∷ []) k d below) }

ended_long : (ts : List Made) (n word : ℕ) (o : Option Made) → length (ended_if ts n word o) ≡ length ts
ended_long ts n word None = refl
ended_long ts n word (Some t) = length-set ts n (with_result word t)

ended_kept : (ts : List Made) (n word k : ℕ) (d : Made) → stage_made {P = Spot} (get_or (ended_if ts n word (slice_get ts n)) k d) ≡ stage_made (get_or ts k d)
ended_kept [] n word k d = refl
ended_kept (t ∷ ts) zero word zero d = refl
ended_kept (t ∷ ts) zero word (suc k) d = refl
ended_kept (t ∷ ts) (suc n) word zero d = by (slice_get ts n) where
  by : (o : Option Made) → stage_made {P = Spot} (get_or (ended_if (t ∷ ts) (suc n) word o) 0 d) ≡ stage_made t
  by None = refl
  by (Some u) = refl
ended_kept (t ∷ ts) (suc n) word (suc k) d = by (slice_get ts n) (ended_kept ts n word k d) where
  by : (o : Option Made) → stage_made {P = Spot} (get_or (ended_if ts n word o) k d) ≡ stage_made (get_or ts k d) → stage_made {P = Spot} (get_or (ended_if (t ∷ ts) (suc n) word o) (suc k) d) ≡ stage_made (get_or ts k d)
  by None h = h
  by (Some u) h = h

ended_threads : (ts : List Made) (n word : ℕ) → KeptThreads ts (ended_if ts n word (slice_get ts n))
ended_threads ts n word = record { more = omega (arith, ended_long ts n word (slice_get ts n)); kept = λ k d below. ended_kept ts n word k d }

kept_by : (a : Action) (limit : ℕ) (ts new : List Made) → AreThreads a limit ts new → KeptThreads ts new
kept_by a limit ts _ same = same_threads ts
kept_by a limit ts _ (one_more function argument is few) = more_threads ts (beginning function argument)

-- main's value, where thread 0 has ended
exit_or : (n : ℕ) (ts : List Made) (word : ℕ) → n < length ts
    → cond (n == 0) (exit_of (slice_get (ended_if ts n word (slice_get ts n)) 0)) None ≡ cond (n == 0) (Some (endings.Done (value_of (slice_get (ended_if ts n word (slice_get ts n)) n)))) None
exit_or n [] word below = absurd (omega (arith, below))
exit_or zero (t ∷ ts) word below = refl
exit_or (suc n) (t ∷ ts) word below =
    let other : (suc n == 0) ≡ false = grind (arith, nat_tests) in
    ap (λ (b : Bool). cond b (exit_of (slice_get (ended_if (t ∷ ts) (suc n) word (slice_get (t ∷ ts) (suc n))) 0)) None) other
    ∙ sym (ap (λ (b : Bool). cond b (Some (endings.Done (value_of (slice_get (ended_if (t ∷ ts) (suc n) word (slice_get (t ∷ ts) (suc n))) (suc n))))) None) other)

no_room : (b : Bool) → no_room_if b ≡ Some NoRoom → b ≡ false
no_room true e = absurd cc
no_room false e = refl

no_spent : (b : Bool) → spent_if b ≡ Some NoRoom → ⊥
no_spent true e = cc
no_spent false e = cc

-- ---- what is said of it

pub record TurnSays (x : Image Spot) (s : MachineState Spot) (n : ℕ) (es : List Event) (e : Effect Spot) (turned : turns.Turned) : Type 0 where
  pub end_ : e.end ≡ ends_with n turned
  pub gone : goes turned ≡ away → ends_with n turned ≡ None → e.stage ≡ None
  pub heaps : SameHeaps s.memory e.memory
  pub threads : KeptThreads s.memory.threads e.memory.threads
  pub order : order_of x es s ≡ turned_picks n turned
  pub attempts : (position : ℕ) → map placed (attempts_of x es position s) ≡ turned_tries n turned position
  pub ids : ids_of es ≡ turned_ids turned

-- attempts at a position
abbrev tries_at : (position : ℕ) → List Pick → List (ℕ × ℕ)
tries_at position ps = map placed (map (λ (p : Pick). record { turn = p; position = position }) ps)

-- the parts of it that its outcome tells
record Parts (x : Image Spot) (n : ℕ) (m : Memory) (c : Choice) (h : Here) (o : Outcome Spot Words Fault Memory) (e : Effect Spot) (turned : turns.Turned) : Type 0 where
  pub end_ : e.end ≡ ends_with n turned
  pub gone : goes turned ≡ away → ends_with n turned ≡ None → e.stage ≡ None
  pub heaps : SameHeaps m e.memory
  pub threads : KeptThreads m.threads e.memory.threads
  pub picks : pick_if n (answer_here x m c h) o ≡ turned_picks n turned
  pub tries : (position : ℕ) → tries_at position (tried_if n c h o) ≡ turned_tries n turned position
  pub ids : chosen_id c ≡ turned_ids turned

-- ---- a step that was done

module _ (x : Image Spot) (n : ℕ) (m : Memory) where
  record DoneSays (given : List ℕ) (answer : _) (turned : turns.Turned) : Type 0 where
    pub on_ : None ≡ ends_with n turned
    pub stays : goes turned ≡ away → ⊥
    pub picks : pick n answer ∷ [] ≡ turned_picks n turned
    pub tries : (position : ℕ) → [] ≡ turned_tries n turned position
    pub ids : given ≡ turned_ids turned

  stepped_says : (given : List ℕ) → given ≡ [] → DoneSays given answers.Plain turns.stepped
  stepped_says given none = record { on_ = refl; stays = λ e. cc; picks = refl; tries = λ position. refl; ids = none }

  malloc_says : (c : Choice) → DoneSays (chosen_id c) (action_answer x m c malloc) (malloc_turned c)
  malloc_says plain = record { on_ = refl; stays = λ e. cc; picks = refl; tries = λ position. refl; ids = refl }
  malloc_says (got id place) = record { on_ = refl; stays = λ e. cc; picks = refl; tries = λ position. refl; ids = refl }
  malloc_says null = record { on_ = refl; stays = λ e. cc; picks = refl; tries = λ position. refl; ids = refl }
  malloc_says wait = record { on_ = refl; stays = λ e. cc; picks = refl; tries = λ position. refl; ids = refl }

  start_says : (given : List ℕ) → given ≡ [] → (b : Bool) (made : ℕ) → DoneSays given (made_answer b) (start_turned b made)
  start_says given none true made = record { on_ = refl; stays = λ e. cc; picks = refl; tries = λ position. refl; ids = none }
  start_says given none false made = record { on_ = refl; stays = λ e. cc; picks = refl; tries = λ position. refl; ids = none }

  done_says : (c : Choice) (a : Action) → GivesNone c a → DoneSays (chosen_id c) (action_answer x m c a) (done_turned x m c a)
  done_says c (load how) none = stepped_says (chosen_id c) none
  done_says c (store how) none = stepped_says (chosen_id c) none
  done_says c (copy_bytes align eq) none = stepped_says (chosen_id c) none
  done_says c malloc none = malloc_says c
  done_says c calloc none = malloc_says c
  done_says c realloc none = malloc_says c
  done_says c free none = stepped_says (chosen_id c) none
  done_says c (change how t) none = stepped_says (chosen_id c) none
  done_says c (compare t) none = stepped_says (chosen_id c) none
  done_says c (print pieces) none = stepped_says (chosen_id c) none
  done_says c lock none = stepped_says (chosen_id c) none
  done_says c unlock none = stepped_says (chosen_id c) none
  done_says c destroy none = stepped_says (chosen_id c) none
  done_says c (start function) none = start_says (chosen_id c) none (may_start x.layout.limits.threads m) (length m.threads)
  done_says c join none = stepped_says (chosen_id c) none

  none_tried : (c : Choice) (h : Here) (t : Thread Spot Words) (after : Memory) → tried_if n c h (went t after) ≡ []
  none_tried plain h t after = refl
  none_tried (got id place) h t after = refl
  none_tried null h t after = refl
  none_tried wait h t after = refl

  none_tried_end : (c : Choice) (h : Here) (l : Words) (after : Memory) → tried_if {P = Spot} n c h (ended l after) ≡ []
  none_tried_end plain h l after = refl
  none_tried_end (got id place) h l after = refl
  none_tried_end null h l after = refl
  none_tried_end wait h l after = refl

  module _ (stage : Stage Spot) (t : Thread Spot Words) (place : ℕ) (node : Step) (c : Choice) where
    abbrev h : Here
    h = does place (step node)

    abbrev PartsOf : Outcome Spot Words Fault Memory → Type 0
    PartsOf o = Parts x n m c h o (effects.effect_of_outcome n stage t (own_list node) m o) (outcome_turned x n m c h o)

    went_parts : GivesNone c node.action → (q : Thread Spot Words) (after : Memory) → SameHeaps m after → KeptThreads m.threads after.threads → PartsOf (went q after)
    went_parts none q after heaps threads =
        let says = done_says c node.action none in
        record {
          end_ = says.on_;
          gone = λ e f. absurd (says.stays e);
          heaps = heaps;
          threads = threads;
          picks = says.picks;
          tries = λ position. ap (tries_at position) (none_tried c h q after) ∙ says.tries position;
          ids = says.ids;
        }

    blocked_parts : (d : Choice) → chosen_id d ≡ [] → Parts x n m d h blocked (no_effect m (waiting t)) (blocked_turned d)
    blocked_parts plain none = record { end_ = refl; gone = λ e f. absurd cc; heaps = same_heaps m; threads = same_threads m.threads; picks = refl; tries = λ position. refl; ids = refl }
    blocked_parts (got id at) none = absurd cc
    blocked_parts null none = record { end_ = refl; gone = λ e f. absurd cc; heaps = same_heaps m; threads = same_threads m.threads; picks = refl; tries = λ position. refl; ids = refl }
    blocked_parts wait none = record { end_ = refl; gone = λ e f. absurd cc; heaps = same_heaps m; threads = same_threads m.threads; picks = refl; tries = λ position. refl; ids = refl }

    tried_fault : (d : Choice) (f : Fault) → (d ≡ wait → ⊥) → tried_if {P = Spot} n d h (broke f) ≡ pick n (tried_answer h) ∷ []
    tried_fault plain f goes_on = refl
    tried_fault (got id at) f goes_on = refl
    tried_fault null f goes_on = refl
    tried_fault wait f goes_on = absurd (goes_on refl)

    broke_parts : (f : Fault) → (chosen_id c ≡ []) × (c ≡ wait → ⊥) → PartsOf (broke f)
    broke_parts (actions.trap word kind) is =
        record { end_ = refl; gone = λ e f. absurd cc; heaps = same_heaps m; threads = same_threads m.threads; picks = refl; tries = λ position. ap (tries_at position) (tried_fault c (actions.trap word kind) is.1); ids = is.0 }
    broke_parts actions.output_limit is =
        record { end_ = refl; gone = λ e f. absurd cc; heaps = same_heaps m; threads = same_threads m.threads; picks = refl; tries = λ position. ap (tries_at position) (tried_fault c actions.output_limit is.1); ids = is.0 }

    by_done : GivesNone c node.action → (d : actions.Done) → Sound c m d → ((word : Option ℕ) (after : Memory) → d ≡ actions.went word after → KeptThreads m.threads after.threads) → PartsOf (outcome_at x n m place node t d)
    by_done none (actions.went None after) sound threads = went_parts none _ after sound (threads None after refl)
    by_done none (actions.went (Some word) after) sound threads = went_parts none _ after sound (threads (Some word) after refl)
    by_done none actions.waits sound threads = blocked_parts c sound
    by_done none actions.unfit sound threads = absurd sound
    by_done none (actions.over f) sound threads = broke_parts f sound

-- ---- in a call

module _ (x : Image Spot) (n : ℕ) (m : Memory) (c : Choice) where
  picks_in : (stage : Stage Spot) → IsInCall (Some stage) → picks_of_act x m n c (Some stage) ≡ act_picks x m n c (thread_at x stage) (before x (thread_at x stage))
  picks_in (starts function argument) call = absurd call
  picks_in (going t) call = refl
  picks_in (waiting t) call = refl
  picks_in (landed list t) call = refl

  tries_in : (stage : Stage Spot) → IsInCall (Some stage) → tried_at x m n c (Some stage) ≡ tried_before x m n c (thread_at x stage) (before x (thread_at x stage))
  tries_in (starts function argument) call = absurd call
  tries_in (going t) call = refl
  tries_in (waiting t) call = refl
  tries_in (landed list t) call = refl

  effect_in : (stage : Stage Spot) → IsInCall (Some stage) → act_effect x n c stage m ≡ act_before x n c stage (thread_at x stage) m (before x (thread_at x stage))
  effect_in (starts function argument) call = absurd call
  effect_in (going t) call = refl
  effect_in (waiting t) call = refl
  effect_in (landed list t) call = refl

module _ (code : LinearCode) (program : IsProgram code) (sh : Shared) (os : List (Option (Stage Spot))) (n : ℕ) (stage : Stage Spot) (own : own_at os n ≡ Some stage) where
  abbrev x : Image Spot
  x = image_of code sh

  abbrev m : Memory
  m = sh.memory

  abbrev s : MachineState Spot
  s = record { memory = sh.memory; own = os; end = None }

  abbrev t : Thread Spot Words
  t = thread_at (image_of code sh) stage

  abbrev Says : Stop → Type 0
  Says stop = TurnSays x s n (events_of x n m stage stop) (effect_if x n m (Some stage) (Some stop)) (turned_of x n m (Some stage) (Some stop))

  -- ---- no step

  spent_says : Says Spent
  spent_says = record { end_ = refl; gone = λ e f. absurd cc; heaps = same_heaps m; threads = same_threads m.threads; order = refl; attempts = λ position. refl; ids = refl }

  module _ (inside : IsInCall (Some stage)) where
    act_order : (c : Choice) (b : Before) → before x t ≡ b → order_of x (act n c ∷ []) s ≡ act_picks x m n c t b
    act_order c b is = append-nil (picks_of_act x m n c (own_at os n)) ∙ ap (picks_of_act x m n c) own ∙ picks_in x n m c stage inside ∙ ap (act_picks x m n c t) is

    act_tries : (c : Choice) (b : Before) → before x t ≡ b → (position : ℕ) → map placed (attempts_of x (act n c ∷ []) position s) ≡ tries_at position (tried_before x m n c t b)
    act_tries c b is position =
        let here : List Attempt = map (λ (p : Pick). record { turn = p; position = position }) (tried_at x m n c (own_at os n)) in
        ap (map placed) (append-nil here) ∙ ap (λ o. tries_at position (tried_at x m n c o)) own ∙ ap (tries_at position) (tries_in x n m c stage inside ∙ ap (tried_before x m n c t) is)

    -- ---- a Look

    look_says : (place slot base : ℕ) → (linear code.funcs).here t.top.at ≡ does place (look slot base) → Says AtStep
    look_says place slot base here_is =
        let e = look_effect_is x n m place slot base stage inside here_is in
        let u = look_turned_is x n m place slot base stage inside here_is in
        let es : events_of x n m stage AtStep ≡ events.look n ∷ [] = ap (λ (h : Here). event_before n (choice_for x m stage) AtStep (before_here t.callers h)) here_is in
        subst (λ (es : List Event). TurnSays x s n es (effect_if x n m (Some stage) (Some AtStep)) (turned_of x n m (Some stage) (Some AtStep))) (sym es)
        (subst (λ (e : Effect Spot). TurnSays x s n (events.look n ∷ []) e (turned_of x n m (Some stage) (Some AtStep))) (sym e)
        (subst (TurnSays x s n (events.look n ∷ []) _) (sym u)
        (record { end_ = refl; gone = λ e f. absurd cc; heaps = same_heaps m; threads = same_threads m.threads; order = refl; attempts = λ position. refl; ids = refl })))

    -- ---- a step

    abbrev outcome_here : Choice → Here → Outcome Spot Words Fault Memory
    outcome_here c h = stop_at x.flow (words_machine x.layout n) (words_world x.layout n) x.start c t m h

    from_parts : (c : Choice) (h : Here) (e : Effect Spot) (turned : turns.Turned) → (linear code.funcs).here t.top.at ≡ h → before_here t.callers h ≡ steps → choice_here (malloc_choice m.storage) t.top.own h ≡ c
        → effect_if x n m (Some stage) (Some AtStep) ≡ e → turned_of x n m (Some stage) (Some AtStep) ≡ turned → Parts x n m c h (outcome_here c h) e turned → Says AtStep
    from_parts c h e turned here_is step_is chosen e_is u_is parts =
        let before_is : before x t ≡ steps = ap (before_here t.callers) here_is ∙ step_is in
        let choice_is : choice_for x m stage ≡ c = ap (choice_here (malloc_choice m.storage) t.top.own) here_is ∙ chosen in
        let es : events_of x n m stage AtStep ≡ act n c ∷ [] = ap (event_before n (choice_for x m stage) AtStep) before_is ∙ ap (λ (c : Choice). act n c ∷ []) choice_is in
        subst (λ (es : List Event). TurnSays x s n es (effect_if x n m (Some stage) (Some AtStep)) (turned_of x n m (Some stage) (Some AtStep))) (sym es)
        (subst (λ (e : Effect Spot). TurnSays x s n (act n c ∷ []) e (turned_of x n m (Some stage) (Some AtStep))) (sym e_is)
        (subst (TurnSays x s n (act n c ∷ []) e) (sym u_is)
        (record {
          end_ = parts.end_;
          gone = parts.gone;
          heaps = parts.heaps;
          threads = parts.threads;
          order = act_order c steps before_is ∙ ap (λ (h : Here). pick_if n (answer_here x m c h) (outcome_here c h)) here_is ∙ parts.picks;
          attempts = λ position. act_tries c steps before_is position ∙ ap (λ (h : Here). tries_at position (tried_if n c h (outcome_here c h))) here_is ∙ parts.tries position;
          ids = append-nil (chosen_id c) ∙ parts.ids;
        })))

    module _ (all : IsThreadOf code (thread_at (image_of code sh) stage)) where
      pub step_says : (place : ℕ) (node : Step) → (linear code.funcs).here t.top.at ≡ does place (step node) → Says AtStep
      step_says place node here_is =
          let func = top_is code t.top t.callers all in
          let scope : Scope = code_scope_of code func.1.function in
          let valid : is_step scope node ≡ true = subst (λ (h : Here). is_here scope h ≡ true) here_is (here_fits code program t.top.at func.1.function func.1.there) in
          let p = and_parts (list_all (is_place scope) node.places && (are_below scope.temps node.temps && is_below_if scope.temps node.to)) (has_counts (counts_of node.action) node && (is_action scope node.action && is_own_list scope node.action node.slots)) valid in
          let q = and_parts (has_counts (counts_of node.action) node) (is_action scope node.action && is_own_list scope node.action node.slots) p.1 in
          let r = and_parts (length node.places == (counts_of node.action).places) ((length node.temps == (counts_of node.action).temps) && ((counts_of node.action).gives || is_none node.to)) q.0 in
          let u = and_parts (length node.temps == (counts_of node.action).temps) ((counts_of node.action).gives || is_none node.to) r.1 in
          let places : length (map (target_of t.top.own) node.places) ≡ (counts_of node.action).places = length-map node.places (target_of t.top.own) ∙ eqb-true (length node.places) (counts_of node.action).places r.0 in
          let temps : length node.temps ≡ (counts_of node.action).temps = eqb-true (length node.temps) (counts_of node.action).temps u.0 in
          let c : Choice = choice_at x n m place node t.top.own in
          let sound : Sound c m (done_at x n m place node t.top.own) = action_sound m x.layout n t.top.own node.action (map (target_of t.top.own) node.places) node.temps places temps in
          from_parts c (does place (step node)) _ _ here_is refl refl (step_effect_is x n m place node stage inside here_is) (step_turned_is x n m place node stage inside here_is)
          (by_done x n m stage t place node c (gives_none (malloc_choice m.storage) t.top.own node.action node.temps) (done_at x n m place node t.top.own) sound
          (λ word after e. kept_by node.action _ m.threads after.threads (threads_are x.layout n m c node.action (map (target_of t.top.own) node.places) (map (word_at t.top.own) node.temps) word after e)))

      -- ---- the return of its first function

      return_says : (temp : Option ℕ) → (linear code.funcs).here t.top.at ≡ returns temp → t.callers ≡ [] → n < length m.threads → Says AtStep
      return_says temp here_is none below =
          let word : ℕ = given t.top.own temp in
          let outcome : ended t.top.own (thread_ended m n word) ≡ outcome_here plain (returns temp) = sym (ap (λ callers. left_call x.flow (words_world x.layout n) plain t.top.own temp m callers) none) in
          from_parts plain (returns temp) _ _ here_is (ap before_return none) refl (leave_effect_is x n m temp stage inside here_is none) (leave_turned_is x n m temp stage inside here_is none)
          (subst (λ (o : Outcome Spot Words Fault Memory). Parts x n m plain (returns temp) o (effects.effect_of_outcome n stage t None m (ended t.top.own (thread_ended m n word))) (turns.ended (value_of (slice_get (thread_ended m n word).threads n)))) outcome
          (record {
            end_ = exit_or n m.threads word below;
            gone = λ e f. refl;
            heaps = record { count = refl; size = refl; most = refl };
            threads = ended_threads m.threads n word;
            picks = refl;
            tries = λ position. refl;
            ids = refl;
          }))

      pending_says : (most ends : ℕ) → n < length m.threads → Pending (own_image code) most ends t ((linear code.funcs).here t.top.at) → Says AtStep
      pending_says most ends below (looks_so place slot base is) = look_says place slot base is
      pending_says most ends below (does_so place node is) = step_says place node is
      pending_says most ends below (returns_so temp is stops) = return_says temp is (last_call (own_image code) most ends t t.callers stops) below

    -- ---- a call without room

    lacks_room : (b : Before) → before x t ≡ b → (most ends : ℕ) → stop_before (own_image code) most ends t b ≡ Some NoRoom → Says NoRoom
    lacks_room safe before_is most ends e = absurd (no_spent _ e)
    lacks_room looks before_is most ends e = absurd cc
    lacks_room steps before_is most ends e = absurd cc
    lacks_room (calls function) before_is most ends e =
        let full : room_for x t function ≡ false = no_room (room_for x t function) e in
        let c : Choice = choice_for x m stage in
        let effect : act_effect x n c stage m ≡ effects.ends_run m stage (endings.StackLimit n) =
        effect_in x n m c stage inside ∙ ap (act_before x n c stage t m) before_is ∙ ap (λ (b : Bool). cond b (no_effect m stage) (effects.ends_run m stage (endings.StackLimit n))) full in
        subst (λ (e : Effect Spot). TurnSays x s n (act n plain ∷ []) e turns.lacked_stack) (sym effect)
        (record {
          end_ = refl;
          gone = λ e f. absurd cc;
          heaps = same_heaps m;
          threads = same_threads m.threads;
          order = act_order plain (calls function) before_is;
          attempts = λ position. act_tries plain (calls function) before_is position ∙ ap (λ (b : Bool). tries_at position (cond b [] (pick n answers.Plain ∷ []))) full;
          ids = refl;
        })
    lacks_room turn_over before_is most ends e = absurd cc
    lacks_room nothing before_is most ends e = absurd cc

module _ (code : LinearCode) (program : IsProgram code) (sh : Shared) (os : List (Option (Stage Spot))) (n : ℕ) (function argument : ℕ) (own : own_at os n ≡ Some (starts function argument)) where
  -- its first function has no room
  lacks_start : (most ends : ℕ) → stop_at_stage (own_image code) most ends (starts function argument) ≡ Some NoRoom → Says code program sh os n (starts function argument) own NoRoom
  lacks_start most ends e =
      let x : Image Spot = image_of code sh in
      let m : Memory = sh.memory in
      let stage : Stage Spot = starts function argument in
      let full : can_advance x stage ≡ false = no_room (can_advance x stage) e in
      let effect : cond (can_advance x stage) (no_effect m stage) (effects.ends_run m stage (endings.StackLimit n)) ≡ effects.ends_run m stage (endings.StackLimit n) = ap (λ (b : Bool). cond b (no_effect m stage) (effects.ends_run m stage (endings.StackLimit n))) full in
      subst (λ (e : Effect Spot). TurnSays x (record { memory = m; own = os; end = None }) n (act n plain ∷ []) e turns.lacked_stack) (sym effect)
      (record {
        end_ = refl;
        gone = λ e f. absurd cc;
        heaps = same_heaps m;
        threads = same_threads m.threads;
        order = append-nil (picks_of_act x m n plain (own_at os n)) ∙ ap (picks_of_act x m n plain) own;
        attempts = λ position.
            ap (map placed) (append-nil (map (λ (p : Pick). record { turn = p; position = position }) (tried_at x m n plain (own_at os n))))
            ∙ ap (λ o. tries_at position (tried_at x m n plain o)) own ∙ ap (λ (b : Bool). tries_at position (cond b [] (pick n answers.Plain ∷ []))) full;
        ids = refl;
      })

-- ---- whatever the thread stands before

no_at_step : (b : Bool) → no_room_if b ≡ Some AtStep → ⊥
no_at_step true e = cc
no_at_step false e = cc

pub turn_says : (code : LinearCode) (program : IsProgram code) (sh : Shared) (os : List (Option (Stage Spot))) (n : ℕ) (stage : Stage Spot) (own : own_at os n ≡ Some stage) → IsStageOf code stage → n < length sh.memory.threads
    → (stop : Stop) (most ends : ℕ) → stop_at_stage (own_image code) most ends stage ≡ Some stop
    → TurnSays (image_of code sh) (record { memory = sh.memory; own = os; end = None }) n (events_of (image_of code sh) n sh.memory stage stop) (effect_if (image_of code sh) n sh.memory (Some stage) (Some stop)) (turned_of (image_of code sh) n sh.memory (Some stage) (Some stop))
turn_says code program sh os n stage own is below Spent most ends e = spent_says code program sh os n stage own
turn_says code program sh os n (starts function argument) own is below AtStep most ends e = absurd (no_at_step _ e)
turn_says code program sh os n (going t) own is below AtStep most ends e = pending_says code program sh os n (going t) own tt is most ends below (pending (own_image code) most ends t ((linear code.funcs).here t.top.at) e)
turn_says code program sh os n (waiting t) own is below AtStep most ends e = pending_says code program sh os n (waiting t) own tt is most ends below (pending (own_image code) most ends t ((linear code.funcs).here t.top.at) e)
turn_says code program sh os n (landed list t) own is below AtStep most ends e = pending_says code program sh os n (landed list t) own tt is.0 most ends below (pending (own_image code) most ends t ((linear code.funcs).here t.top.at) e)
turn_says code program sh os n (starts function argument) own is below NoRoom most ends e = lacks_start code program sh os n function argument own most ends e
turn_says code program sh os n (going t) own is below NoRoom most ends e = lacks_room code program sh os n (going t) own tt (before (own_image code) t) refl most ends e
turn_says code program sh os n (waiting t) own is below NoRoom most ends e = lacks_room code program sh os n (waiting t) own tt (before (own_image code) t) refl most ends e
turn_says code program sh os n (landed list t) own is below NoRoom most ends e = lacks_room code program sh os n (landed list t) own tt (before (own_image code) t) refl most ends e
