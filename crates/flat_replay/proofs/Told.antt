-- A journal is of events: each of its events goes on where the events so far lead to.
use Rattle.std.proofs.Common.{◌≡◌, ◌≢◌, ℕ, zero, suc, ◌+◌, ◌<◌, ◌≤◌, true, false, List, [], ◌∷◌, ◌++◌, length, map, replicate, set, get_or, Option, Some, None, refl, sym, ap, ◌∙◌, subst, arith}
use Rattle.std.specs.Prelude.{IsSome, drop, slice_get}
use Rattle.std.proofs.lemmas.List.{get_or-set_other, length-map, length-replicate, length-set}
use Rattle.ak_trace.specs.declared.entry.Entry.{Entry}
use Rattle.block_store.specs.Runs.{Pick, own_at}
use Rattle.block_store.specs.declared.values.Answer.TheVariants as answers
use Rattle.struct_ir.specs.Instrs.{LinearCode}
use Rattle.struct_ir.specs.Linear.{Spot}
use Rattle.ak_trace.specs.declared.endings.End.{End}
use Rattle.flat_meaning.specs.declared.endings.Stop.{Stop}
use Rattle.flat_meaning.specs.Effects.{Effect}
use Rattle.flat_meaning.specs.Events as events
use Rattle.flat_meaning.specs.Events.{end_or, first_state, new_stages, put, stage_made}
use Rattle.flat_meaning.specs.Image.{Image, Limits, limits_for, linear_image}
use Rattle.flat_meaning.specs.Journals.{journal_picks}
use Rattle.flat_meaning.specs.Local.{stop_at}
use Rattle.flat_meaning.specs.Memory.{Made, Memory}
use Rattle.flat_meaning.specs.Order.{pick}
use Rattle.flat_meaning.specs.Ready.{has_ended}
use Rattle.flat_meaning.specs.Stages.{Stage}
use Rattle.flat_rules.specs.Entries.{turn_entry}
use Rattle.flat_rules.specs.Events.{Goes, on, back, away, ends_with, goes, turn_event, turned_by}
use Rattle.flat_rules.specs.Lawful.{Lives}
use Rattle.flat_rules.specs.Machine.{Turned}
use Rattle.flat_rules.specs.Rules.{Rules}
use Rattle.flat_rules.specs.States.{Place, unbegun, home, out, gone, RunState, Mood, place_at}
use Rattle.flat_threads.specs.Belonging.{HasStopped, IsContextOf}
use Rattle.flat_threads.specs.Contexts.{Context, IsProgram, own_image}
use Rattle.flat_threads.specs.Waits.{waits_at}
use Rattle.flat_threads.specs.declared.wait.Wait.{Wait}
use Rattle.world_rules.proofs.Sits.{SitsAt}
use Rattle.flat_machine.specs.Acting.{acted_by, effect_if}
use Rattle.flat_machine.specs.Laws.{IsTheEvent, events_of}
use Rattle.flat_machine.specs.Machine.{machine_of}
use Rattle.flat_machine.specs.Shares.{Shared, IsSharedOf, image_of, limits_of}
use Rattle.flat_machine.specs.Sweeping.{stage_home, stages_home}
use Rattle.flat_machine.specs.Turns.{turned_of}
use Rattle.flat_machine.specs.lemmas.Homes.{length-stages_home, own_at_set}
use Rattle.flat_machine.specs.lemmas.Lawful.{blank_stage, works_stage}
use Rattle.flat_machine.specs.lemmas.MachineIsFlat.{machine_is_flat}
use Rattle.flat_machine.proofs.ActEvents.{act_is_its_event}
use Rattle.flat_replay.specs.Attempts.{attempts_from}
use Rattle.flat_replay.specs.Ids.{ids_told}
use Rattle.flat_replay.specs.Journals.{context_in, stages_in}
use Rattle.flat_replay.proofs.Doings.{SameHeaps}
use Rattle.flat_replay.proofs.Entries.{attempts-append, ids-append, length-picks, picks-append, turn_attempts, turn_ids, turn_picks, turned_ids, turned_picks, turned_tries}
use Rattle.flat_replay.proofs.LocalTurns.{GoesAlone, set_twice}
use Rattle.flat_replay.proofs.Segments.{Comes, joins}
use Rattle.flat_replay.proofs.Stages.{IsBlank, context_at, map-set, stages_more, stages_set}
use Rattle.flat_threads.proofs.Settings.{same_stop}
use Rattle.flat_replay.proofs.Turned.{TurnSays, turn_says}

-- ---- what a journal has told so far

-- a state of the machine stands for one of the replay
pub record StandsIn (st : events.MachineState Spot) (x : RunState Shared Context) : Type 0 where
  pub memory : st.memory ≡ x.shared.memory
  pub ending : st.end ≡ x.ending
  pub stages : x.ending ≡ None → st.own ≡ stages_in x

-- the state of the machine in which each thread is where its context says
abbrev pub standing_in : RunState Shared Context → events.MachineState Spot
standing_in x = record { memory = x.shared.memory; own = stages_in x; end = None }

module _ (code : LinearCode) where
  -- these entries are of events from one state of the replay to another
  pub record Goes_on (x y : RunState Shared Context) (es : List Entry) : Type 0 where
    pub state : events.MachineState Spot
    pub picks : List Pick
    pub tries : ℕ → List (ℕ × ℕ)
    pub given : List ℕ
    pub comes : Comes (image_of code x.shared) (standing_in x) state picks tries given
    pub order : picks ≡ journal_picks es
    pub attempts : (turns : ℕ) → tries turns ≡ attempts_from turns es
    pub ids : given ≡ ids_told es
    pub stands : StandsIn state y
    pub same : limits_of y.shared ≡ limits_of x.shared

module _ (code : LinearCode) (limits : Limits) where
  abbrev pub loaded : Image Spot
  loaded = linear_image code limits

  -- the events from the start on
  pub record Told (log : List Entry) (x : RunState Shared Context) : Type 0 where
    pub state : events.MachineState Spot
    pub comes : Comes loaded (first_state loaded) state (journal_picks log) (λ turns. attempts_from turns log) (ids_told log)
    pub stands : StandsIn state x
    pub same : limits_of x.shared ≡ limits

  recast : (s t : events.MachineState Spot) (p p2 : List Pick) (q q2 : ℕ → List (ℕ × ℕ)) (g g2 : List ℕ) → p ≡ p2 → ((turns : ℕ) → q turns ≡ q2 turns) → g ≡ g2 → Comes loaded s t p q g → Comes loaded s t p2 q2 g2
  recast s t p p2 q q2 g g2 e f i c = record { events = c.events; allowed = c.allowed; after = c.after; order = c.order ∙ e; attempts = λ turns. c.attempts turns ∙ f turns; ids = c.ids ∙ i }

  pub told_more : (log es : List Entry) (x y : RunState Shared Context) → x.ending ≡ None → Told log x → Goes_on code x y es → Told (log ++ es) y
  told_more log es x y going told g =
      let here_is : standing_in x ≡ told.state = λ i. record { memory = sym told.stands.memory i; own = sym (told.stands.stages going) i; end = sym (told.stands.ending ∙ going) i } in
      let one : Comes loaded (standing_in x) g.state g.picks g.tries g.given = subst (λ (limits : Limits). Comes (linear_image code limits) (standing_in x) g.state g.picks g.tries g.given) told.same g.comes in
      let two : Comes loaded told.state g.state g.picks g.tries g.given = subst (λ (z : events.MachineState Spot). Comes loaded z g.state g.picks g.tries g.given) here_is one in
      let all = joins loaded (first_state loaded) told.state g.state (journal_picks log) g.picks (λ turns. attempts_from turns log) g.tries (ids_told log) g.given told.comes two in
      record {
        state = g.state;
        comes = recast (first_state loaded) g.state _ _ _ _ _ _
            (ap (λ (ps : List Pick). journal_picks log ++ ps) g.order ∙ sym (picks-append log es))
            (λ turns. ap (λ (as' : List (ℕ × ℕ)). attempts_from turns log ++ as') (g.attempts (turns + length (journal_picks log)) ∙ ap (λ (n : ℕ). attempts_from (turns + n) es) (length-picks log)) ∙ sym (attempts-append log es turns))
            (ap (λ (l : List ℕ). ids_told log ++ l) g.ids ∙ sym (ids-append log es))
            all;
        stands = g.stands;
        same = g.same ∙ told.same;
      }

pub same_limits : (output : ℕ) (m after : Memory) → SameHeaps m after
    → limits_for output after.storage.heaps.count after.storage.heaps.size after.storage.heaps.most ≡ limits_for output m.storage.heaps.count m.storage.heaps.size m.storage.heaps.most
same_limits output m after h = λ i. limits_for output (h.count i) (h.size i) (h.most i)

-- ---- a thread's turn

module _ (code : LinearCode) (program : IsProgram code) (rules : Rules) (x : RunState Shared Context) (going : x.ending ≡ None) (few : length x.shared.memory.threads ≤ 64) (many : length x.places ≡ 64)
    (sits : (k : ℕ) → SitsAt (machine_of code) (IsContextOf code) x.shared None k (place_at x.places k)) where
  abbrev image : Image Spot
  image = image_of code x.shared

  abbrev ts : List Made
  ts = x.shared.memory.threads

  abbrev cs : List (Option Context)
  cs = map context_in x.places

  pub long : length (stages_in x) ≡ length x.shared.memory.threads
  long = length-stages_home x.shared.memory.threads (map context_in x.places)

  -- a number that no thread has yet has a blank context
  past_none : (ts : List Made) (k : ℕ) → length ts ≤ k → has_ended (slice_get ts k) ≡ false
  past_none [] k le = refl
  past_none (t ∷ ts) zero le = absurd (omega (arith, le))
  past_none (t ∷ ts) (suc k) le = past_none ts k (omega (arith, le))

  blank_at : (k : ℕ) → length x.shared.memory.threads ≤ k → k < 64 → (p : Place Context) → SitsAt (machine_of code) (IsContextOf code) x.shared None k p → IsBlank (context_in p)
  blank_at k le lt (unbegun c) h = record { context = c; is = refl; blank = blank_stage code c.stage c.stop h.0.progress }
  blank_at k le lt (home c) h = absurd (omega (arith, le, h.2))
  blank_at k le lt (out w c n mood) h = absurd (omega (arith, le, h.2))
  blank_at k le lt gone h = let bad : true ≡ false = sym (h refl lt) ∙ past_none x.shared.memory.threads k le in absurd cc

  blanks : (k : ℕ) → length x.shared.memory.threads ≤ k → k < 64 → IsBlank (get_or (map context_in x.places) k None)
  blanks k le lt = subst IsBlank (sym (context_at x.places k)) (blank_at k le lt (place_at x.places k) (sits k))

  -- a context before its pending step, whose thread is out
  module _ (n turns : ℕ) (stage : Stage Spot) (stop : Stop) (wait : Option Wait) (w count : ℕ) (c : Context) (mood : Mood) (there : place_at x.places n ≡ out w c count mood) where
    abbrev d : Context
    d = record { number = n; stage = Some stage; turns = turns; stop = Some stop; wait = wait }

    abbrev e : Effect Spot
    e = effect_if (image_of code x.shared) n x.shared.memory (Some stage) (Some stop)

    abbrev turned : Turned
    turned = turned_of (image_of code x.shared) n x.shared.memory (Some stage) (Some stop)

    abbrev os : List (Option (Stage Spot))
    os = set (stages_in x) n (Some stage)

    abbrev moved : events.MachineState Spot
    moved = record { memory = x.shared.memory; own = set (stages_in x) n (Some stage); end = None }

    abbrev behind : events.MachineState Spot
    behind = put moved n e

    module _ (lives : Lives (machine_of code) (IsSharedOf code) (IsContextOf code) x.shared d) where
      stopped : HasStopped (own_image code) (Some stage) stop
      stopped = lives.context.stopped stop refl

      below : n < length (stages_in x)
      below = omega (arith, lives.made, long)

      inside : n < length x.places
      inside = omega (arith, lives.made, few, many)

      pub own_there : own_at os n ≡ Some stage
      own_there = own_at_set (stages_in x) n (Some stage) below

      stage_is : stage ≡ stopped.at_stage
      stage_is = let same = stopped.is in cc

      stops : stop_at (own_image code) stopped.most stopped.turns stage ≡ Some stop
      stops = ap (stop_at (own_image code) stopped.most stopped.turns) stage_is ∙ stopped.stops

      pub says : TurnSays image moved n (events_of image n x.shared.memory stage stop) e turned
      says = turn_says code program x.shared os n stage own_there lives.context.stage lives.made stop stopped.most stopped.turns stops

      pub the_event : IsTheEvent image moved n stage stop
      the_event =
          let h = x.shared.memory.storage.heaps in
          act_is_its_event image moved n stopped.most stopped.turns stage stop refl (length-set (stages_in x) n (Some stage) ∙ long) own_there
          (same_stop code x.shared.output_limit h.count h.size h.most n stopped.most stopped.turns stage ∙ stops)

      step_comes : Comes image moved behind (turned_picks n turned) (turned_tries n turned) (turned_ids turned)
      step_comes = record { events = events_of image n x.shared.memory stage stop; allowed = the_event.allowed; after = the_event.after; order = says.order; attempts = says.attempts; ids = says.ids }

      -- ---- the stages behind it

      left : (length x.shared.memory.threads ≤ length e.memory.threads) × (length e.memory.threads ≤ 64)
      left = let l = (machine_is_flat code).leaves x.shared d lives refl few in (l.more, l.most)

      blanks_behind : (q : Option Context) (k : ℕ) → length x.shared.memory.threads ≤ k → k < length e.memory.threads → IsBlank (get_or (set (map context_in x.places) n q) k None)
      blanks_behind q k le lt =
          let other : k ≢ n = λ (same : k ≡ n). omega (arith, same, le, lives.made) in
          subst IsBlank (sym (get_or-set_other (map context_in x.places) n k q None (λ (same : k ≡ n). other same))) (blanks k le (omega (arith, lt, left.1)))

      stages_behind : (q : Place Context) → ((t : Made) → stage_home t (context_in q) ≡ e.stage) → behind.own ≡ stages_home e.memory.threads (map context_in (set x.places n q))
      stages_behind q is =
          let now = set (stages_in x) n e.stage in
          let inside_cs : n < length (map context_in x.places) = omega (arith, inside, length-map x.places context_in) in
          ap (λ (own : List (Option (Stage Spot))). own ++ new_stages os e.memory) (set_twice (stages_in x) n (Some stage) e.stage)
          ∙ ap (λ (k : ℕ). now ++ map stage_made (drop k e.memory.threads)) (length-set (stages_in x) n (Some stage) ∙ long)
          ∙ ap (λ (own : List (Option (Stage Spot))). own ++ map stage_made (drop (length x.shared.memory.threads) e.memory.threads)) (stages_set x.shared.memory.threads (map context_in x.places) n (context_in q) e.stage inside_cs is)
          ∙ stages_more x.shared.memory.threads e.memory.threads (set (map context_in x.places) n (context_in q)) says.threads (blanks_behind (context_in q))
          ∙ ap (stages_home e.memory.threads) (sym (map-set context_in x.places n q))

      has_stage : (o : Option (Stage Spot)) → IsSome o → (t : Made) → stage_home t (Some (record { number = n; stage = o; turns = turns; stop = None; wait = waits_at (own_image code) o })) ≡ o
      has_stage None some t = absurd cc
      has_stage (Some stage) some t = refl

      -- a thread that stays, or comes home
      stays_there : (goes turned ≡ away → ⊥) → (t : Made) → stage_home t (Some (acted_by code x.shared d).context) ≡ e.stage
      stays_there stays = has_stage e.stage (works_stage code e.stage None ((machine_is_flat code).goes_on x.shared d lives refl stays).progress)

      end_now : (o : Option End) → end_or o None ≡ o
      end_now None = refl
      end_now (Some end) = refl

      ending_is : behind.end ≡ ends_with n turned
      ending_is = end_now e.end ∙ says.end_

      pub stands_by : (k : ℕ) (g : Goes) → goes turned ≡ g → StandsIn behind (turned_by (machine_of code) rules x w n k mood (acted_by code x.shared d) g)
      stands_by k on is = record { memory = refl; ending = ending_is; stages = λ none. stages_behind (out w _ k _) (stays_there (λ f. let bad : on ≡ away = sym is ∙ f in cc)) }
      stands_by k back is = record { memory = refl; ending = ending_is; stages = λ none. stages_behind (out w _ k _) (stays_there (λ f. let bad : back ≡ away = sym is ∙ f in cc)) }
      stands_by k away is = record { memory = refl; ending = ending_is; stages = λ none. stages_behind gone (λ t. sym (says.gone is none)) }

      limits_by : (k : ℕ) (g : Goes) → limits_of (turned_by (machine_of code) rules x w n k mood (acted_by code x.shared d) g).shared ≡ limits_of x.shared
      limits_by k on = same_limits x.shared.output_limit x.shared.memory e.memory says.heaps
      limits_by k back = same_limits x.shared.output_limit x.shared.memory e.memory says.heaps
      limits_by k away = same_limits x.shared.output_limit x.shared.memory e.memory says.heaps

      pub turn_told : (most : ℕ) → GoesAlone image n most (standing_in x) 0 (record { stage = stage; turns = turns; stop = stop }) → Goes_on code x (turn_event (machine_of code) rules x w n count mood (acted_by code x.shared d)).after (turn_entry w n turns turned ∷ [])
      turn_told most alone =
          let ends : turns ≡ alone.did = omega (arith, alone.is) in
          record {
            state = behind;
            picks = _;
            tries = _;
            given = _;
            comes = joins image (standing_in x) moved behind _ _ _ _ _ _ alone.comes step_comes;
            order = ap (λ (k : ℕ). replicate k (pick n answers.Plain) ++ turned_picks n turned) (sym ends) ∙ sym (turn_picks w n turns turned);
            attempts = λ before. ap (λ (k : ℕ). turned_tries n turned (before + k)) (length-replicate alone.did (pick n answers.Plain) ∙ sym ends) ∙ sym (turn_attempts w n turns turned before);
            ids = sym (turn_ids w n turns turned);
            stands = stands_by (count + 1) (goes turned) refl;
            same = limits_by (count + 1) (goes turned);
          }
