-- A journal that replays is of events: each entry by its kind.
use Rattle.std.proofs.Common.{◌≡◌, ℕ, ◌+◌, ◌<◌, ◌==◌, Bool, true, false, cond, List, [], ◌∷◌, ◌++◌, length, map, set, Option, Some, None, refl, sym, ap, ◌∙◌, subst, arith, append_assoc, inl, inr}
use Rattle.std.specs.Prelude.{◌⊎◌, All, count_by, slice_get}
use Rattle.std.proofs.lemmas.List.{append-nil, length-map}
use Rattle.std.proofs.lemmas.Option.{option_and_then_some}
use Rattle.ak_trace.specs.declared.entry.Entry.{Entry}
use Rattle.struct_ir.specs.Instrs.{LinearCode}
use Rattle.struct_ir.specs.Linear.{Spot}
use Rattle.ak_trace.specs.declared.endings.End.{End}
use Rattle.flat_meaning.specs.Events as events
use Rattle.flat_meaning.specs.Events.{Serve, after_serves, first_state, moved_state, serving_state}
use Rattle.flat_meaning.specs.Image.{Limits, limits_for, linear_image}
use Rattle.flat_meaning.specs.Journals.{journal_picks}
use Rattle.flat_meaning.specs.Local.{Came, goes_for}
use Rattle.flat_meaning.specs.Memory.{Made, Memory}
use Rattle.flat_meaning.specs.Order.{picks_of_serves}
use Rattle.flat_meaning.specs.Simulation.{IsLoadable}
use Rattle.flat_meaning.specs.Stages.{Stage}
use Rattle.flat_meaning.specs.Start.{served_ids}
use Rattle.flat_rules.specs.Entries.{home_entry, out_entry, sweep_entries}
use Rattle.flat_rules.specs.Events.{Event, barrier_event, most_local, turn_event}
use Rattle.flat_rules.specs.Lawful.{IsOfRun, Lives, Sweeps}
use Rattle.flat_rules.specs.Machine.{Machine, cleared, sweep}
use Rattle.flat_rules.specs.Replays.{run, settled, step}
use Rattle.flat_rules.specs.declared.settings.Settings.{Settings}
use Rattle.flat_rules.specs.Rules.{Rules, rules_of}
use Rattle.flat_rules.specs.States.{Place, unbegun, home, out, RunState, Mood, free, asked, must, homes_of, is_out, place_at, start, waits_for_room}
use Rattle.flat_rules.specs.inner.Cases.{Cases, Holds, event_holds, same_number}
use Rattle.flat_rules.specs.inner.Steps.{run_keeps, step_cases}
use Rattle.flat_threads.specs.Belonging.{IsContextOf}
use Rattle.flat_threads.specs.Contexts.{Context, IsProgram}
use Rattle.flat_threads.specs.Going.{came_from, gone_on, stopped_at}
use Rattle.world_rules.proofs.Invariant.{moved, none_ends}
use Rattle.world_rules.proofs.Sits.{Moved, Sit, SitsAt, lives}
use Rattle.flat_machine.specs.Acting.{acted_by}
use Rattle.flat_machine.specs.Clearing as clearing
use Rattle.flat_machine.specs.Clearing.{cleared_state, evacuation_of, moves_some, shared_cleared}
use Rattle.flat_machine.specs.Laws.{IsTheBarrier, barrier_of}
use Rattle.flat_machine.specs.Machine.{machine_of}
use Rattle.flat_machine.specs.Readiness.{begun, stage_of_made}
use Rattle.flat_machine.specs.Shares.{Shared, IsSharedOf, image_of, limits_of}
use Rattle.flat_machine.specs.Start.{first_shared, settings_limits}
use Rattle.flat_machine.specs.Sweeping.{at_home, stage_home, stage_or, stages_home, served_of, sweep_moves, sweep_serves, swept_by}
use Rattle.flat_machine.specs.lemmas.Homes.{own_at_home}
use Rattle.flat_machine.specs.lemmas.Lawful.{blank_stage}
use Rattle.flat_machine.specs.lemmas.MachineIsFlat.{machine_is_flat}
use Rattle.flat_machine.proofs.Slid.{plan_keeps}
use Rattle.flat_simulation.proofs.Loaded.{first_consistent}
use Rattle.flat_replay.specs.Attempts.{attempts_from}
use Rattle.flat_replay.specs.Ids.{ids_told}
use Rattle.flat_replay.specs.Journals.{IsOfEvents, context_in}
use Rattle.flat_replay.specs.Laws.{AJournalIsOfEvents}
use Rattle.flat_replay.proofs.Barriers.{opened}
use Rattle.flat_replay.proofs.Consistent.{Good, all_good, all_here, barrier_here, evacuation_here, good_keeps, middle_of_run, swept_here}
use Rattle.flat_replay.proofs.Doings.{SameHeaps, more_heaps, same_heaps, served_heaps}
use Rattle.flat_replay.proofs.Entries.{same_is, serves_attempts, serves_ids, serves_picks}
use Rattle.flat_replay.proofs.LocalTurns.{GoesAlone, goes_alone_to}
use Rattle.flat_replay.proofs.Segments.{Comes, joins, none_come}
use Rattle.flat_threads.proofs.Settings.{local_ignores_settings}
use Rattle.flat_replay.proofs.Serving.{all_say, from_first, serve_pick, stages_of_run}
use Rattle.flat_replay.proofs.Stages.{all_after, all_home, context_at, map-set, stages_same}
use Rattle.flat_replay.proofs.Told.{Goes_on, Told, long, same_limits, standing_in, told_more, turn_told}

module _ (code : LinearCode) (rules : Rules) where
  abbrev m : Machine Shared Context
  m = machine_of code

  module _ (program : IsProgram code) (x : RunState Shared Context) (good : Good code rules x) (going : x.ending ≡ None) (w : ℕ) where
    pub sits : Sit m (IsContextOf code) x.shared None x.places
    sits = subst (λ (e : Option End). Sit m (IsContextOf code) x.shared e x.places) going good.held.each

    abbrev ts : List Made
    ts = x.shared.memory.threads

    -- ---- a thread goes out, or comes home

    still : (t : ℕ) (q : Place Context) (last draw : ℕ) (es : List Entry) → [] ≡ journal_picks es → ((turns : ℕ) → [] ≡ attempts_from turns es) → [] ≡ ids_told es
        → ((t2 : Made) → slice_get x.shared.memory.threads t ≡ Some t2 → stage_home t2 (context_in q) ≡ stage_home t2 (context_in (place_at x.places t))) → Goes_on code x (record x { places = set x.places t q; last = last; x = draw }) es
    still t q last draw es picks tries ids same_stage = record {
      state = standing_in x;
      picks = [];
      tries = λ turns. [];
      given = [];
      comes = none_come (image_of code x.shared) (standing_in x);
      order = picks;
      attempts = tries;
      ids = ids;
      stands = record {
        memory = refl;
        ending = sym going;
        stages = λ none. sym (
            ap (stages_home x.shared.memory.threads) (map-set context_in x.places t q)
            ∙ stages_same x.shared.memory.threads (map context_in x.places) t (context_in q) (λ t2 is. same_stage t2 is ∙ ap (stage_home t2) (sym (context_at x.places t))));
      };
      same = refl;
    }

    begins : (t : ℕ) (c : Context) → place_at x.places t ≡ unbegun c → (last draw : ℕ) → Goes_on code x (record x { places = set x.places t (out w (begun (slice_get x.shared.memory.threads c.number) c) 0 free); last = last; x = draw }) (out_entry w t ∷ [])
    begins t c at last draw =
        let h : SitsAt m (IsContextOf code) x.shared None t (unbegun c) = subst (SitsAt m (IsContextOf code) x.shared None t) at (sits t) in
        let blank : c.stage ≡ None = blank_stage code c.stage c.stop h.0.progress in
        still t _ last draw (out_entry w t ∷ []) refl (λ turns. refl) refl (λ t2 is.
        ap (λ (o : Option Made). stage_or t2 (stage_of_made o)) (ap (slice_get x.shared.memory.threads) h.0.thread ∙ is)
        ∙ sym (ap (stage_home t2) (ap context_in at) ∙ ap (stage_or t2) blank))

    leaves : (t : ℕ) (c : Context) → place_at x.places t ≡ home c → (last draw : ℕ) → Goes_on code x (record x { places = set x.places t (out w c 0 free); last = last; x = draw }) (out_entry w t ∷ [])
    leaves t c at last draw = still t _ last draw (out_entry w t ∷ []) refl (λ turns. refl) refl (λ t2 is. sym (ap (stage_home t2) (ap context_in at)))

    comes : (t n : ℕ) (c : Context) → place_at x.places t ≡ out w c n must → Goes_on code x (record x { places = set x.places t (home c) }) (home_entry w t ∷ [])
    comes t n c at = still t (home c) x.last x.x (home_entry w t ∷ []) refl (λ turns. refl) refl (λ t2 is. sym (ap (stage_home t2) (ap context_in at)))

    -- ---- a turn

    abbrev Turns : (t n : ℕ) → Mood → Context → Type 0
    Turns t n mood d = let v = turn_event m rules x w t n mood (acted_by code x.shared d) in Goes_on code x v.after v.entries

    alone : (n k : ℕ) (c : Context) (mood : Mood) → place_at x.places c.number ≡ out w c n mood → c.number < length x.shared.memory.threads → (came : Came Spot) → came_from code k c.number c.stage ≡ Some came
        → GoesAlone (image_of code x.shared) c.number k (standing_in x) 0 came
    alone n k c mood there made came e = by c.stage refl e where
      many : length (map context_in x.places) ≡ 64
      many = length-map x.places context_in ∙ good.held.places

      by : (o : Option (Stage Spot)) → c.stage ≡ o → came_from code k c.number o ≡ Some came → GoesAlone (image_of code x.shared) c.number k (standing_in x) 0 came
      by None at e = absurd cc
      by (Some stage) at e =
          let h = x.shared.memory.storage.heaps in
          let lasts = long code program rules x going good.held.few good.held.places sits in
          let own = own_at_home x.shared.memory.threads (map context_in x.places) c.number made (omega (arith, made, many, good.held.few)) in
          goes_alone_to (image_of code x.shared) c.number k (goes_for (image_of code x.shared) k) 0 (standing_in x) refl lasts (omega (arith, made, lasts)) stage
          (own.1 ∙ ap (stage_home own.0) (context_at x.places c.number ∙ ap context_in there) ∙ ap (stage_or own.0) at)
          came
          (local_ignores_settings code x.shared.output_limit h.count h.size h.most c.number k stage ∙ e)

    -- where a thread that is out goes to alone, and stops
    pub record GoesTo (t n k : ℕ) (mood : Mood) (c : Context) : Type 0 where
      pub came : Came Spot
      pub is : came_from code k c.number c.stage ≡ Some came
      pub number : c.number ≡ t
      pub there : place_at x.places c.number ≡ out w c n mood
      pub lives : Lives m (IsSharedOf code) (IsContextOf code) x.shared (stopped_at c (Some came))
      pub goes : GoesAlone (image_of code x.shared) c.number k (standing_in x) 0 came

    pub goes_to : (t n k : ℕ) (mood : Mood) (c : Context) → place_at x.places t ≡ out w c n mood → (k ≡ 0) ⊎ (k ≡ most_local) → GoesTo t n k mood c
    goes_to t n k mood c at bound = by (came_from code k c.number c.stage) refl (moved m (IsSharedOf code) (IsContextOf code) rules (machine_is_flat code) x good.held going w t n k c mood at bound) where
      out_there : SitsAt m (IsContextOf code) x.shared None t (out w c n mood)
      out_there = subst (SitsAt m (IsContextOf code) x.shared None t) at (sits t)

      by : (o : Option (Came Spot)) → came_from code k c.number c.stage ≡ o → Moved m (IsContextOf code) t (stopped_at c o) → GoesTo t n k mood c
      by None e mv = absurd (let bad = sym out_there.0.progress ∙ mv.progress in cc)
      by (Some came) e mv =
          let there : place_at x.places c.number ≡ out w c n mood = ap (place_at x.places) mv.thread ∙ at in
          record {
            came = came;
            is = e;
            number = mv.thread;
            there = there;
            lives = lives m (IsContextOf code) (IsSharedOf code) (machine_is_flat code) x.shared x.places good.held.of_ good.held.few sits w n c (stopped_at c (Some came)) mood there mv.of_ mv.progress;
            goes = alone n k c mood there (omega (arith, out_there.2, mv.thread)) came e;
          }

    turned : (t n k : ℕ) (mood : Mood) (c : Context) → place_at x.places t ≡ out w c n mood → (k ≡ 0) ⊎ (k ≡ most_local) → Turns t n mood (gone_on code k c)
    turned t n k mood c at bound =
        let g = goes_to t n k mood c at bound in
        subst (λ (z : ℕ). Turns z n mood (gone_on code k c)) g.number
        (subst (λ (o : Option (Came Spot)). Turns c.number n mood (stopped_at c o)) (sym g.is)
        (turn_told code program rules x going good.held.few good.held.places sits c.number g.came.turns g.came.stage g.came.stop c.wait w n c mood g.there g.lives k g.goes))

    -- ---- a barrier

    module _ (quiet : count_by is_out x.places ≡ 0) where
      abbrev homes : List (Option Context)
      homes = homes_of x.places

      all : All (IsOfRun m (IsContextOf code)) (homes_of x.places)
      all = all_here code rules x good.held going

      -- what threads share where the barrier's own moves begin
      abbrev mid : Shared
      mid = (cleared m rules.evacuates x.shared (homes_of x.places)).shared

      abbrev here : events.MachineState Spot
      here = at_home (cleared m rules.evacuates x.shared (homes_of x.places)).shared (homes_of x.places)

      abbrev slid : events.MachineState Spot
      slid = serving_state (moved_state (sweep_moves (image_of code mid) here) here)

      home_is : at_home x.shared (homes_of x.places) ≡ standing_in x
      home_is = λ i. record { memory = x.shared.memory; own = stages_home x.shared.memory.threads (sym (all_home x.places quiet) i); end = None }

      the_barrier : IsTheBarrier code mid homes
      the_barrier = barrier_here code rules x good.held going quiet good.agrees rules.evacuates

      swept : Sweeps m (IsSharedOf code) (IsContextOf code) mid homes (sweep m rules.evacuates x.shared homes)
      swept = swept_here code rules x good.held going quiet rules.evacuates

      of_mid : IsSharedOf code mid
      of_mid = middle_of_run code rules x good.held going quiet rules.evacuates

      -- the evacuation is an event, at which nobody is served
      pub cleared_comes : (on : Bool) → Comes (image_of code x.shared) (at_home x.shared (homes_of x.places)) (at_home (cleared m on x.shared (homes_of x.places)).shared (homes_of x.places)) [] (λ turns. []) []
      cleared_comes false = none_come (image_of code x.shared) (at_home x.shared (homes_of x.places))
      cleared_comes true =
          let v = evacuation_here code rules x good.held going quiet good.agrees in
          record { events = evacuation_of (image_of code x.shared) (at_home x.shared (homes_of x.places)) ∷ []; allowed = v.allowed; after = sym v.after; order = refl; attempts = λ turns. refl; ids = refl }

      -- its limits are those of the run
      cleared_heaps : (on : Bool) → SameHeaps x.shared.memory (cleared m on x.shared (homes_of x.places)).shared.memory
      cleared_heaps false = same_heaps x.shared.memory
      cleared_heaps true = by (moves_some (clearing.evacuation_here (image_of code x.shared) (at_home x.shared (homes_of x.places))))
        where
          by : (moved : Bool) → SameHeaps x.shared.memory (shared_cleared (image_of code x.shared) x.shared (at_home x.shared (homes_of x.places)) moved).memory
          by false = same_heaps x.shared.memory
          by true =
              let kept = plan_keeps (clearing.evacuation_here (image_of code x.shared) (at_home x.shared (homes_of x.places))).moves x.shared.memory.storage in
              let between : Memory = (serving_state (moved_state (clearing.evacuation_here (image_of code x.shared) (at_home x.shared (homes_of x.places))).moves (at_home x.shared (homes_of x.places)))).memory in
              more_heaps x.shared.memory between (cleared_state (image_of code x.shared) (at_home x.shared (homes_of x.places))).memory (record { count = kept.0; size = kept.1; most = kept.2 }) (served_heaps between)

      output_same : (on : Bool) → (cleared m on x.shared (homes_of x.places)).shared.output_limit ≡ x.shared.output_limit
      output_same false = refl
      output_same true = by (moves_some (clearing.evacuation_here (image_of code x.shared) (at_home x.shared (homes_of x.places))))
        where
          by : (moved : Bool) → (shared_cleared (image_of code x.shared) x.shared (at_home x.shared (homes_of x.places)) moved).output_limit ≡ x.shared.output_limit
          by false = refl
          by true = refl

      pub limits_same : limits_of mid ≡ limits_of x.shared
      limits_same =
          let h : SameHeaps x.shared.memory mid.memory = cleared_heaps rules.evacuates in
          λ i. limits_for (output_same rules.evacuates i) (h.count i) (h.size i) (h.most i)

      abbrev serves : List Serve
      serves = sweep_serves (image_of code mid) here

      served : (picks_of_serves (image_of code mid) serves slid ≡ map serve_pick serves) × SameHeaps slid.memory (after_serves (image_of code mid) serves slid).memory
      served = all_say code program mid here.own (length here.own)
          (stages_of_run code mid.memory.threads homes of_mid.functions all)
          (length here.own) 0 slid (omega arith) (from_first code program mid here.own (length here.own) (stages_of_run code mid.memory.threads homes of_mid.functions all) slid refl refl refl)

      barrier_comes : Comes (image_of code mid) here (at_home (swept_by code mid homes).shared (swept_by code mid homes).homes) (map serve_pick serves) (λ turns. []) (served_ids serves)
      barrier_comes = record { events = barrier_of (image_of code mid) here ∷ []; allowed = the_barrier.allowed; after = sym the_barrier.after; order = append-nil _ ∙ served.0; attempts = λ turns. refl; ids = append-nil _ }

      both_come : Comes (image_of code x.shared) (standing_in x) (at_home (swept_by code mid homes).shared (swept_by code mid homes).homes) (map serve_pick serves) (λ turns. []) (served_ids serves)
      both_come =
          subst (λ (z : events.MachineState Spot). Comes (image_of code x.shared) z (at_home (swept_by code mid homes).shared (swept_by code mid homes).homes) (map serve_pick serves) (λ turns. []) (served_ids serves)) home_is
          (joins (image_of code x.shared) (at_home x.shared (homes_of x.places)) here (at_home (swept_by code mid homes).shared (swept_by code mid homes).homes) [] (map serve_pick serves) (λ turns. []) (λ turns. []) [] (served_ids serves) (cleared_comes rules.evacuates)
          (subst (λ (limits : Limits). Comes (linear_image code limits) here (at_home (swept_by code mid homes).shared (swept_by code mid homes).homes) (map serve_pick serves) (λ turns. []) (served_ids serves)) limits_same barrier_comes))

      -- an evacuation's entry tells of no turn and of no id
      entries_picks : (moved : Bool) → journal_picks (sweep_entries w moved (waits_for_room m rules x) (map served_of serves)) ≡ map serve_pick serves
      entries_picks true = serves_picks w serves
      entries_picks false = serves_picks w serves

      entries_attempts : (moved : Bool) (turns : ℕ) → attempts_from turns (sweep_entries w moved (waits_for_room m rules x) (map served_of serves)) ≡ []
      entries_attempts true turns = serves_attempts w serves ((turns + 0) + 0)
      entries_attempts false turns = serves_attempts w serves (turns + 0)

      entries_ids : (moved : Bool) → ids_told (sweep_entries w moved (waits_for_room m rules x) (map served_of serves)) ≡ served_ids serves
      entries_ids true = serves_ids w serves
      entries_ids false = serves_ids w serves

      sweeps : let v = barrier_event m rules x w (cleared m rules.evacuates x.shared homes).moved (sweep m rules.evacuates x.shared homes) in Goes_on code x v.after v.entries
      sweeps =
          let b = swept_by code mid homes in
          let moved : Bool = (cleared m rules.evacuates x.shared homes).moved in
          let kept = plan_keeps (sweep_moves (image_of code mid) here) mid.memory.storage in
          record {
            state = at_home b.shared b.homes;
            picks = map serve_pick serves;
            tries = λ turns. [];
            given = served_ids serves;
            comes = both_come;
            order = sym (entries_picks moved);
            attempts = λ turns. sym (entries_attempts moved turns);
            ids = sym (entries_ids moved);
            stands = record { memory = refl; ending = sym going; stages = λ none. ap (stages_home b.shared.memory.threads) (sym (all_after code x.places b.homes swept.kept quiet)) };
            same = let before : Memory = (after_serves (image_of code mid) serves slid).memory in
                same_limits mid.output_limit mid.memory b.shared.memory (more_heaps mid.memory before b.shared.memory (more_heaps mid.memory slid.memory before (record { count = kept.0; size = kept.1; most = kept.2 }) served.1) (served_heaps before)) ∙ limits_same;
          }

    -- ---- each event

    abbrev GoesOn : Event Shared Context → Type 0
    GoesOn v = Goes_on code x v.after v.entries

    cases : Cases m rules x w GoesOn
    cases = record {
      begins = λ t c calm picked at. begins t c at _ _;
      leaves = λ t c calm picked at. leaves t c at _ _;
      sweeps = λ want none. sweeps (same_number _ 0 none);
      works = λ t n c at. turned t n most_local free c at (inr refl);
      rests = λ t n c at. turned t n 0 asked c at (inl refl);
      comes = λ t n c at. comes t n c at;
    }

  -- ---- each entry

  module _ (program : IsProgram code) (limits : Limits) where
    due_told : (log : List Entry) (x : RunState Shared Context) (due : List Entry) (spare : ℕ) → Told code limits log x → Told code limits log (record x { due = due; spare = spare })
    due_told log x due spare told = record { state = told.state; comes = told.comes; stands = record { memory = told.stands.memory; ending = told.stands.ending; stages = told.stands.stages }; same = told.same }

    -- with the entries that are due
    pub record Holding (log : List Entry) (x : RunState Shared Context) : Type 0 where
      pub good : Good code rules x
      pub told : Told code limits (log ++ x.due) x

    keeps : (log : List Entry) (x : RunState Shared Context) (e : Entry) (y : RunState Shared Context) → Holding log x → step m rules x e ≡ Some y → Holding (log ++ e ∷ []) y
    keeps log x e y h st = record {
      good = good_keeps code rules log x e y h.good st;
      told = step_cases m rules x e y {R = Told code limits ((log ++ e ∷ []) ++ y.due) y}
          (λ n.
          let same : log ++ x.due ≡ (log ++ e ∷ []) ++ n.ds = ap (λ (due : List Entry). log ++ due) n.due ∙ ap (λ (d : Entry). log ++ d ∷ n.ds) (sym (same_is e n.d n.same)) ∙ sym (append_assoc log (e ∷ []) n.ds) in
          subst (λ (z : RunState Shared Context). Told code limits ((log ++ e ∷ []) ++ z.due) z) (sym n.is)
          (due_told ((log ++ e ∷ []) ++ n.ds) x n.ds x.spare (subst (λ (es : List Entry). Told code limits es x) same h.told)))
          (λ f.
          let going = none_ends x.ending _ f.live in
          let one : Goes_on code x f.v.after f.v.entries = subst (Holds m rules x e.worker (GoesOn program x h.good going e.worker)) f.event (event_holds m rules x e.worker (GoesOn program x h.good going e.worker) (cases program x h.good going e.worker) e.kind e.thread) in
          let all = told_more code limits (log ++ x.due) f.v.entries x f.v.after going h.told one in
          let same : (log ++ x.due) ++ f.v.entries ≡ (log ++ e ∷ []) ++ f.ds =
          ap (λ (due : List Entry). (log ++ due) ++ f.v.entries) f.settled ∙ ap (λ (es : List Entry). es ++ f.v.entries) (append-nil log) ∙ ap (λ (es : List Entry). log ++ es) f.entries
          ∙ ap (λ (d : Entry). log ++ d ∷ f.ds) (sym (same_is e f.d f.same)) ∙ sym (append_assoc log (e ∷ []) f.ds) in
          subst (λ (z : RunState Shared Context). Told code limits ((log ++ e ∷ []) ++ z.due) z) (sym f.is)
          (due_told ((log ++ e ∷ []) ++ f.ds) f.v.after f.ds _ (subst (λ (es : List Entry). Told code limits es f.v.after) same all)))
          st;
    }

-- ---- the law

is_settled : (code : LinearCode) (rules : Rules) (x y : RunState Shared Context) → settled (machine_of code) rules x ≡ Some y → (x ≡ y) × (y.due ≡ [])
is_settled code rules x y is = by (length x.due == 0) refl is where
  none : (due : List Entry) → length due ≡ 0 → due ≡ []
  none [] e = refl
  none (d ∷ ds) e = absurd (omega (arith, e))

  by : (b : Bool) → (length x.due == 0) ≡ b → cond b (Some x) None ≡ Some y → (x ≡ y) × (y.due ≡ [])
  by true e is = let same : x ≡ y = cc in (same, sym (ap (λ (z : RunState Shared Context). z.due) same) ∙ none x.due (same_number (length x.due) 0 e))
  by false e is = absurd cc

-- a run of entries holds
pub holding : (code : LinearCode) (s : Settings) (program : IsProgram code) → IsLoadable (linear_image code (settings_limits s)).layout → (log : List Entry) (x : RunState Shared Context)
    → run (machine_of code) (rules_of s) log (start (machine_of code) (rules_of s) (first_shared code (settings_limits s))) ≡ Some x → Holding code (rules_of s) program (settings_limits s) log x
holding code s program loadable log x ran =
    run_keeps (machine_of code) (rules_of s) (Holding code (rules_of s) program (settings_limits s)) (keeps code (rules_of s) program (settings_limits s)) [] log (start (machine_of code) (rules_of s) (first_shared code (settings_limits s))) x at_start ran
  where
    at_start : Holding code (rules_of s) program (settings_limits s) [] (start (machine_of code) (rules_of s) (first_shared code (settings_limits s)))
    at_start = record {
      good = all_good code (rules_of s) (first_shared code (settings_limits s)) (opened code s program loadable) (first_consistent (linear_image code (settings_limits s)).layout loadable) [] (start (machine_of code) (rules_of s) (first_shared code (settings_limits s))) refl;
      told = record {
        state = first_state (linear_image code (settings_limits s));
        comes = none_come (linear_image code (settings_limits s)) (first_state (linear_image code (settings_limits s)));
        stands = record { memory = refl; ending = refl; stages = λ none. refl };
        same = refl;
      };
    }

-- where no entry is due, what was told is of the entries so far
pub told_now : (code : LinearCode) (limits : Limits) (log : List Entry) (x : RunState Shared Context) → x.due ≡ [] → Told code limits (log ++ x.due) x → Told code limits log x
told_now code limits log x none told = subst (λ (es : List Entry). Told code limits es x) (ap (λ (due : List Entry). log ++ due) none ∙ append-nil log) told

pub a_journal_is_of_events : AJournalIsOfEvents
a_journal_is_of_events code s program loadable log x replays =
    option_and_then_some (settled (machine_of code) (rules_of s)) (run (machine_of code) (rules_of s) log (start (machine_of code) (rules_of s) (first_shared code (settings_limits s)))) x replays (λ z ran is.
    let end_ = is_settled code (rules_of s) z x is in
    of_events x end_.1 (subst (Holding code (rules_of s) program (settings_limits s) log) end_.0 (holding code s program loadable log z ran)))
  where
    of_events : (x : RunState Shared Context) → x.due ≡ [] → Holding code (rules_of s) program (settings_limits s) log x → IsOfEvents code s log x
    of_events x none h =
        let told : Told code (settings_limits s) log x = told_now code (settings_limits s) log x none h.told in
        record {
          events = told.comes.events;
          allowed = told.comes.allowed;
          memory = ap (λ (z : events.MachineState Spot). z.memory) told.comes.after ∙ told.stands.memory;
          ending = ap (λ (z : events.MachineState Spot). z.end) told.comes.after ∙ told.stands.ending;
          stages = λ going. ap (λ (z : events.MachineState Spot). z.own) told.comes.after ∙ told.stands.stages going;
          image = ap (linear_image code) told.same;
          order = told.comes.order;
          attempts = told.comes.attempts 0;
          ids = told.comes.ids;
        }
