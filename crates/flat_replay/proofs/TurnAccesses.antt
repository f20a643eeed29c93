-- An entry of a turn: its step is one of the machine in the state that its thread goes to alone, and stays in what its turn reaches.
use Rattle.std.proofs.Common.{◌≡◌, ℕ, ◌+◌, ◌-◌, List, [], ◌∷◌, ◌++◌, length, replicate, Option, Some, None, refl, sym, ap, subst, ◌∙◌, arith, append-nil, inl, inr}
use Rattle.std.specs.Prelude.{◌⊎◌}
use Rattle.ak_trace.specs.declared.entry.Entry.{Entry}
use Rattle.ak_trace.specs.Kinds as kind
use Rattle.block_store.specs.Runs.{Pick, own_at}
use Rattle.block_store.specs.declared.values.Answer.TheVariants as answers
use Rattle.struct_ir.specs.Nodes.{Ir}
use Rattle.struct_ir.specs.Instrs.{LinearCode}
use Rattle.struct_ir.specs.Linear.{Spot}
use Rattle.flat_meaning.specs.Accesses.{Choice}
use Rattle.flat_meaning.specs.Allowed.{AreAllowed, IsAllowed}
use Rattle.flat_meaning.specs.Events as events
use Rattle.flat_meaning.specs.Events.{act, after_all, first_state}
use Rattle.flat_meaning.specs.Image.{Image, Limits, linear_image}
use Rattle.flat_meaning.specs.Journals.{journal_picks}
use Rattle.flat_meaning.specs.Local.{Came}
use Rattle.flat_meaning.specs.Order.{order_of, pick}
use Rattle.flat_rules.specs.declared.settings.Settings.{Settings}
use Rattle.flat_rules.specs.Entries.{turn_entry}
use Rattle.flat_rules.specs.Events.{Event, most_local, goes, turn_event, turned_by}
use Rattle.flat_rules.specs.Machine.{Turned, cleared}
use Rattle.flat_rules.specs.Replays.{step}
use Rattle.flat_rules.specs.Rules.{Rules, rules_of}
use Rattle.flat_rules.specs.States.{Mood, free, asked, RunState, out, homes_of, place_at, waits_for_room}
use Rattle.flat_rules.specs.inner.Cases.{Cases, Holds, event_holds}
use Rattle.flat_rules.specs.inner.Steps.{step_cases, same_kind}
use Rattle.flat_rules.proofs.Spares.{sweep_first}
use Rattle.flat_threads.specs.Contexts.{Context, IsProgram}
use Rattle.flat_threads.specs.Going.{gone_on, stopped_at}
use Rattle.flat_machine.specs.Acting.{acted_by, effect_if}
use Rattle.flat_machine.specs.Laws.{IsTheEvent, events_of}
use Rattle.flat_machine.specs.Machine.{machine_of}
use Rattle.flat_machine.specs.Replays.{replay}
use Rattle.flat_machine.specs.Shares.{Shared, image_of}
use Rattle.flat_machine.specs.Start.{settings_limits}
use Rattle.flat_machine.specs.Turns.{turned_of}
use Rattle.flat_simulation.specs.Kinds.{TakesRightKinds, UpToAKind, LinearStandsAfter}
use Rattle.flat_replay.specs.Attempts.{attempts_from}
use Rattle.flat_replay.specs.Accesses.{ActStays, StandsBy, bound_of, gone_to}
use Rattle.flat_replay.specs.Kinds.{TurnStaysUpToAKind}
use Rattle.flat_replay.specs.Ids.{ids_told}
use Rattle.flat_replay.specs.Journals.{image_for}
use Rattle.flat_replay.proofs.Consistent.{Good}
use Rattle.flat_replay.proofs.Entries.{same_is, turn_picks}
use Rattle.flat_replay.proofs.Journal.{GoesTo, goes_to, sits}
use Rattle.flat_replay.proofs.Segments.{Comes, joins}
use Rattle.flat_replay.proofs.StepAccesses.{run_act_stays}
use Rattle.flat_replay.proofs.Turned.{TurnSays}
use Rattle.flat_replay.proofs.Told.{StandsIn, Told, own_there, says, standing_in, stands_by, the_event}

-- ---- which event a turn's entry is

module _ (code : LinearCode) (rules : Rules) (x : RunState Shared Context) (w : ℕ) where
  -- the event is a turn of a thread that is out
  pub record IsTurn (v : Event Shared Context) : Type 0 where
    pub thread : ℕ
    pub count : ℕ
    pub context : Context
    pub mood : Mood
    pub there : place_at x.places thread ≡ out w context count mood
    pub bound : (bound_of mood ≡ 0) ⊎ (bound_of mood ≡ most_local)
    pub is : v ≡ turn_event (machine_of code) rules x w thread count mood (acted_by code x.shared (gone_on code (bound_of mood) context))

  abbrev pub TurnsIf : Event Shared Context → Type 0
  TurnsIf v = (d : Entry) (ds : List Entry) → v.entries ≡ d ∷ ds → d.kind ≡ kind.turn → IsTurn v

  other : (v : Event Shared Context) (e : Entry) (es : List Entry) (k : ℕ) → e.kind ≡ k → (k ≡ kind.turn → ⊥) → (d : Entry) (ds : List Entry) → e ∷ es ≡ d ∷ ds → d.kind ≡ kind.turn → IsTurn v
  other v e es k is never d ds same at = absurd (never (let h : e ≡ d = cc same in sym is ∙ (ap (λ (z : Entry). z.kind) h ∙ at)))

  pub turns_if : Cases (machine_of code) rules x w TurnsIf
  turns_if = record {
    begins = λ t c calm picked at. other _ _ [] kind.out refl (λ e. cc e);
    leaves = λ t c calm picked at. other _ _ [] kind.out refl (λ e. cc e);
    sweeps = λ want none d ds same at. absurd (let bad : kind.barrier ≡ kind.turn = sym (sweep_first w (cleared (machine_of code) rules.evacuates x.shared (homes_of x.places)).moved (waits_for_room (machine_of code) rules x) _ d ds same) ∙ at in cc bad);
    works = λ t n c at d ds e k. record { thread = t; count = n; context = c; mood = free; there = at; bound = inr refl; is = refl };
    rests = λ t n c at d ds e k. record { thread = t; count = n; context = c; mood = asked; there = at; bound = inl refl; is = refl };
    comes = λ t n c at. other _ _ [] kind.home refl (λ e. cc e);
  }

-- ---- where such an entry stands

module _ (p : Ir) (code : LinearCode) (s : Settings) (program : IsProgram code)
    (follows : (es : List events.Event) → AreAllowed (image_for code s) es (first_state (image_for code s))
    → UpToAKind p (order_of (image_for code s) es (first_state (image_for code s))) (λ u. LinearStandsAfter (image_for code s) p es u (after_all (image_for code s) es (first_state (image_for code s)))))
    (log : List Entry) (x : RunState Shared Context) (leads : replay code s log ≡ Some x) (good : Good code (rules_of s) x) (told : Told code (settings_limits s) log x) (going : x.ending ≡ None) where
  abbrev loaded : Image Spot
  loaded = image_for code s

  -- a thread that is out goes on alone, and then takes its step
  module _ (w t n : ℕ) (mood : Mood) (c : Context) (g : GoesTo code (rules_of s) program x good going w t n (bound_of mood) mood c) where
    abbrev came : Came Spot
    came = g.came

    abbrev moved : events.MachineState Spot
    moved = gone_to x c.number g.came.stage

    abbrev its_events : List events.Event
    its_events = events_of (image_of code x.shared) c.number x.shared.memory g.came.stage g.came.stop

    abbrev turned : Turned
    turned = turned_of (image_of code x.shared) c.number x.shared.memory (Some g.came.stage) (Some g.came.stop)

    -- its entry
    abbrev pub entry : Entry
    entry = turn_entry w c.number g.came.turns (turned_of (image_of code x.shared) c.number x.shared.memory (Some g.came.stage) (Some g.came.stop))

    its : IsTheEvent (image_of code x.shared) moved c.number g.came.stage g.came.stop
    its = the_event code program (rules_of s) x going good.held.few good.held.places (sits code (rules_of s) program x good going w) c.number g.came.turns g.came.stage g.came.stop c.wait w n c mood g.there g.lives

    tells : TurnSays (image_of code x.shared) moved c.number its_events (effect_if (image_of code x.shared) c.number x.shared.memory (Some g.came.stage) (Some g.came.stop)) turned
    tells = says code program (rules_of s) x going good.held.few good.held.places (sits code (rules_of s) program x good going w) c.number g.came.turns g.came.stage g.came.stop c.wait w n c mood g.there g.lives

    own : own_at moved.own c.number ≡ Some g.came.stage
    own = own_there code program (rules_of s) x going good.held.few good.held.places (sits code (rules_of s) program x good going w) c.number g.came.turns g.came.stage g.came.stop c.wait w n c mood g.there g.lives

    -- the turns so far, and its own
    abbrev its_picks : List Pick
    its_picks = journal_picks log ++ replicate g.came.turns (pick c.number answers.Plain)

    ends : g.goes.did ≡ g.came.turns
    ends = let e = g.goes.is in omega (arith, e)

    so_far : Comes loaded (first_state loaded) moved its_picks (λ turns. attempts_from turns log ++ []) (ids_told log)
    so_far =
        let here_is : standing_in x ≡ told.state = λ i. record { memory = sym told.stands.memory i; own = sym (told.stands.stages going) i; end = sym (told.stands.ending ∙ going) i } in
        let one : Comes loaded (standing_in x) moved (replicate g.goes.did (pick c.number answers.Plain)) (λ turns. []) [] =
        subst (λ (limits : Limits). Comes (linear_image code limits) (standing_in x) moved (replicate g.goes.did (pick c.number answers.Plain)) (λ turns. []) []) told.same g.goes.comes in
        let two : Comes loaded told.state moved (replicate g.came.turns (pick c.number answers.Plain)) (λ turns. []) [] =
        subst (λ (k : ℕ). Comes loaded told.state moved (replicate k (pick c.number answers.Plain)) (λ turns. []) []) ends
        (subst (λ (z : events.MachineState Spot). Comes loaded z moved (replicate g.goes.did (pick c.number answers.Plain)) (λ turns. []) []) here_is one) in
        subst (λ (ids : List ℕ). Comes loaded (first_state loaded) moved its_picks (λ turns. attempts_from turns log ++ []) ids) (append-nil (ids_told log))
        (joins loaded (first_state loaded) told.state moved _ _ (λ turns. attempts_from turns log) (λ turns. []) (ids_told log) [] told.comes two)

    act_keeps : (choice : Choice) → its_events ≡ act c.number choice ∷ []
        → UpToAKind p its_picks (λ u. StandsBy (image_of code x.shared) p (ids_told log) u moved × (TakesRightKinds p u c.number → ActStays (image_of code x.shared) p (ids_told log) u moved c.number choice g.came.stage))
    act_keeps choice is =
        let may : IsAllowed (image_of code x.shared) moved (act c.number choice) = (subst (λ (es : List events.Event). AreAllowed (image_of code x.shared) es moved) is its.allowed).0 in
        let may_loaded : IsAllowed loaded moved (act c.number choice) = subst (λ (limits : Limits). IsAllowed (linear_image code limits) moved (act c.number choice)) told.same may in
        subst (λ (limits : Limits). UpToAKind p its_picks (λ u. StandsBy (linear_image code limits) p (ids_told log) u moved × (TakesRightKinds p u c.number → ActStays (linear_image code limits) p (ids_told log) u moved c.number choice g.came.stage))) (sym told.same)
        (run_act_stays loaded p follows moved its_picks _ (ids_told log) so_far c.number choice g.came.stage own may_loaded)

    -- the state behind it
    abbrev pub behind : RunState Shared Context
    behind = let a = acted_by code x.shared (stopped_at c (Some g.came)) in turned_by (machine_of code) (rules_of s) x w c.number (n + 1) mood a (goes a.turned)

    stands : StandsIn (events.put moved c.number (effect_if (image_of code x.shared) c.number x.shared.memory (Some g.came.stage) (Some g.came.stop))) behind
    stands = stands_by code program (rules_of s) x going good.held.few good.held.places (sits code (rules_of s) program x good going w) c.number g.came.turns g.came.stage g.came.stop c.wait w n c mood g.there g.lives (n + 1) _ refl

    pub turn_stays : (next : RunState Shared Context) (ds : List Entry) (spare : ℕ) → next ≡ record behind { due = ds; spare = spare } → step (machine_of code) (rules_of s) x entry ≡ Some next → TurnStaysUpToAKind p code s log entry
    turn_stays next ds spare is st = record {
      is_out = record { here = x; leads = leads; context = c; count = n; mood = mood; at = g.there };
      alone = record {
        stage = g.came.stage;
        comes_to = ap (λ (o : Option (Came Spot)). (stopped_at c o).stage) g.is;
        stop = g.came.stop;
        stops = ap (λ (o : Option (Came Spot)). (stopped_at c o).stop) g.is;
        turns = ap (λ (o : Option (Came Spot)). (stopped_at c o).turns) g.is;
      };
      does = record {
        next = next;
        goes = st;
        memory = ap (λ (z : RunState Shared Context). z.shared.memory) is ∙ sym stands.memory ∙ ap (λ (z : events.MachineState Spot). z.memory) (sym its.after);
        ending = ap (λ (z : RunState Shared Context). z.ending) is ∙ sym stands.ending ∙ ap (λ (z : events.MachineState Spot). z.end) (sym its.after);
        turns = turn_picks w c.number g.came.turns turned ∙ ap (λ (ps : List Pick). replicate g.came.turns (pick c.number answers.Plain) ++ ps) (sym tells.order);
      };
      keeps = act_keeps;
    }

  -- an entry of a turn
  pub turn_here : (e : Entry) (next : RunState Shared Context) → e.kind ≡ kind.turn → step (machine_of code) (rules_of s) x e ≡ Some next → x.due ≡ [] → TurnStaysUpToAKind p code s log e
  turn_here e next is st none = step_cases (machine_of code) (rules_of s) x e next {R = TurnStaysUpToAKind p code s log e}
      (λ n. absurd (let z : [] ≡ n.d ∷ n.ds = sym none ∙ n.due in cc z))
      (λ f.
      let w = e.worker in
      let turn : IsTurn code (rules_of s) x w f.v = subst (Holds (machine_of code) (rules_of s) x w (TurnsIf code (rules_of s) x w)) f.event (event_holds (machine_of code) (rules_of s) x w (TurnsIf code (rules_of s) x w) (turns_if code (rules_of s) x w) e.kind e.thread) f.d f.ds f.entries (sym (same_kind e f.d f.same) ∙ is) in
      let g : GoesTo code (rules_of s) program x good going w turn.thread turn.count (bound_of turn.mood) turn.mood turn.context = goes_to code (rules_of s) program x good going w turn.thread turn.count (bound_of turn.mood) turn.mood turn.context turn.there turn.bound in
      let v_is : f.v ≡ turn_event (machine_of code) (rules_of s) x w turn.context.number turn.count turn.mood (acted_by code x.shared (stopped_at turn.context (Some g.came))) =
      turn.is ∙ (λ i. turn_event (machine_of code) (rules_of s) x w (sym g.number i) turn.count turn.mood (acted_by code x.shared (stopped_at turn.context (g.is i)))) in
      let entries : entry w turn.thread turn.count turn.mood turn.context g ∷ [] ≡ f.d ∷ f.ds = sym (ap (λ (v : Event Shared Context). v.entries) v_is) ∙ f.entries in
      let d_is : entry w turn.thread turn.count turn.mood turn.context g ≡ f.d = cc entries in
      let e_is : entry w turn.thread turn.count turn.mood turn.context g ≡ e = d_is ∙ sym (same_is e f.d f.same) in
      subst (TurnStaysUpToAKind p code s log) e_is
      (turn_stays w turn.thread turn.count turn.mood turn.context g next f.ds (f.v.after.spare - length f.v.entries)
      (f.is ∙ (λ i. record (v_is i).after { due = f.ds; spare = f.v.after.spare - length f.v.entries }))
      (subst (λ (z : Entry). step (machine_of code) (rules_of s) x z ≡ Some next) (sym e_is) st)))
      st
