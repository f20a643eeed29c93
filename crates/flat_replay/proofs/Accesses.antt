-- No step of a journal of guarded code leaves its object, as long as no rule of C was broken, and no operation was on a value of a kind that it
-- doesn't take; so none of checked code does.
use Rattle.std.proofs.Common.{◌≡◌, ◌==◌, List, [], ◌∷◌, ◌++◌, length, replicate, Some, None, refl, sym, ap, subst, ◌∙◌, inl, inr}
use Rattle.std.specs.Prelude.{option_and_then, if◌then◌else◌}
use Rattle.std.proofs.lemmas.Option.{option_and_then_some}
use Rattle.ak_trace.specs.declared.entry.Entry.{Entry}
use Rattle.ak_trace.specs.Kinds as kind
use Rattle.block_store.specs.declared.values.Answer.TheVariants as answers_of
use Rattle.struct_ir.specs.Nodes.{Ir}
use Rattle.struct_ir.specs.Emitted.{IsEmitted}
use Rattle.struct_ir.specs.Instrs.{LinearCode}
use Rattle.struct_ir.specs.Lawful.{AllLawful}
use Rattle.flat_meaning.specs.Events.{after_serves, served_state}
use Rattle.flat_meaning.specs.Journals.{journal_picks}
use Rattle.flat_meaning.specs.Order.{pick, picks_of_serves}
use Rattle.flat_meaning.specs.Simulation.{EachTurnTakesAnAnswer}
use Rattle.flat_meaning.specs.Start.{served_ids}
use Rattle.flat_rules.specs.declared.settings.Settings.{Settings}
use Rattle.flat_rules.specs.Replays as replays
use Rattle.flat_rules.specs.Replays.{settled, step}
use Rattle.flat_rules.specs.Rules.{rules_of}
use Rattle.flat_rules.specs.States.{RunState, start}
use Rattle.flat_rules.specs.inner.Steps.{IsFirst, same_kind, step_cases}
use Rattle.flat_threads.specs.Contexts.{Context, IsProgram}
use Rattle.world_rules.specs.Every.{IsTail}
use Rattle.world_rules.proofs.Invariant.{none_ends}
use Rattle.world_rules.proofs.Walks.{at_entry, withins}
use Rattle.flat_machine.specs.Machine.{machine_of}
use Rattle.flat_machine.specs.Replays.{replay}
use Rattle.flat_machine.specs.Shares.{Shared, image_of}
use Rattle.flat_machine.specs.Start.{first_shared, settings_limits}
use Rattle.flat_simulation.specs.Kinds.{IsGuarded, TakesRightKinds, LinearCodeFollowsCode}
use Rattle.flat_simulation.proofs.Programs.{guarded_of}
use Rattle.flat_simulation.proofs.Whole.{up_to_a_break}
use Rattle.flat_replay.specs.Accesses.{ActStays, ServeStays, StandsBy, ServesStay, TurnStays, gone_to, swept_first}
use Rattle.flat_replay.specs.Barriers.{middle}
use Rattle.flat_replay.specs.Ids.{ids_told}
use Rattle.flat_replay.specs.Kinds.{ServesStayUpToAKind, TurnStaysUpToAKind}
use Rattle.flat_replay.specs.Laws.{AccessesOfJournalsStay, AccessesOfGuardedJournalsStay}
use Rattle.flat_replay.proofs.FirstBreak.{guarded_fits}
use Rattle.flat_replay.proofs.Journal.{Holding, holding, told_now}
use Rattle.flat_replay.proofs.Barriers.{due_behind, none_next, ran_on}
use Rattle.flat_replay.proofs.ServeAccesses.{Serves, serves_here}
use Rattle.flat_replay.proofs.TurnAccesses.{turn_here}

module _ (follow : LinearCodeFollowsCode) (p : Ir) (guarded : IsGuarded p) (code : LinearCode) (emitted : IsEmitted p code) (lawful : AllLawful code.funcs) (program : IsProgram code) (s : Settings) where
  -- an entry that begins an event, and the state before it
  module _ (before : List Entry) (e : Entry) (x y : RunState Shared Context) (ran : replays.run (machine_of code) (rules_of s) before (start (machine_of code) (rules_of s) (first_shared code (settings_limits s))) ≡ Some x)
      (st : step (machine_of code) (rules_of s) x e ≡ Some y) (none_due : x.due ≡ []) where
    holds : Holding code (rules_of s) program (settings_limits s) before x
    holds = holding code s program (guarded_fits p guarded code emitted s) before x ran

    going : x.ending ≡ None
    going = step_cases (machine_of code) (rules_of s) x e y {R = x.ending ≡ None} (λ n. absurd (let z : [] ≡ n.d ∷ n.ds = sym none_due ∙ n.due in cc z)) (λ f. none_ends x.ending _ f.live) st

    leads : replay code s before ≡ Some x
    leads = ap (option_and_then (settled (machine_of code) (rules_of s))) ran ∙ ap (λ (due : List Entry). if length due == 0 then Some x else None) none_due

    turn_stays : e.kind ≡ kind.turn → TurnStaysUpToAKind p code s before e
    turn_stays is =
        turn_here p code s program (λ es allowed. (follow p guarded code emitted lawful program.valid s.output s.subheaps s.subheap s.ids (guarded_fits p guarded code emitted s).shape es allowed).follows)
        before x leads holds.good (told_now code (settings_limits s) before x none_due holds.told) going e y is st none_due

    serves_first : (is : e.kind ≡ kind.barrier) → IsFirst (machine_of code) (rules_of s) x e y
        → Serves p code s program (λ es allowed. (follow p guarded code emitted lawful program.valid s.output s.subheaps s.subheap s.ids (guarded_fits p guarded code emitted s).shape es allowed).follows)
        before x leads holds.good (told_now code (settings_limits s) before x none_due holds.told) going y
    serves_first is f =
        serves_here p code s program (λ es allowed. (follow p guarded code emitted lawful program.valid s.output s.subheaps s.subheap s.ids (guarded_fits p guarded code emitted s).shape es allowed).follows)
        before x leads holds.good (told_now code (settings_limits s) before x none_due holds.told) going e y is f

  module _ (before : List Entry) (e : Entry) (x y : RunState Shared Context) (ran : replays.run (machine_of code) (rules_of s) before (start (machine_of code) (rules_of s) (first_shared code (settings_limits s))) ≡ Some x)
      (st : step (machine_of code) (rules_of s) x e ≡ Some y) where
    -- what is due are served allocations, and a barrier behind its evacuation
    turn_none_due : e.kind ≡ kind.turn → x.due ≡ []
    turn_none_due is = step_cases (machine_of code) (rules_of s) x e y {R = x.due ≡ []}
        (λ n.
        let h : IsTail (n.d ∷ n.ds) = subst IsTail n.due (withins (machine_of code) (rules_of s) (first_shared code (settings_limits s)) before x ran).tail in
        let k : n.d.kind ≡ kind.turn = sym (same_kind e n.d n.same) ∙ is in
        elim (h.0) [ inl q ↦ absurd (let bad : kind.turn ≡ kind.served = sym k ∙ q in cc bad) | inr q ↦ absurd (let bad : kind.turn ≡ kind.barrier = sym k ∙ q in cc bad) ])
        (λ f. f.settled) st

    -- a barrier's entry: it begins its event, or its evacuation's does, and then each allocation that is served is that event's
    serves_stay : e.kind ≡ kind.barrier → ServesStayUpToAKind p code s before e
    serves_stay is = step_cases (machine_of code) (rules_of s) x e y {R = ServesStayUpToAKind p code s before e}
        (λ n.
        let b = due_behind (machine_of code) (rules_of s) (first_shared code (settings_limits s)) before x ran e y is n in
        step_cases (machine_of code) (rules_of s) b.z b.v x {R = ServesStayUpToAKind p code s before e}
        (λ n'. absurd (none_next (machine_of code) (rules_of s) (first_shared code (settings_limits s)) b.front b.z b.ran b.v x b.kind_is b.how_is n'))
        (λ f. let t = serves_first b.front b.v b.z x b.ran b.st f.settled b.kind_is f in record {
          front = b.front;
          behind = inr (b.v, b.is, b.kind_is, b.how_is, b.apart);
          here = b.z;
          leads = leads b.front b.v b.z x b.ran b.st f.settled;
          alone = t.alone;
          next = y;
          goes = ran_on code s before x e y ran st;
          memory = ap (λ (z : RunState Shared Context). z.shared.memory) n.is ∙ t.memory;
          keeps = t.keeps;
        })
        b.st)
        (λ f. let t = serves_first before e x y ran st f.settled is f in record {
          front = before;
          behind = inl refl;
          here = x;
          leads = leads before e x y ran st f.settled;
          alone = t.alone;
          next = y;
          goes = ran_on code s before x e y ran st;
          memory = t.memory;
          keeps = t.keeps;
        })
        st

  module _ (log : List Entry) (z : RunState Shared Context) (replayed : replay code s log ≡ Some z) where
    -- what holds of each entry of it, by the states before and after
    each : (R : List Entry → Entry → Type 0) → ((before : List Entry) (e : Entry) (x y : RunState Shared Context) → replays.run (machine_of code) (rules_of s) before (start (machine_of code) (rules_of s) (first_shared code (settings_limits s))) ≡ Some x → step (machine_of code) (rules_of s) x e ≡ Some y → R before e)
        → (before : List Entry) (e : Entry) (more : List Entry) → log ≡ before ++ e ∷ more → R before e
    each R holds_there before e more is =
        option_and_then_some (settled (machine_of code) (rules_of s)) (replays.run (machine_of code) (rules_of s) log (start (machine_of code) (rules_of s) (first_shared code (settings_limits s)))) z replayed (λ w ran _.
        at_entry (machine_of code) (rules_of s) (start (machine_of code) (rules_of s) (first_shared code (settings_limits s))) before e more w (ap (λ (es : List Entry). replays.run (machine_of code) (rules_of s) es (start (machine_of code) (rules_of s) (first_shared code (settings_limits s)))) (sym is) ∙ ran) {R = R before e}
        (λ x y was st after. holds_there before e x y was st))

pub accesses_of_guarded_journals_stay : LinearCodeFollowsCode → AccessesOfGuardedJournalsStay
accesses_of_guarded_journals_stay follow p guarded code emitted lawful program s log z replayed = record {
  turns = λ front e more is k. each follow p guarded code emitted lawful program s log z replayed (λ before d. d.kind ≡ kind.turn → TurnStaysUpToAKind p code s before d)
      (λ before d x y ran st kind_is. turn_stays follow p guarded code emitted lawful program s before d x y ran st (turn_none_due follow p guarded code emitted lawful program s before d x y ran st kind_is) kind_is) front e more is k;
  served = λ front e more is k apart. each follow p guarded code emitted lawful program s log z replayed (λ before d. d.kind ≡ kind.barrier → ServesStayUpToAKind p code s before d)
      (λ before d x y ran st kind_is. serves_stay follow p guarded code emitted lawful program s before d x y ran st kind_is) front e more is k;
}

-- ---- of checked code

module _ (p : Ir) (answers : EachTurnTakesAnAnswer p) (code : LinearCode) (s : Settings) (log : List Entry) (e : Entry) where
  turn_of : TurnStaysUpToAKind p code s log e → TurnStays p code s log e
  turn_of t = record {
    is_out = t.is_out;
    alone = t.alone;
    does = t.does;
    keeps = λ choice is.
        let y = image_of code t.is_out.here.shared in
        let moved = gone_to t.is_out.here e.thread t.alone.stage in
        up_to_a_break p answers (journal_picks log ++ replicate e.local (pick e.thread answers_of.Plain))
        (λ u. StandsBy y p (ids_told log) u moved × (TakesRightKinds p u e.thread → ActStays y p (ids_told log) u moved e.thread choice t.alone.stage)) (λ u. ActStays y p (ids_told log) u moved e.thread choice t.alone.stage)
        (λ u right h. h.1 (right e.thread)) (t.keeps choice is);
  }

  serves_of : ServesStayUpToAKind p code s log e → ServesStay p code s log e
  serves_of t = record {
    front = t.front;
    behind = t.behind;
    here = t.here;
    leads = t.leads;
    alone = t.alone;
    next = t.next;
    goes = t.goes;
    memory = t.memory;
    keeps = λ vs v us is.
        let shared = middle code s t.here in
        let y = image_of code shared in
        let given = ids_told t.front ++ served_ids vs in
        let served = served_state (after_serves y vs (swept_first code shared t.here)) in
        let k = t.keeps vs v us is in (
          k.0,
          k.1,
          up_to_a_break p answers (journal_picks t.front ++ picks_of_serves y vs (swept_first code shared t.here))
              (λ u. StandsBy y p given u served × (TakesRightKinds p u v.thread → ServeStays y p given u served v k.0)) (λ u. ServeStays y p given u served v k.0)
              (λ u right h. h.1 (right v.thread)) k.2,
        );
  }

pub accesses_of_journals_stay : AccessesOfGuardedJournalsStay → AccessesOfJournalsStay
accesses_of_journals_stay stay p checked code emitted lawful program s log z replayed =
    let all = stay p (guarded_of p checked) code emitted lawful program s log z replayed in
    record {
      turns = λ front e more is k. turn_of p checked.answers code s front e (all.turns front e more is k);
      served = λ front e more is k apart. serves_of p checked.answers code s front e (all.served front e more is k apart);
    }
