-- An entry of a barrier: each allocation that it serves stays in what its turn reaches.
use Rattle.std.proofs.Common.{◌≡◌, true, List, [], ◌∷◌, ◌++◌, Some, None, refl, sym, ap, subst, ◌∙◌, append-nil}
use Rattle.std.specs.Prelude.{count_by}
use Rattle.ak_trace.specs.declared.entry.Entry.{Entry}
use Rattle.ak_trace.specs.Kinds as kind
use Rattle.block_store.specs.Runs.{Pick, own_at}
use Rattle.struct_ir.specs.Nodes.{Ir}
use Rattle.struct_ir.specs.Instrs.{LinearCode}
use Rattle.struct_ir.specs.Linear.{Spot}
use Rattle.struct_ir.specs.Threads.{Thread}
use Rattle.defrag_move.proofs.Kept.{IsConsistent-after_plan}
use Rattle.flat_meaning.specs.Allowed.{AreAllowed, MayServe, MayServeAll, pinned}
use Rattle.flat_meaning.specs.Events as events
use Rattle.flat_meaning.specs.Events.{Serve, after_all, after_serves, barrier, first_state, served_state}
use Rattle.flat_meaning.specs.Image.{Image, Limits, linear_image}
use Rattle.flat_meaning.specs.Journals.{journal_picks}
use Rattle.flat_meaning.specs.Order.{order_of, picks_of_serves}
use Rattle.flat_meaning.specs.Stages.{waiting}
use Rattle.flat_meaning.specs.Start.{served_ids}
use Rattle.flat_meaning.specs.Words.{Words}
use Rattle.flat_rules.specs.declared.settings.Settings.{Settings}
use Rattle.flat_rules.specs.Events.{Event}
use Rattle.flat_rules.specs.Rules.{rules_of}
use Rattle.flat_rules.specs.States.{RunState, homes_of, is_out, none_out}
use Rattle.flat_rules.specs.inner.Cases.{Holds, event_holds, same_number}
use Rattle.flat_rules.specs.inner.Steps.{IsFirst, same_kind}
use Rattle.flat_threads.specs.Contexts.{Context, IsProgram}
use Rattle.flat_machine.specs.Laws.{IsTheBarrier}
use Rattle.flat_machine.specs.Machine.{machine_of}
use Rattle.flat_machine.specs.Replays.{replay}
use Rattle.flat_machine.specs.Shares.{Shared, image_of, limits_of}
use Rattle.flat_machine.specs.Start.{settings_limits}
use Rattle.flat_machine.specs.Sweeping.{at_home, stages_home, sweep_moves, sweep_serves}
use Rattle.flat_machine.specs.lemmas.Homes.{after_serves-append}
use Rattle.flat_simulation.specs.Kinds.{TakesRightKinds, UpToAKind, LinearStandsAfter}
use Rattle.flat_simulation.proofs.AllocationsFit.{allocations_fit}
use Rattle.flat_simulation.proofs.ServedSteps.{IsServing}
use Rattle.flat_replay.specs.Barriers.{middle}
use Rattle.flat_replay.specs.Accesses.{ServeStays, StandsBy, swept_first}
use Rattle.flat_replay.specs.Ids.{ids_told}
use Rattle.flat_replay.specs.Journals.{image_for}
use Rattle.flat_replay.proofs.Barriers.{Sweeps, SweepsIf, sweeps_if}
use Rattle.flat_replay.proofs.Consistent.{Good, barrier_here, middle_agrees}
use Rattle.flat_replay.proofs.Journal.{cleared_comes, limits_same}
use Rattle.flat_replay.proofs.Segments.{Comes, joins}
use Rattle.flat_replay.proofs.Stages.{all_home}
use Rattle.flat_replay.proofs.StepAccesses.{Waiting, run_serve_stays, serves_front, serves_on, serving_all, waits_there}
use Rattle.flat_replay.proofs.Told.{Told}

module _ (p : Ir) (code : LinearCode) (s : Settings) (program : IsProgram code)
    (follows : (es : List events.Event) → AreAllowed (image_for code s) es (first_state (image_for code s))
    → UpToAKind p (order_of (image_for code s) es (first_state (image_for code s))) (λ u. LinearStandsAfter (image_for code s) p es u (after_all (image_for code s) es (first_state (image_for code s)))))
    (log : List Entry) (x : RunState Shared Context) (leads : replay code s log ≡ Some x) (good : Good code (rules_of s) x) (told : Told code (settings_limits s) log x) (going : x.ending ≡ None) where
  abbrev loaded : Image Spot
  loaded = image_for code s

  module _ (quiet : count_by is_out x.places ≡ 0) where
    abbrev here : events.MachineState Spot
    here = at_home (middle code s x) (homes_of x.places)

    abbrev slid : events.MachineState Spot
    slid = swept_first code (middle code s x) x

    abbrev serves : List Serve
    serves = sweep_serves (image_of code (middle code s x)) (at_home (middle code s x) (homes_of x.places))

    the_barrier : IsTheBarrier code (middle code s x) (homes_of x.places)
    the_barrier = barrier_here code (rules_of s) x good.held going quiet good.agrees s.evacuate

    home_is : told.state ≡ at_home x.shared (homes_of x.places)
    home_is = λ i. record { memory = told.stands.memory i; own = (told.stands.stages going ∙ ap (stages_home x.shared.memory.threads) (all_home x.places quiet)) i; end = (told.stands.ending ∙ going) i }

    -- the run goes on behind them all
    all_on : (after_serves (image_of code (middle code s x)) serves slid).end ≡ None
    all_on = sym (ap (λ (z : events.MachineState Spot). z.end) the_barrier.after)

    -- where it begins to serve, no object is about to leave
    begins : IsServing slid
    begins = record { words = []; leaving = refl; live = tt; consistent = IsConsistent-after_plan (pinned (image_of code (middle code s x)) here) (sweep_moves (image_of code (middle code s x)) here) (middle code s x).memory.storage (middle_agrees code (rules_of s) x good.held going quiet good.agrees s.evacuate) the_barrier.allowed.0.1.1 }

    -- an allocation, behind these
    module _ (vs : List Serve) (v : Serve) (us : List Serve) (is : sweep_serves (image_of code (middle code s x)) (at_home (middle code s x) (homes_of x.places)) ≡ vs ++ v ∷ us) where
      abbrev r : events.MachineState Spot
      r = after_serves (image_of code (middle code s x)) vs (swept_first code (middle code s x) x)

      may : MayServeAll (image_of code (middle code s x)) vs slid × MayServeAll (image_of code (middle code s x)) (v ∷ us) r
      may = serves_front (image_of code (middle code s x)) vs (v ∷ us) slid (subst (λ (l : List Serve). MayServeAll (image_of code (middle code s x)) l slid) is the_barrier.allowed.0.1.2)

      on : r.end ≡ None
      on = serves_on (image_of code (middle code s x)) (v ∷ us) r (ap (λ (z : events.MachineState Spot). z.end) (sym (after_serves-append (image_of code (middle code s x)) vs (v ∷ us) slid) ∙ ap (λ (l : List Serve). after_serves (image_of code (middle code s x)) l slid) (sym is)) ∙ all_on)

      who : Waiting (image_of code (middle code s x)) r.memory v.choice (own_at r.own v.thread)
      who = waits_there (image_of code (middle code s x)) r.memory v.choice (own_at r.own v.thread) may.1.0

      its_picks : List Pick
      its_picks = journal_picks log ++ picks_of_serves (image_of code (middle code s x)) vs (swept_first code (middle code s x) x)

      -- a barrier that serves but these
      first_part : Comes (image_of code (middle code s x)) here (served_state r) (picks_of_serves (image_of code (middle code s x)) vs (swept_first code (middle code s x) x)) (λ turns. []) (served_ids vs)
      first_part = record {
        events = barrier (sweep_moves (image_of code (middle code s x)) here) vs ∷ [];
        allowed = ((the_barrier.allowed.0.0, (the_barrier.allowed.0.1.0, the_barrier.allowed.0.1.1, may.0)), tt);
        after = refl;
        order = append-nil _;
        attempts = λ turns. refl;
        ids = append-nil _;
      }

      stays : (q : Thread Spot Words) × (own_at r.own v.thread ≡ Some (waiting q))
          × UpToAKind p (journal_picks log ++ picks_of_serves (image_of code (middle code s x)) vs (swept_first code (middle code s x) x)) (λ u. StandsBy (image_of code (middle code s x)) p (ids_told log ++ served_ids vs) u (served_state r) × (TakesRightKinds p u v.thread → ServeStays (image_of code (middle code s x)) p (ids_told log ++ served_ids vs) u (served_state r) v q))
      stays =
          let limits : limits_of (middle code s x) ≡ settings_limits s = limits_same code (rules_of s) program x good going 0 quiet ∙ told.same in
          let cleared_loaded : Comes loaded (at_home x.shared (homes_of x.places)) here [] (λ turns. []) [] =
          subst (λ (l : Limits). Comes (linear_image code l) (at_home x.shared (homes_of x.places)) here [] (λ turns. []) []) told.same (cleared_comes code (rules_of s) program x good going 0 quiet s.evacuate) in
          let at_loaded : Comes loaded here (served_state r) (picks_of_serves (image_of code (middle code s x)) vs (swept_first code (middle code s x) x)) (λ turns. []) (served_ids vs) =
          subst (λ (l : Limits). Comes (linear_image code l) here (served_state r) (picks_of_serves (image_of code (middle code s x)) vs (swept_first code (middle code s x) x)) (λ turns. []) (served_ids vs)) limits first_part in
          let both : Comes loaded (at_home x.shared (homes_of x.places)) (served_state r) (picks_of_serves (image_of code (middle code s x)) vs (swept_first code (middle code s x) x)) (λ turns. []) (served_ids vs) =
          joins loaded (at_home x.shared (homes_of x.places)) here (served_state r) [] _ (λ turns. []) (λ turns. []) [] (served_ids vs) cleared_loaded at_loaded in
          let may_loaded : MayServe loaded r.memory v.choice (Some (waiting who.thread)) = subst (λ (l : Limits). MayServe (linear_image code l) r.memory v.choice (Some (waiting who.thread))) limits who.may in
          let all = joins loaded (first_state loaded) told.state (served_state r) _ _ _ _ (ids_told log) (served_ids vs) told.comes
          (subst (λ (z : events.MachineState Spot). Comes loaded z (served_state r) (picks_of_serves (image_of code (middle code s x)) vs (swept_first code (middle code s x) x)) (λ turns. []) (served_ids vs)) (sym home_is) both) in (
            who.thread,
            who.is,
            subst (λ (l : Limits). UpToAKind p (journal_picks log ++ picks_of_serves (image_of code (middle code s x)) vs (swept_first code (middle code s x) x)) (λ u. StandsBy (linear_image code l) p (ids_told log ++ served_ids vs) u (served_state r) × (TakesRightKinds p u v.thread → ServeStays (linear_image code l) p (ids_told log ++ served_ids vs) u (served_state r) v who.thread))) (sym limits)
                (run_serve_stays loaded p follows (allocations_fit code program.valid) r (serving_all (image_of code (middle code s x)) vs slid begins may.0) _ _ _ all v who.thread on who.is may_loaded),
          )

  -- what holds of the allocations that are served, where this is the state behind the event's first entry
  pub record Serves (next : RunState Shared Context) : Type 0 where
    pub alone : none_out (machine_of code) (rules_of s) x ≡ true
    pub memory : let y = image_of code (middle code s x) in
        next.shared.memory ≡ (served_state (after_serves y (sweep_serves y (at_home (middle code s x) (homes_of x.places))) (swept_first code (middle code s x) x))).memory
    pub keeps : let y = image_of code (middle code s x) in (vs : List Serve) (v : Serve) (us : List Serve) → sweep_serves y (at_home (middle code s x) (homes_of x.places)) ≡ vs ++ v ∷ us
        → (q : Thread Spot Words) × (own_at (after_serves y vs (swept_first code (middle code s x) x)).own v.thread ≡ Some (waiting q))
        × UpToAKind p (journal_picks log ++ picks_of_serves y vs (swept_first code (middle code s x) x))
        (λ u. StandsBy y p (ids_told log ++ served_ids vs) u (served_state (after_serves y vs (swept_first code (middle code s x) x)))
        × (TakesRightKinds p u v.thread → ServeStays y p (ids_told log ++ served_ids vs) u (served_state (after_serves y vs (swept_first code (middle code s x) x))) v q))

  -- a barrier's entry, or its evacuation's, that begins an event
  pub serves_here : (e : Entry) (next : RunState Shared Context) → e.kind ≡ kind.barrier → IsFirst (machine_of code) (rules_of s) x e next → Serves next
  serves_here e next is f =
      let sweep : Sweeps (machine_of code) (rules_of s) x e.worker f.v = subst (Holds (machine_of code) (rules_of s) x e.worker (SweepsIf (machine_of code) (rules_of s) x e.worker)) f.event (event_holds (machine_of code) (rules_of s) x e.worker (SweepsIf (machine_of code) (rules_of s) x e.worker) (sweeps_if (machine_of code) (rules_of s) x e.worker) e.kind e.thread) f.d f.ds f.entries (sym (same_kind e f.d f.same) ∙ is) in
      record {
        alone = sweep.alone;
        memory = ap (λ (z : RunState Shared Context). z.shared.memory) f.is ∙ ap (λ (v : Event Shared Context). v.after.shared.memory) sweep.is;
        keeps = stays (same_number _ 0 sweep.alone);
      }
