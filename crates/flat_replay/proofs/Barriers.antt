-- What the barriers of a run keep, and the evacuations before them.
use Rattle.std.proofs.Common.{◌≡◌, ℕ, ◌==◌, zero, suc, Bool, true, false, List, [], ◌∷◌, ◌++◌, length, Some, None, refl, sym, ap, ◌∙◌, subst}
use Rattle.std.specs.Prelude.{◌≢◌, count_by, slice_get, option_and_then, if◌then◌else◌}
use Rattle.std.proofs.lemmas.Option.{option_and_then_some}
use Rattle.ak_trace.specs.declared.entry.Entry.{Entry}
use Rattle.ak_trace.specs.Hows as how
use Rattle.ak_trace.specs.Kinds as kind
use Rattle.sub_heaps.specs.SubHeaps.{SubHeaps}
use Rattle.move_plan.specs.Sliding.{IsSlide}
use Rattle.move_plan.proofs.Slid.{slide_moves}
use Rattle.move_plan.proofs.Slides.{IsSlide-slide_moves}
use Rattle.arena_meaning.specs.Arena.{IsConsistent}
use Rattle.defrag_move.proofs.Kept.{keeps_all}
use Rattle.flat_meaning.specs.Allowed.{pinned}
use Rattle.struct_ir.specs.Instrs.{LinearCode}
use Rattle.flat_meaning.specs.Image.{linear_image}
use Rattle.flat_meaning.specs.Ready.{has_ended}
use Rattle.flat_meaning.specs.Simulation.{IsLoadable}
use Rattle.flat_rules.specs.declared.settings.Settings.{Settings}
use Rattle.flat_rules.specs.Entries.{barrier_entry, evacuation_entry, sweep_entries}
use Rattle.flat_rules.specs.Events.{Event, barrier_event}
use Rattle.flat_rules.specs.Lawful.{IsOpened}
use Rattle.flat_rules.specs.Machine.{Machine, Served, cleared, sweep}
use Rattle.flat_rules.specs.Replays.{run, settled, step}
use Rattle.flat_rules.specs.Rules.{Rules, rules_of}
use Rattle.flat_rules.specs.States.{RunState, homes_of, is_out, none_out, start, waits_for_room}
use Rattle.flat_rules.specs.inner.Cases.{Cases, Holds, event_holds, same_number}
use Rattle.flat_rules.specs.inner.Steps.{IsFirst, IsNext, entry_is, run-append, same_kind, step_cases}
use Rattle.flat_threads.specs.Contexts.{Context, IsProgram}
use Rattle.world_rules.proofs.Invariant.{none_ends}
use Rattle.world_rules.proofs.Walks.{at_entry, withins}
use Rattle.flat_machine.specs.Clearing.{cleared_state, shared_cleared}
use Rattle.flat_machine.specs.Machine.{machine_of}
use Rattle.flat_machine.specs.Replays.{replay}
use Rattle.flat_machine.specs.Shares.{Shared, IsSharedOf, image_of}
use Rattle.flat_machine.specs.Start.{first_shared, settings_limits}
use Rattle.flat_machine.specs.Sweeping.{at_home}
use Rattle.flat_machine.proofs.Opened.{opened_of}
use Rattle.flat_simulation.proofs.Loaded.{first_consistent}
use Rattle.flat_machine.proofs.Slid.{slide_is}
use Rattle.flat_replay.specs.Barriers.{BarrierBehind, BarrierKeeps, EvacuationBehind, directly, behind_evacuation, middle, moves_away, moves_next, threads_home}
use Rattle.flat_replay.specs.Laws.{BarriersOfARunKeepObjects}
use Rattle.flat_replay.proofs.Consistent.{Good, all_good, barrier_here, evacuation_here, middle_agrees}

-- ---- which event a barrier's entry begins

module _ {S C : Type 0} (m : Machine S C) (rules : Rules) (x : RunState S C) (w : ℕ) where
  -- the event is a barrier, or an evacuation and a barrier, which comes where none is out
  pub record Sweeps (v : Event S C) : Type 0 where
    pub alone : none_out m rules x ≡ true
    pub is : v ≡ barrier_event m rules x w (cleared m rules.evacuates x.shared (homes_of x.places)).moved (sweep m rules.evacuates x.shared (homes_of x.places))

  abbrev pub SweepsIf : Event S C → Type 0
  SweepsIf v = (d : Entry) (ds : List Entry) → v.entries ≡ d ∷ ds → d.kind ≡ kind.barrier → Sweeps v

  other : (v : Event S C) (e : Entry) (k : ℕ) → e.kind ≡ k → (k ≡ kind.barrier → ⊥) → (d : Entry) (ds : List Entry) → e ∷ [] ≡ d ∷ ds → d.kind ≡ kind.barrier → Sweeps v
  other v e k is never d ds same at = absurd (never (let h : e ≡ d = cc same in sym is ∙ (ap (λ (z : Entry). z.kind) h ∙ at)))

  pub sweeps_if : Cases m rules x w SweepsIf
  sweeps_if = record {
    begins = λ t c calm picked at. other _ _ kind.out refl (λ e. cc e);
    leaves = λ t c calm picked at. other _ _ kind.out refl (λ e. cc e);
    sweeps = λ want none d ds e k. record { alone = none; is = refl };
    works = λ t n c at. other _ _ kind.turn refl (λ e. cc e);
    rests = λ t n c at. other _ _ kind.turn refl (λ e. cc e);
    comes = λ t n c at. other _ _ kind.home refl (λ e. cc e);
  }

-- its first entry tells whether an evacuation came first
moved_by : (w : ℕ) (moved room : Bool) (ss : List Served) (d : Entry) (ds : List Entry) → sweep_entries w moved room ss ≡ d ∷ ds → (d.how ≡ how.evacuation → moved ≡ true) × (d.how ≢ how.evacuation → moved ≡ false)
moved_by w true room ss d ds h = let a : evacuation_entry w ≡ d = cc h in (λ e. refl, λ n. absurd (n (sym (ap (λ (z : Entry). z.how) a))))
moved_by w false true ss d ds h = let a : barrier_entry w true ≡ d = cc h in (λ e. absurd (let z : how.for_room ≡ how.evacuation = ap (λ (z : Entry). z.how) a ∙ e in cc z), λ n. refl)
moved_by w false false ss d ds h = let a : barrier_entry w false ≡ d = cc h in (λ e. absurd (let z : how.for_every ≡ how.evacuation = ap (λ (z : Entry). z.how) a ∙ e in cc z), λ n. refl)

module _ {S C : Type 0} (m : Machine S C) (rules : Rules) (shared : S) where
  -- an entry that is due, and a barrier's, stands behind the entry of its evacuation
  pub record Behind (before : List Entry) (x : RunState S C) (d : Entry) : Type 0 where
    pub front : List Entry
    pub v : Entry
    pub is : before ≡ front ++ v ∷ []
    pub kind_is : v.kind ≡ kind.barrier
    pub how_is : v.how ≡ how.evacuation
    pub apart : d.how ≢ how.evacuation
    pub z : RunState S C
    pub ran : run m rules front (start m rules shared) ≡ Some z
    pub st : step m rules z v ≡ Some x

  module _ (before : List Entry) (x : RunState S C) (ran : run m rules before (start m rules shared) ≡ Some x) (e : Entry) (y : RunState S C) (is : e.kind ≡ kind.barrier) where
    pub due_behind : IsNext m rules x e y → Behind before x e
    due_behind n =
        let same : e ≡ n.d = entry_is e n.d n.same in
        let q = (withins m rules shared before x ran).behind n.d n.ds n.due (sym (ap (λ (z : Entry). z.kind) same) ∙ is) in
        at_entry m rules (start m rules shared) q.0 q.1 [] x (ap (λ (es : List Entry). run m rules es (start m rules shared)) (sym q.2) ∙ ran) {R = Behind before x e}
        (λ z u was st after. record { front = q.0; v = q.1; is = q.2; kind_is = q.3; how_is = q.4; apart = subst (λ (k : Entry). k.how ≢ how.evacuation) (sym same) q.5; z = z; ran = was; st = st ∙ after })

    -- so an evacuation's is none that is due
    pub none_next : e.how ≡ how.evacuation → IsNext m rules x e y → ⊥
    none_next how_is n = (due_behind n).apart how_is

-- ---- what it keeps

pub ran_on : (code : LinearCode) (s : Settings) (log : List Entry) (x : RunState Shared Context) (e : Entry) (y : RunState Shared Context)
    → run (machine_of code) (rules_of s) log (start (machine_of code) (rules_of s) (first_shared code (settings_limits s))) ≡ Some x → step (machine_of code) (rules_of s) x e ≡ Some y
    → run (machine_of code) (rules_of s) (log ++ e ∷ []) (start (machine_of code) (rules_of s) (first_shared code (settings_limits s))) ≡ Some y
ran_on code s log x e y ran st =
    run-append (machine_of code) (rules_of s) log (e ∷ []) (start (machine_of code) (rules_of s) (first_shared code (settings_limits s)))
    ∙ (ap (option_and_then (run (machine_of code) (rules_of s) (e ∷ []))) ran ∙ ap (option_and_then (run (machine_of code) (rules_of s) [])) st)

module _ (code : LinearCode) (s : Settings) (program : IsProgram code) (loadable : IsLoadable (linear_image code (settings_limits s)).layout) where
  abbrev m : Machine Shared Context
  m = machine_of code

  abbrev first : RunState Shared Context
  first = start m (rules_of s) (first_shared code (settings_limits s))

  none_ended : (k : ℕ) → has_ended (slice_get (first_shared code (settings_limits s)).memory.threads k) ≡ false
  none_ended zero = refl
  none_ended (suc k) = refl

  pub opened : IsOpened m (IsSharedOf code) (first_shared code (settings_limits s))
  opened = record { of_ = opened_of code (settings_limits s) program; one = refl; going = none_ended }

  good : (log : List Entry) (x : RunState Shared Context) → run m (rules_of s) log first ≡ Some x → Good code (rules_of s) x
  good = all_good code (rules_of s) (first_shared code (settings_limits s)) opened (first_consistent (linear_image code (settings_limits s)).layout loadable)

  -- its moves slide
  slides_next : (shared : Shared) (x : RunState Shared Context) → IsConsistent shared.memory.storage → IsSlide (pinned (image_of code shared) (threads_home shared x)) shared.memory.storage.heaps (moves_next code shared x)
  slides_next shared x agrees =
      let p : ℕ → Bool = pinned (image_of code shared) (threads_home shared x) in
      let h : SubHeaps = shared.memory.storage.heaps in
      let low = IsSlide-slide_moves p h agrees.heaps in
      subst (IsSlide p h) (slide_is p h (slide_moves p h.size 0 h.objects) agrees.heaps low) low

  -- what an evacuation leaves: what its moves do, or, where it has none, what was there
  module _ (x : RunState Shared Context) where
    asked_by : (on : Bool) → (cleared m on x.shared (homes_of x.places)).moved ≡ true → on ≡ true
    asked_by true e = refl
    asked_by false e = absurd (cc e)

    moved_memory : (on : Bool) → (cleared m on x.shared (homes_of x.places)).moved ≡ true → (cleared m on x.shared (homes_of x.places)).shared.memory ≡ (cleared_state (image_of code x.shared) (at_home x.shared (homes_of x.places))).memory
    moved_memory true e = ap (λ (b : Bool). (shared_cleared (image_of code x.shared) x.shared (at_home x.shared (homes_of x.places)) b).memory) e
    moved_memory false e = absurd (cc e)

    same_memory : (on : Bool) → (cleared m on x.shared (homes_of x.places)).moved ≡ false → (cleared m on x.shared (homes_of x.places)).shared.memory ≡ x.shared.memory
    same_memory true e = ap (λ (b : Bool). (shared_cleared (image_of code x.shared) x.shared (at_home x.shared (homes_of x.places)) b).memory) e
    same_memory false e = refl

  -- a barrier, by the memory behind it
  barrier_keeps : (x y : RunState Shared Context) → Good code (rules_of s) x → x.ending ≡ None → count_by is_out x.places ≡ 0 → y.shared.memory ≡ (sweep m s.evacuate x.shared (homes_of x.places)).shared.memory → BarrierKeeps code x (middle code s x) y
  barrier_keeps x y g going quiet behind =
      let agrees : IsConsistent (middle code s x).memory.storage = middle_agrees code (rules_of s) x g.held going quiet g.agrees s.evacuate in
      let b = barrier_here code (rules_of s) x g.held going quiet g.agrees s.evacuate in
      record {
        consistent = agrees;
        slides = slides_next (middle code s x) x agrees;
        objects = keeps_all _ (moves_next code (middle code s x) x) (middle code s x).memory.storage agrees b.allowed.0.1.1;
        behind = behind;
      }

  -- in a state that a journal reaches
  module _ (before : List Entry) (e : Entry) (x y : RunState Shared Context) (ran : run m (rules_of s) before first ≡ Some x) (is : e.kind ≡ kind.barrier) where
    -- an entry that begins an event
    module _ (f : IsFirst m (rules_of s) x e y) where
      pub swept_by_it : Sweeps m (rules_of s) x e.worker f.v
      swept_by_it = subst (Holds m (rules_of s) x e.worker (SweepsIf m (rules_of s) x e.worker)) f.event (event_holds m (rules_of s) x e.worker (SweepsIf m (rules_of s) x e.worker) (sweeps_if m (rules_of s) x e.worker) e.kind e.thread) f.d f.ds f.entries (sym (same_kind e f.d f.same) ∙ is)

      leads : replay code s before ≡ Some x
      leads = ap (option_and_then (settled m (rules_of s))) ran ∙ ap (λ (due : List Entry). if length due == 0 then Some x else None) f.settled

      quiet : count_by is_out x.places ≡ 0
      quiet = same_number _ 0 swept_by_it.alone

      going : x.ending ≡ None
      going = none_ends x.ending _ f.live

      memory : y.shared.memory ≡ (sweep m s.evacuate x.shared (homes_of x.places)).shared.memory
      memory = ap (λ (z : RunState Shared Context). z.shared.memory) f.is ∙ ap (λ (v : Event Shared Context). v.after.shared.memory) swept_by_it.is

      moved : (e.how ≡ how.evacuation → (cleared m s.evacuate x.shared (homes_of x.places)).moved ≡ true) × (e.how ≢ how.evacuation → (cleared m s.evacuate x.shared (homes_of x.places)).moved ≡ false)
      moved =
          let same : e ≡ f.d = entry_is e f.d f.same in
          subst (λ (k : Entry). (k.how ≡ how.evacuation → (cleared m s.evacuate x.shared (homes_of x.places)).moved ≡ true) × (k.how ≢ how.evacuation → (cleared m s.evacuate x.shared (homes_of x.places)).moved ≡ false)) (sym same)
          (moved_by e.worker (cleared m s.evacuate x.shared (homes_of x.places)).moved (waits_for_room m (rules_of s) x) (sweep m s.evacuate x.shared (homes_of x.places)).served f.d f.ds (ap (λ (v : Event Shared Context). v.entries) (sym swept_by_it.is) ∙ f.entries))

      evacuation_first : e.how ≡ how.evacuation → EvacuationBehind code s before
      evacuation_first how_is =
          let g = good before x ran in
          let v = evacuation_here code (rules_of s) x g.held going quiet g.agrees in
          record {
            here = x;
            leads = leads;
            alone = swept_by_it.alone;
            asked = asked_by x s.evacuate (moved.0 how_is);
            keeps = record {
              consistent = g.agrees;
              legal = v.allowed.0.1.1;
              objects = keeps_all _ (moves_away code x) x.shared.memory.storage g.agrees v.allowed.0.1.1;
              behind = moved_memory x s.evacuate (moved.0 how_is);
            };
          }

      barrier_first : e.how ≢ how.evacuation → step m (rules_of s) x e ≡ Some y → BarrierBehind code s before e
      barrier_first apart st = record {
        front = before;
        here = x;
        leads = leads;
        alone = swept_by_it.alone;
        stands = directly refl (same_memory x s.evacuate (moved.1 apart));
        next = y;
        comes = ran_on code s before x e y ran st;
        keeps = barrier_keeps x y (good before x ran) going quiet memory;
      }

  module _ (before : List Entry) (e : Entry) (x y : RunState Shared Context) (ran : run m (rules_of s) before first ≡ Some x) (st : step m (rules_of s) x e ≡ Some y) (is : e.kind ≡ kind.barrier) where
    evacuation_found : e.how ≡ how.evacuation → EvacuationBehind code s before
    evacuation_found how_is = step_cases m (rules_of s) x e y {R = EvacuationBehind code s before}
        (λ n. absurd (none_next m (rules_of s) (first_shared code (settings_limits s)) before x ran e y is how_is n))
        (λ f. evacuation_first before e x y ran is f how_is)
        st

    -- behind its evacuation's entry, which begins the event
    barrier_due : IsNext m (rules_of s) x e y → BarrierBehind code s before e
    barrier_due n =
        let b = due_behind m (rules_of s) (first_shared code (settings_limits s)) before x ran e y is n in
        step_cases m (rules_of s) b.z b.v x {R = BarrierBehind code s before e}
        (λ n'. absurd (none_next m (rules_of s) (first_shared code (settings_limits s)) b.front b.z b.ran b.v x b.kind_is b.how_is n'))
        (λ f. record {
          front = b.front;
          here = b.z;
          leads = leads b.front b.v b.z x b.ran b.kind_is f;
          alone = (swept_by_it b.front b.v b.z x b.ran b.kind_is f).alone;
          stands = behind_evacuation b.v b.is b.kind_is b.how_is;
          next = y;
          comes = ran_on code s before x e y ran st;
          keeps = barrier_keeps b.z y (good b.front b.z b.ran) (going b.front b.v b.z x b.ran b.kind_is f) (quiet b.front b.v b.z x b.ran b.kind_is f)
              (ap (λ (z : RunState Shared Context). z.shared.memory) n.is ∙ memory b.front b.v b.z x b.ran b.kind_is f);
        })
        b.st

    barrier_found : e.how ≢ how.evacuation → BarrierBehind code s before e
    barrier_found apart = step_cases m (rules_of s) x e y {R = BarrierBehind code s before e} barrier_due (λ f. barrier_first before e x y ran is f apart st) st

pub barriers_of_a_run_keep_objects : BarriersOfARunKeepObjects
barriers_of_a_run_keep_objects code s program loadable log z replays = record {
  evacuations = λ before e more is barrier evacuates. at before e more is (EvacuationBehind code s before) (λ x y was st. evacuation_found code s program loadable before e x y was st barrier evacuates);
  barriers = λ before e more is barrier apart. at before e more is (BarrierBehind code s before e) (λ x y was st. barrier_found code s program loadable before e x y was st barrier apart);
}
  where
    at : (before : List Entry) (e : Entry) (more : List Entry) → log ≡ before ++ e ∷ more → (R : Type 0)
        → ((x y : RunState Shared Context) → run (machine_of code) (rules_of s) before (start (machine_of code) (rules_of s) (first_shared code (settings_limits s))) ≡ Some x → step (machine_of code) (rules_of s) x e ≡ Some y → R) → R
    at before e more is R go =
        option_and_then_some (settled (machine_of code) (rules_of s)) (run (machine_of code) (rules_of s) log (start (machine_of code) (rules_of s) (first_shared code (settings_limits s)))) z replays (λ w ran _.
        at_entry (machine_of code) (rules_of s) (start (machine_of code) (rules_of s) (first_shared code (settings_limits s))) before e more w (ap (λ (es : List Entry). run (machine_of code) (rules_of s) es (start (machine_of code) (rules_of s) (first_shared code (settings_limits s)))) (sym is) ∙ ran) {R = R}
        (λ x y was st after. go x y was st))
