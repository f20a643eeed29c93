-- A walk over a journal: at a barrier no thread is out, and the entries of a thread that is out are its worker's.
use Rattle.std.proofs.Common.{◌≡◌, ℕ, ◌==◌, ◌&&◌, Bool, true, false, List, [], ◌∷◌, ◌++◌, map, ap, sym, subst, ◌∙◌, refl, arith, Option, Some, None}
use Rattle.std.specs.Prelude.{option_and_then, ◌≢◌, ◌⊎◌}
use mathlib.Core.Logic.{inl, inr}
use Rattle.std.proofs.lemmas.Option.{option_and_then_some}
use Rattle.ak_trace.specs.declared.entry.Entry.{Entry}
use Rattle.ak_trace.specs.Kinds as kind
use Rattle.ak_trace.specs.Hows as how
use Rattle.flat_rules.specs.Rules.{Rules}
use Rattle.flat_rules.specs.Machine.{Machine, Served, cleared, sweep}
use Rattle.flat_rules.specs.Entries.{served_with, served_entry, barrier_entry, evacuation_entry, sweep_entries}
use Rattle.flat_rules.specs.States.{RunState, Place, unbegun, home, out, free, asked, must, Mood, place_at, homes_of, none_out, waits_for_room, start}
use Rattle.flat_rules.specs.Events.{Event}
use Rattle.flat_rules.specs.Replays.{same_entry, step, run}
use Rattle.flat_rules.specs.inner.Cases.{Cases, Holds, event_holds, same_number}
use Rattle.flat_rules.specs.inner.Steps.{step_cases, run_keeps, run-append, same_kind, entry_is}
use Rattle.flat_rules.proofs.Alone.{barriers_alone}
use Rattle.flat_rules.proofs.Spares.{sweep_first}
use Rattle.world_rules.specs.Whole.{Whole, Leads}
use Rattle.world_rules.specs.Journals.{IsBehind, NoneOutAtBarriers, OutIsOwn}
use Rattle.world_rules.specs.Every.{AllServed, IsTail, IsBarrier, EndsAtBarrier}
use Rattle.world_rules.specs.inner.Stays.{some_out}

and_left : (a b : Bool) → (a && b) ≡ true → a ≡ true
and_left true b h = refl
and_left false b h = absurd (cc h)

and_right : (a b : Bool) → (a && b) ≡ true → b ≡ true
and_right true b h = h
and_right false b h = absurd (cc h)

same_worker : (a b : Entry) → same_entry a b ≡ true → a.worker ≡ b.worker
same_worker a b h = same_number a.worker b.worker (and_right (a.kind == b.kind) _ (and_left _ _ (and_left _ _ h)))

same_thread : (a b : Entry) → same_entry a b ≡ true → a.thread ≡ b.thread
same_thread a b h = same_number a.thread b.thread (and_left _ (a.how == b.how) (and_right ((a.kind == b.kind) && (a.worker == b.worker)) _ (and_left _ _ h)))

-- each is a served one
all_served : (w : ℕ) (ss : List Served) → AllServed (map (served_entry w) ss)
all_served w [] = tt
all_served w (s ∷ ss) = (by s.object, all_served w ss)
  where
    by : (o : Option (ℕ × ℕ)) → (served_with w s.thread o).kind ≡ kind.served
    by None = refl
    by (Some object) = refl

served_tail : (es : List Entry) → AllServed es → IsTail es
served_tail [] h = tt
served_tail (e ∷ es) h = (inl h.0, h.1)

-- no barrier is an evacuation
not_evacuation : (w : ℕ) (room : Bool) → (barrier_entry w room).how ≢ how.evacuation
not_evacuation w true h = cc h
not_evacuation w false h = cc h

module _ {S C : Type 0} (m : Machine S C) (rules : Rules) where
  -- the entries of an event after its first
  abbrev Tail : Event S C → Type 0
  Tail v = (d : Entry) (ds : List Entry) → v.entries ≡ d ∷ ds → IsTail ds

  single : (e d : Entry) (ds : List Entry) → e ∷ [] ≡ d ∷ ds → IsTail ds
  single e d ds h = let none : [] ≡ ds = cc h in subst IsTail none tt

  sweep_tail : (w : ℕ) (moved room : Bool) (ss : List Served) (d : Entry) (ds : List Entry) → sweep_entries w moved room ss ≡ d ∷ ds → IsTail ds
  sweep_tail w true room ss d ds h = let e : barrier_entry w room ∷ map (served_entry w) ss ≡ ds = cc h in subst IsTail e (inr refl, all_served w ss)
  sweep_tail w false room ss d ds h = let e : map (served_entry w) ss ≡ ds = cc h in subst IsTail e (served_tail _ (all_served w ss))

  tails : (s : RunState S C) (w : ℕ) → Cases m rules s w Tail
  tails s w = record {
    begins = λ t c rest pick at. single _;
    leaves = λ t c rest pick at. single _;
    sweeps = λ want none d ds h. sweep_tail w (cleared m rules.evacuates s.shared (homes_of s.places)).moved (waits_for_room m rules s) (sweep m rules.evacuates s.shared (homes_of s.places)).served d ds h;
    works = λ t n c at. single _;
    rests = λ t n c at. single _;
    comes = λ t n c at. single _;
  }

  -- where the second entry of an event is a barrier's, the first is an evacuation, and no thread is out
  abbrev Second : RunState S C → Event S C → Type 0
  Second s v = (d d2 : Entry) (ds : List Entry) → v.entries ≡ d ∷ d2 ∷ ds → d2.kind ≡ kind.barrier → (d.kind ≡ kind.barrier) × (d.how ≡ how.evacuation) × (d2.how ≢ how.evacuation) × (none_out m rules s ≡ true)

  alone_second : (s : RunState S C) (e d d2 : Entry) (ds : List Entry) → e ∷ [] ≡ d ∷ d2 ∷ ds → d2.kind ≡ kind.barrier → (d.kind ≡ kind.barrier) × (d.how ≡ how.evacuation) × (d2.how ≢ how.evacuation) × (none_out m rules s ≡ true)
  alone_second s e d d2 ds h k = absurd (let z : [] ≡ d2 ∷ ds = cc h in cc z)

  sweep_second : (s : RunState S C) → none_out m rules s ≡ true → (w : ℕ) (moved room : Bool) (ss : List Served) (d d2 : Entry) (ds : List Entry) → sweep_entries w moved room ss ≡ d ∷ d2 ∷ ds → d2.kind ≡ kind.barrier
      → (d.kind ≡ kind.barrier) × (d.how ≡ how.evacuation) × (d2.how ≢ how.evacuation) × (none_out m rules s ≡ true)
  sweep_second s none w true room ss d d2 ds h k =
      let a : evacuation_entry w ≡ d = cc h in let b : barrier_entry w room ≡ d2 = cc h in
      (sym (ap (λ (z : Entry). z.kind) a), sym (ap (λ (z : Entry). z.how) a), subst (λ (z : Entry). z.how ≢ how.evacuation) b (not_evacuation w room), none)
  sweep_second s none w false room ss d d2 ds h k =
      let e : map (served_entry w) ss ≡ d2 ∷ ds = cc h in let q : AllServed (d2 ∷ ds) = subst AllServed e (all_served w ss) in absurd (let z : kind.barrier ≡ kind.served = sym k ∙ q.0 in cc z)

  seconds : (s : RunState S C) (w : ℕ) → Cases m rules s w (Second s)
  seconds s w = record {
    begins = λ t c rest pick at. alone_second s _;
    leaves = λ t c rest pick at. alone_second s _;
    sweeps = λ want none. sweep_second s none w (cleared m rules.evacuates s.shared (homes_of s.places)).moved (waits_for_room m rules s) (sweep m rules.evacuates s.shared (homes_of s.places)).served;
    works = λ t n c at. alone_second s _;
    rests = λ t n c at. alone_second s _;
    comes = λ t n c at. alone_second s _;
  }

  -- an event of more than one entry leaves no Turn entry since
  abbrev Rests : Event S C → Type 0
  Rests v = (d d2 : Entry) (ds : List Entry) → v.entries ≡ d ∷ d2 ∷ ds → v.after.since ≡ 0

  alone_rests : (since : ℕ) (e d d2 : Entry) (ds : List Entry) → e ∷ [] ≡ d ∷ d2 ∷ ds → since ≡ 0
  alone_rests since e d d2 ds h = absurd (let z : [] ≡ d2 ∷ ds = cc h in cc z)

  restings : (s : RunState S C) (w : ℕ) → Cases m rules s w Rests
  restings s w = record {
    begins = λ t c rest pick at. alone_rests _ _;
    leaves = λ t c rest pick at. alone_rests _ _;
    sweeps = λ want none d d2 ds h. refl;
    works = λ t n c at. alone_rests _ _;
    rests = λ t n c at. alone_rests _ _;
    comes = λ t n c at. alone_rests _ _;
  }

  -- what is still to come of an event: served ones, or first a barrier, behind the evacuation that the journal ends with
  pub record Within (shared : S) (log : List Entry) (s : RunState S C) : Type 0 where
    pub ran : run m rules log (start m rules shared) ≡ Some s
    pub tail : IsTail s.due
    pub since : (d : Entry) (ds : List Entry) → s.due ≡ d ∷ ds → s.since ≡ 0
    pub behind : (d : Entry) (ds : List Entry) → s.due ≡ d ∷ ds → d.kind ≡ kind.barrier
        → (front : List Entry) × (v : Entry) × (log ≡ front ++ v ∷ []) × (v.kind ≡ kind.barrier) × (v.how ≡ how.evacuation) × (d.how ≢ how.evacuation)
        × (z : RunState S C) × (run m rules front (start m rules shared) ≡ Some z) × (z.due ≡ []) × (none_out m rules z ≡ true)

  ran_on : (shared : S) (log : List Entry) (s : RunState S C) (e : Entry) (s' : RunState S C) → run m rules log (start m rules shared) ≡ Some s → step m rules s e ≡ Some s' → run m rules (log ++ e ∷ []) (start m rules shared) ≡ Some s'
  ran_on shared log s e s' ran st = run-append m rules log (e ∷ []) (start m rules shared) ∙ (ap (option_and_then (run m rules (e ∷ []))) ran ∙ ap (option_and_then (run m rules [])) st)

  -- the served ones behind the first of a tail
  tail_rest : (d : Entry) (ds : List Entry) → IsTail (d ∷ ds) → AllServed ds
  tail_rest d ds h = h.1

  no_more : (es : List Entry) → AllServed es → (d : Entry) (ds : List Entry) → es ≡ d ∷ ds → d.kind ≡ kind.barrier → ⊥
  no_more es all d ds e k = let h : AllServed (d ∷ ds) = subst AllServed e all in let z : kind.barrier ≡ kind.served = sym k ∙ h.0 in cc z

  within_step : (shared : S) (log : List Entry) (s : RunState S C) (e : Entry) (s' : RunState S C) → Within shared log s → step m rules s e ≡ Some s' → Within shared (log ++ e ∷ []) s'
  within_step shared log s e s' i st = step_cases m rules s e s' {R = Within shared (log ++ e ∷ []) s'}
      (λ n. let rest : AllServed n.ds = tail_rest n.d n.ds (subst IsTail n.due i.tail) in
      let due : s'.due ≡ n.ds = ap (λ (z : RunState S C). z.due) n.is in record {
        ran = ran_on shared log s e s' i.ran st;
        tail = subst IsTail (sym due) (served_tail n.ds rest);
        since = λ d ds h. ap (λ (z : RunState S C). z.since) n.is ∙ i.since n.d n.ds n.due;
        behind = λ d ds h k. absurd (no_more n.ds rest d ds (sym due ∙ h) k);
      })
      (λ f. let due : s'.due ≡ f.ds = ap (λ (z : RunState S C). z.due) f.is in
      let same : e ≡ f.d = entry_is e f.d f.same in record {
        ran = ran_on shared log s e s' i.ran st;
        tail = subst IsTail (sym due) (subst (Holds m rules s e.worker Tail) f.event (event_holds m rules s e.worker Tail (tails s e.worker) e.kind e.thread) f.d f.ds f.entries);
        since = λ d ds h. ap (λ (z : RunState S C). z.since) f.is ∙ subst (Holds m rules s e.worker Rests) f.event (event_holds m rules s e.worker Rests (restings s e.worker) e.kind e.thread) f.d d ds (f.entries ∙ ap (λ (z : List Entry). f.d ∷ z) (sym due ∙ h));
        behind = λ d ds h k.
            let q = subst (Holds m rules s e.worker (Second s)) f.event (event_holds m rules s e.worker (Second s) (seconds s e.worker) e.kind e.thread) f.d d ds (f.entries ∙ ap (λ (z : List Entry). f.d ∷ z) (sym due ∙ h)) k in
            (log, e, refl, ap (λ (z : Entry). z.kind) same ∙ q.0, ap (λ (z : Entry). z.how) same ∙ q.1, q.2, s, i.ran, f.settled, q.3);
      })
      st

  pub withins : (shared : S) (log : List Entry) (s : RunState S C) → run m rules log (start m rules shared) ≡ Some s → Within shared log s
  withins shared log s ran = run_keeps m rules (Within shared) (within_step shared) [] log (start m rules shared) s (record { ran = refl; tail = tt; since = λ d ds h. absurd (cc h); behind = λ d ds h k. absurd (cc h) }) ran

  -- a journal up to an entry, and that entry
  pub at_entry : (s0 : RunState S C) (before : List Entry) (e : Entry) (more : List Entry) (s : RunState S C) → run m rules (before ++ e ∷ more) s0 ≡ Some s → {R : Type 0}
      → ((z y : RunState S C) → run m rules before s0 ≡ Some z → step m rules z e ≡ Some y → run m rules more y ≡ Some s → R) → R
  at_entry s0 before e more s ran go = option_and_then_some (run m rules (e ∷ more)) (run m rules before s0) s (sym (run-append m rules before (e ∷ more) s0) ∙ ran)
      (λ z was rest. option_and_then_some (run m rules more) (step m rules z e) s rest (λ y st after. go z y was st after))

  -- Of the first entry of an event: a barrier is one after which no Turn entry has come, and a served one is none
  abbrev Fresh : Event S C → Type 0
  Fresh v = (d : Entry) (ds : List Entry) → v.entries ≡ d ∷ ds → (d.kind ≡ kind.barrier → v.after.since ≡ 0) × (d.kind ≡ kind.served → ⊥)

  other : (since : ℕ) (e : Entry) (k : ℕ) → e.kind ≡ k → (k ≡ kind.barrier → ⊥) → (k ≡ kind.served → ⊥) → (d : Entry) (ds : List Entry) → e ∷ [] ≡ d ∷ ds → (d.kind ≡ kind.barrier → since ≡ 0) × (d.kind ≡ kind.served → ⊥)
  other since e k is p q d ds h = let same : e ≡ d = cc h in let kinds : k ≡ d.kind = sym is ∙ ap (λ (z : Entry). z.kind) same in (λ b. absurd (p (kinds ∙ b)), λ b. q (kinds ∙ b))

  freshes : (s : RunState S C) (w : ℕ) → Cases m rules s w Fresh
  freshes s w = record {
    begins = λ t c rest pick at. other _ _ kind.out refl (λ e. cc e) (λ e. cc e);
    leaves = λ t c rest pick at. other _ _ kind.out refl (λ e. cc e) (λ e. cc e);
    sweeps = λ want none d ds h. let same : d.kind ≡ kind.barrier = sweep_first w (cleared m rules.evacuates s.shared (homes_of s.places)).moved (waits_for_room m rules s) _ d ds h in (λ b. refl, λ b. let z : kind.barrier ≡ kind.served = sym same ∙ b in cc z);
    works = λ t n c at. other _ _ kind.turn refl (λ e. cc e) (λ e. cc e);
    rests = λ t n c at. other _ _ kind.turn refl (λ e. cc e) (λ e. cc e);
    comes = λ t n c at. other _ _ kind.home refl (λ e. cc e) (λ e. cc e);
  }

  -- a served entry leaves the count as it is
  served_step : (s : RunState S C) (e : Entry) (s' : RunState S C) → e.kind ≡ kind.served → s.since ≡ 0 → step m rules s e ≡ Some s' → s'.since ≡ 0
  served_step s e s' is none st = step_cases m rules s e s' {R = s'.since ≡ 0}
      (λ n. ap (λ (z : RunState S C). z.since) n.is ∙ none)
      (λ f. absurd ((subst (Holds m rules s e.worker Fresh) f.event (event_holds m rules s e.worker Fresh (freshes s e.worker) e.kind e.thread) f.d f.ds f.entries).1 (sym (same_kind e f.d f.same) ∙ is)))
      st

  -- nor does a barrier bring one
  barrier_step : (s : RunState S C) (e : Entry) (s' : RunState S C) → e.kind ≡ kind.barrier → s.since ≡ 0 → step m rules s e ≡ Some s' → s'.since ≡ 0
  barrier_step s e s' is none st = step_cases m rules s e s' {R = s'.since ≡ 0}
      (λ n. ap (λ (z : RunState S C). z.since) n.is ∙ none)
      (λ f. ap (λ (z : RunState S C). z.since) f.is ∙ (subst (Holds m rules s e.worker Fresh) f.event (event_holds m rules s e.worker Fresh (freshes s e.worker) e.kind e.thread) f.d f.ds f.entries).0 (sym (same_kind e f.d f.same) ∙ is))
      st

  served_run : (es : List Entry) (s s' : RunState S C) → AllServed es → s.since ≡ 0 → run m rules es s ≡ Some s' → s'.since ≡ 0
  served_run [] s s' all none ran = let same : s ≡ s' = cc ran in sym (ap (λ (z : RunState S C). z.since) same) ∙ none
  served_run (e ∷ es) s s' all none ran = option_and_then_some (run m rules es) (step m rules s e) s' ran (λ y st rest. served_run es y s' all.1 (served_step s e y all.0 none st) rest)

  tail_run : (es : List Entry) (s s' : RunState S C) → IsTail es → s.since ≡ 0 → run m rules es s ≡ Some s' → s'.since ≡ 0
  tail_run [] s s' all none ran = served_run [] s s' tt none ran
  tail_run (e ∷ es) s s' all none ran = option_and_then_some (run m rules es) (step m rules s e) s' ran (λ y st rest. served_run es y s' all.1 (by y st all.0) rest)
    where
      by : (y : RunState S C) → step m rules s e ≡ Some y → (e.kind ≡ kind.served) ⊎ (e.kind ≡ kind.barrier) → y.since ≡ 0
      by y st (inl is) = served_step s e y is none st
      by y st (inr is) = barrier_step s e y is none st

  -- after a barrier, or at the start, no Turn entry has come
  pub fresh_since : (shared : S) (log : List Entry) (s : RunState S C) → EndsAtBarrier log → run m rules log (start m rules shared) ≡ Some s → s.since ≡ 0
  fresh_since shared log s (inl none) ran = let e : Some (start m rules shared) ≡ Some s = ap (λ (es : List Entry). run m rules es (start m rules shared)) (sym none) ∙ ran in let same : start m rules shared ≡ s = cc e in sym (ap (λ (z : RunState S C). z.since) same)
  fresh_since shared log s (inr (before, barrier, is, ends)) ran = by barrier ends (ap (λ (es : List Entry). run m rules es (start m rules shared)) (sym is) ∙ ran)
    where
      by : (barrier : List Entry) → IsBarrier barrier → run m rules (before ++ barrier) (start m rules shared) ≡ Some s → s.since ≡ 0
      by [] ends ran = absurd ends
      by (e ∷ es) ends ran = at_entry (start m rules shared) before e es s ran {R = s.since ≡ 0} (λ z y was st after. tail_run es y s ends.1
          (step_cases m rules z e y {R = y.since ≡ 0}
          (λ n. ap (λ (x : RunState S C). x.since) n.is ∙ (withins shared before z was).since n.d n.ds n.due)
          (λ f. ap (λ (x : RunState S C). x.since) f.is ∙ (subst (Holds m rules z e.worker Fresh) f.event (event_holds m rules z e.worker Fresh (freshes z e.worker) e.kind e.thread) f.d f.ds f.entries).0 (sym (same_kind e f.d f.same) ∙ ends.0))
          st)
          after)

  -- an entry of a thread that is out
  module _ (s : RunState S C) (w t n : ℕ) (c : C) (mood : Mood) (there : place_at s.places t ≡ out w c n mood) where
    abbrev Own : ℕ → Event S C → Type 0
    Own v e = (d : Entry) (ds : List Entry) → e.entries ≡ d ∷ ds → d.thread ≡ t → v ≡ w

    -- another place than an out one
    not_there : (v k : ℕ) (p : Place C) (e : Entry) → e.thread ≡ k → place_at s.places k ≡ p → (p ≡ out w c n mood → v ≡ w) → (d : Entry) (ds : List Entry) → e ∷ [] ≡ d ∷ ds → d.thread ≡ t → v ≡ w
    not_there v k p e of_ at is d ds h q =
        let same : e ≡ d = cc h in
        let k' : k ≡ t = sym of_ ∙ (ap (λ (z : Entry). z.thread) same ∙ q) in
        is (sym at ∙ (ap (λ (z : ℕ). place_at s.places z) k' ∙ there))

    worker_of : Place C → ℕ
    worker_of (out w c n mood) = w
    worker_of _ = 0

    owns : (v : ℕ) → Cases m rules s v (Own v)
    owns v = record {
      begins = λ k d rest pick at. not_there v k (unbegun d) _ refl at (λ e. absurd (cc e));
      leaves = λ k d rest pick at. not_there v k (home d) _ refl at (λ e. absurd (cc e));
      sweeps = λ want none. absurd (let a = some_out s.places t w n c mood there in let b = same_number _ 0 none in omega arith);
      works = λ k j d at. not_there v k (out v d j free) _ refl at (λ e. cc e);
      rests = λ k j d at. not_there v k (out v d j asked) _ refl at (λ e. cc e);
      comes = λ k j d at. not_there v k (out v d j must) _ refl at (λ e. cc e);
    }

    pub own_step : (e : Entry) (s' : RunState S C) → s.due ≡ [] → e.thread ≡ t → step m rules s e ≡ Some s' → e.worker ≡ w
    own_step e s' settled is st = step_cases m rules s e s' {R = e.worker ≡ w}
        (λ x. absurd (let z : [] ≡ x.d ∷ x.ds = sym settled ∙ x.due in cc z))
        (λ f. subst (Holds m rules s e.worker (Own e.worker)) f.event (event_holds m rules s e.worker (Own e.worker) (owns e.worker) e.kind e.thread) f.d f.ds f.entries (sym (same_thread e f.d f.same) ∙ is))
        st

module _ {S K C : Type 0} (machine : K → Machine S C) (first : Whole S K C) where
  abbrev m' : Machine S C
  m' = machine first.code

  pub none_out_at_barriers : NoneOutAtBarriers machine first
  none_out_at_barriers before e more s ran is = at_entry m' first.settings (start m' first.settings first.shared) before e more s ran {R = (front : List Entry) × IsBehind front before e × (z : RunState S C) × Leads machine first front z × (none_out m' first.settings z ≡ true)} (λ z y was st after.
      step_cases m' first.settings z e y {R = (front : List Entry) × IsBehind front before e × (z : RunState S C) × Leads machine first front z × (none_out m' first.settings z ≡ true)}
      (λ n. let q = (withins m' first.settings first.shared before z was).behind n.d n.ds n.due (sym (same_kind e n.d n.same) ∙ is) in
      (q.0, inr (q.1, q.2, q.3, q.4, subst (λ (k : Entry). k.how ≢ how.evacuation) (sym (entry_is e n.d n.same)) q.5), q.6, record { runs = q.7; settled = q.8 }, q.9))
      (λ f. (before, inl refl, z, record { runs = was; settled = f.settled }, barriers_alone S C m' first.settings z e y f.settled is (ap (option_and_then (run m' first.settings [])) st)))
      st)

  pub out_is_own : OutIsOwn machine first
  out_is_own before e more s w t c mood is ran of_ = at_entry m' first.settings (start m' first.settings first.shared) before e more s ran {R = e.worker ≡ w} (λ z y was st after.
      let same : is.state ≡ z = let k : Some is.state ≡ Some z = sym is.leads.runs ∙ was in cc k in
      own_step m' first.settings z w t is.turns c mood (subst (λ (q : RunState S C). place_at q.places t ≡ out w c is.turns mood) same is.there) e y (subst (λ (q : RunState S C). q.due ≡ []) same is.leads.settled) of_ st)
