-- The call of an entry, where all entries before it are the world's: it leads on, or the entry may not come.
use Rattle.std.proofs.Common.{◌≡◌, ℕ, ◌-◌, ◌<◌, Bool, true, false, cond, nat_lt, List, [], ◌∷◌, ◌++◌, length, ap, sym, subst, ◌∙◌, refl, arith, append_assoc, Option, Some, None, slice_get}
use Rattle.std.specs.Prelude.{is_none, option_and_then}
use Rattle.std.proofs.lemmas.Option.{option_and_then_some}
use Rattle.std.proofs.lemmas.Bool.Decides.{nat_tests}
use Rattle.ak_trace.specs.declared.entry.Entry.{Entry}
use Rattle.ak_trace.specs.declared.endings.End.{End}
use Rattle.ak_trace.specs.declared.endings.End.TheVariants.{TurnLimit, AllBlocked}
use Rattle.flat_rules.specs.Machine.{Machine}
use Rattle.flat_rules.specs.States.{RunState, or_else, end_of, start}
use Rattle.flat_rules.specs.Lawful.{IsFlat}
use Rattle.flat_rules.specs.Replays.{step, run}
use Rattle.flat_rules.specs.inner.Steps.{entry_is, IsFirst, first_of, step_cases, run-append, event_run}
use Rattle.flat_rules.specs.inner.Steps as steps
use Rattle.world_rules.specs.Whole.{Whole, Leads, LeadsFromOpening, whole_of}
use Rattle.world_rules.specs.Calls.{end_before, entries_of, after}
use Rattle.world_rules.specs.Allowed.{MayCall}
use Rattle.world_rules.specs.declared.calls.Call.{Call}
use Rattle.world_rules.proofs.Keeps.{Stands}
use Rattle.world_rules.proofs.Invariant.{Invariant, runs_keep}
use Rattle.world_rules.proofs.CallsKeep.{stands_of, one_state, replays_on}
use Rattle.flat_replay.specs.declared.driver.Hand.{Hand}
use Rattle.flat_replay.specs.inner.Hands.{hands_of, called, called_as}
use Rattle.flat_replay.specs.inner.Follows.{IsAt, FollowsFront, Takes, state_behind}
use Rattle.flat_replay.proofs.Hands.{Makes, Says, event_says, called_makes}

-- what stands behind a front
pub behind : (front rest : List Entry) → slice_get (front ++ rest) (length front) ≡ slice_get rest 0
behind [] rest = refl
behind (e ∷ es) rest = behind es rest

pub begins_with : (es : List Entry) (e : Entry) → slice_get es 0 ≡ Some e → (ds : List Entry) × (es ≡ e ∷ ds)
begins_with [] e h = absurd (cc h)
begins_with (d ∷ ds) e h = let same : d ≡ e = cc h in (ds, ap (λ (z : Entry). z ∷ ds) same)

-- where the run is not over, no end came before
before_of : (o : Option End) (a b : Bool) → is_none (or_else o (cond a (Some TurnLimit) (cond b (Some AllBlocked) None))) ≡ true → or_else o (cond a (Some TurnLimit) None) ≡ None
before_of (Some e) a b h = absurd (cc h)
before_of None true b h = absurd (cc h)
before_of None false b h = refl

module _ {S K C : Type 0} (machine : K → Machine S C) (SharedOf : K → S → Type 0) (ContextOf : K → C → Type 0) (flat : (code : K) → IsFlat (machine code) (SharedOf code) (ContextOf code)) (first : Whole S K C)
    (x : Whole S K C) (hands : List (Option (Hand C))) (at : IsAt machine SharedOf first x hands) (e : Entry) where
  abbrev m : Machine S C
  m = machine first.code

  abbrev log : List Entry
  log = x.log.entries

  abbrev s : RunState S C
  s = at.reaches.replays.state

  abbrev X : Whole S K C
  X = whole_of machine first log s

  abbrev f : IsFlat m (SharedOf first.code) (ContextOf first.code)
  f = flat first.code

  stands : Stands machine first log s
  stands = stands_of machine first (SharedOf first.code) (ContextOf first.code) f log s at.reaches.opened at.reaches.replays.leads

  holds : Invariant m (SharedOf first.code) (ContextOf first.code) first.settings s
  holds = runs_keep m (SharedOf first.code) (ContextOf first.code) first.settings f first.shared at.reaches.opened log s at.reaches.replays.leads.runs

  -- in the state that the world shows
  shown : called machine x hands e ≡ called machine X (hands_of s.places) e
  shown = λ i. called machine (at.reaches.replays.is i) (at.hands_are i) e

  before : is_none (end_of m first.settings s) ≡ true → end_before X ≡ None
  before live = ap (λ (n : ℕ). or_else s.ending (cond (nat_lt n 66) (Some TurnLimit) None)) (let z : first.settings.entries - length log ≡ s.spare = let q = stands.spare in omega arith in z) ∙ before_of s.ending _ _ live

  known : nat_lt e.worker first.settings.workers ≡ true → e.worker < first.settings.workers
  known h = grind (arith, nat_tests)

  abbrev Told : (s' : RunState S C) → IsFirst m first.settings s e s' → Type 0
  Told s' first' = Says machine first (SharedOf first.code) (ContextOf first.code) f log s stands holds e.worker (known first'.known) first'.v (called machine X (hands_of s.places) e)

  says : (s' : RunState S C) (g : IsFirst m first.settings s e s') → Told s' g
  says s' g = event_says machine first (SharedOf first.code) (ContextOf first.code) f log s stands holds e.worker (known g.known) (before g.live) e.kind e.thread g.v g.event

  -- a step is the first of an event
  by_first : (s' : RunState S C) {R : Type 0} → step m first.settings s e ≡ Some s' → (IsFirst m first.settings s e s' → R) → R
  by_first s' {R} st go = step_cases m first.settings s e s' {R = R} (λ n. absurd (let z : [] ≡ n.d ∷ n.ds = sym at.reaches.replays.leads.settled ∙ n.due in cc z)) go st

  -- the next entry's state
  behind_one : state_behind machine SharedOf first (log ++ e ∷ []) ≡ option_and_then (run m first.settings []) (step m first.settings s e)
  behind_one = run-append m first.settings log (e ∷ []) (start m first.settings first.shared) ∙ ap (option_and_then (run m first.settings (e ∷ []))) at.reaches.replays.leads.runs

  -- where nothing can be called
  pub none_called : called machine x hands e ≡ None → state_behind machine SharedOf first (log ++ e ∷ []) ≡ None
  none_called none = behind_one ∙ ap (option_and_then (run m first.settings [])) (by (step m first.settings s e) refl)
    where
      by : (o : Option (RunState S C)) → step m first.settings s e ≡ o → step m first.settings s e ≡ None
      by None q = q
      by (Some s1) q = by_first s1 q (λ g. absurd (let t = says s1 g in let mine : Whole S K C × List (Option (Hand C)) = (after machine X e.worker t.call, t.hands) in let z : None ≡ Some mine = sym none ∙ (shown ∙ t.is) in cc z))

  -- the world after a call replays
  reaches_on : e.worker < first.settings.workers → (c : Call C) → MayCall machine first log e.worker c → LeadsFromOpening machine SharedOf first (log ++ entries_of machine X e.worker c) (after machine X e.worker c)
  reaches_on few c may = replays_on machine SharedOf ContextOf flat first log X e.worker c (subst (LeadsFromOpening machine SharedOf first log) at.reaches.replays.is at.reaches) (few, may)

  module _ (x' : Whole S K C) (hands' : List (Option (Hand C))) (is : called machine x hands e ≡ Some (x', hands')) where
    -- the first entry of an event, as the call wrote it
    module _ (s1 : RunState S C) (g : IsFirst m first.settings s e s1) where
      t : Told s1 g
      t = says s1 g

      abbrev mine : Whole S K C × List (Option (Hand C))
      mine = (after machine X e.worker t.call, t.hands)

      abbrev given : Whole S K C × List (Option (Hand C))
      given = (x', hands')

      same : mine ≡ given
      same = let z : Some mine ≡ Some given = sym t.is ∙ (sym shown ∙ is) in cc z

      x_is : after machine X e.worker t.call ≡ x'
      x_is = ap (λ (z : Whole S K C × List (Option (Hand C))). z.0) same

      entries : g.v.entries ≡ e ∷ g.ds
      entries = g.entries ∙ ap (λ (z : Entry). z ∷ g.ds) (sym (entry_is e g.d g.same))

      r : LeadsFromOpening machine SharedOf first (log ++ entries_of machine X e.worker t.call) (after machine X e.worker t.call)
      r = reaches_on (known g.known) t.call t.may

      wrote : log ++ entries_of machine X e.worker t.call ≡ log ++ e ∷ g.ds
      wrote = ap (λ (es : List Entry). log ++ es) (t.entries ∙ entries)

      own : x'.log.entries ≡ log ++ e ∷ g.ds
      own = ap (λ (z : Whole S K C). z.log.entries) (sym x_is ∙ r.replays.is) ∙ wrote

      pub is_next : slice_get x'.log.entries (length log) ≡ Some e
      is_next = ap (λ (es : List Entry). slice_get es (length log)) own ∙ behind log (e ∷ g.ds)

      abbrev z : RunState S C
      z = steps.whole_of m first.settings g.v

      leads : Leads machine first (log ++ e ∷ g.ds) z
      leads = record {
        runs = run-append m first.settings log (e ∷ g.ds) (start m first.settings first.shared) ∙ (ap (option_and_then (run m first.settings (e ∷ g.ds))) at.reaches.replays.leads.runs
            ∙ (ap (λ (es : List Entry). run m first.settings es s) (sym entries) ∙ event_run m first.settings s g.v e g.ds at.reaches.replays.leads.settled g.live g.known g.event entries));
        settled = refl;
      }

      z_is : r.replays.state ≡ z
      z_is = one_state machine first (log ++ e ∷ g.ds) r.replays.state z (subst (λ (es : List Entry). Leads machine first es r.replays.state) wrote r.replays.leads) leads

      shows : x' ≡ whole_of machine first x'.log.entries z
      shows = (sym x_is ∙ r.replays.is) ∙ (λ i. whole_of machine first ((wrote ∙ sym own) i) (z_is i))

      pub follows : step m first.settings s e ≡ Some s1 → FollowsFront machine SharedOf first (log ++ e ∷ []) x' hands'
      follows st = record {
        at = record {
          reaches = record { opened = at.reaches.opened; replays = record { state = z; leads = subst (λ (es : List Entry). Leads machine first es z) (sym own) leads; is = shows } };
          hands_are = sym (ap (λ (z : Whole S K C × List (Option (Hand C))). z.1) same) ∙ t.hands_are;
        };
        rest = g.ds;
        own = own ∙ sym (append_assoc log (e ∷ []) g.ds);
        runs = behind_one ∙ (ap (option_and_then (run m first.settings [])) st ∙ ap (λ (y : RunState S C). Some y) (g.is ∙ first_is));
      }
        where
          first_is : first_of m first.settings s e g.v g.ds ≡ record z { due = g.ds }
          first_is = refl

    -- an entry that the call wrote is a step
    stepped : slice_get x'.log.entries (length log) ≡ Some e → {R : Type 0} → ((s1 : RunState S C) → step m first.settings s e ≡ Some s1 → R) → R
    stepped next {R} go = by (nat_lt e.worker first.settings.workers) refl
      where
        on : e.worker < first.settings.workers → R
        on few =
            let makes : Makes machine first (SharedOf first.code) (ContextOf first.code) f log s stands holds e.worker few x' = called_makes machine first (SharedOf first.code) (ContextOf first.code) f log s stands holds e.worker few e.kind e.thread x' hands' (sym shown ∙ is) in
            let r = reaches_on few makes.call makes.may in
            let es : List Entry = entries_of machine X e.worker makes.call in
            let ds = begins_with es e (sym (behind log es) ∙ (ap (λ (l : List Entry). slice_get l (length log)) (sym (ap (λ (y : Whole S K C). y.log.entries) (makes.is ∙ r.replays.is))) ∙ next)) in
            let ran : run m first.settings es s ≡ Some r.replays.state = sym (ap (option_and_then (run m first.settings es)) at.reaches.replays.leads.runs) ∙ (sym (run-append m first.settings log es (start m first.settings first.shared)) ∙ r.replays.leads.runs) in
            let first_ran : option_and_then (run m first.settings ds.0) (step m first.settings s e) ≡ Some r.replays.state = subst (λ (l : List Entry). run m first.settings l s ≡ Some r.replays.state) ds.1 ran in
            option_and_then_some (run m first.settings ds.0) (step m first.settings s e) r.replays.state first_ran (λ s1 st rest. go s1 st)

        by : (b : Bool) → nat_lt e.worker first.settings.workers ≡ b → R
        by true q = on (known q)
        by false q = absurd (let given : Whole S K C × List (Option (Hand C)) = (x', hands') in let n : None ≡ Some given = ap (λ (b : Bool). cond b (called_as machine X (hands_of s.places) e.worker e.kind e.thread) None) (sym q) ∙ (sym shown ∙ is) in cc n)

    -- the entry is the one that the call wrote, or none may come
    pub some_called : (b : Bool) → (b ≡ true → slice_get x'.log.entries (length log) ≡ Some e) → (slice_get x'.log.entries (length log) ≡ Some e → b ≡ true) → Takes machine SharedOf first log e x' hands' b
    some_called true p q = stepped (p refl) (λ s1 st. by_first s1 st (λ g. follows s1 g st))
    some_called false p q = behind_one ∙ ap (option_and_then (run m first.settings [])) (by (step m first.settings s e) refl)
      where
        by : (o : Option (RunState S C)) → step m first.settings s e ≡ o → step m first.settings s e ≡ None
        by None st = st
        by (Some s1) st = by_first s1 st (λ g. absurd (let z : false ≡ true = q (is_next s1 g) in cc z))
