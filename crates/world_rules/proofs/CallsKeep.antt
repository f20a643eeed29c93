-- Each call that a worker may make leaves a journal that replays to the world after it.
use Rattle.std.proofs.Common.{◌≡◌, ℕ, ◌<◌, ◌≤◌, ◌==◌, Bool, true, false, cond, List, [], ◌++◌, length, ap, sym, subst, ◌∙◌, refl, arith, Option, Some, None}
use Rattle.std.specs.Prelude.{count_by, option_and_then}
use mathlib.Core.Logic.{inl, inr}
use Rattle.std.proofs.lemmas.List.{append-nil}
use Rattle.std.proofs.Math.ListN.{get_or-map}
use Rattle.ak_trace.specs.declared.entry.Entry.{Entry}
use Rattle.ak_trace.specs.declared.endings.End.{End}
use Rattle.ak_trace.specs.declared.endings.End.TheVariants.{TurnLimit}
use Rattle.flat_rules.specs.Machine.{Machine, cleared, sweep}
use Rattle.flat_rules.specs.States.{RunState, Place, unbegun, home, out, gone, Mood, free, asked, must, place_at, at_home, homes_of, is_out, is_wanted, none_out, pick, or_else}
use Rattle.flat_rules.specs.Events.{most_local}
use Rattle.flat_rules.specs.Lawful.{IsFlat, IsOpened, Begins}
use Rattle.flat_rules.specs.Replays.{settled}
use Rattle.flat_rules.specs.inner.Cases.{same_number}
use Rattle.flat_rules.proofs.Spares.{spare_is_left}
use Rattle.flat_rules.proofs.Clearing.{sweeps_on}
use Rattle.world_rules.specs.declared.calls.Call.{Call}
use Rattle.world_rules.specs.declared.calls.Call.TheVariants as call
use Rattle.world_rules.specs.Whole.{Whole, Leads, Replays, LeadsFromOpening, whole_of}
use Rattle.world_rules.specs.Calls.{Result, end_before, home_at}
use Rattle.world_rules.specs.Calls as calls
use Rattle.world_rules.specs.Allowed.{IsOut, MovedOn, MayCall, Allowed}
use Rattle.world_rules.proofs.Keeps.{Stands, Good, steps_good, settles_good, hands_good}
use Rattle.world_rules.proofs.Sweeps.{sweeps_good}
use Rattle.world_rules.proofs.Sits.{SitsAt, Sit, OutAs, Moved, lives}
use Rattle.world_rules.proofs.MoveKeeps.{begins_lives, may_sweep, of_run}
use Rattle.world_rules.proofs.Invariant.{Invariant, moved, picked, runs_keep}

-- where no end came before, the last entry brought none
pub none_before : (o : Option End) (b : Bool) → or_else o (cond b (Some TurnLimit) None) ≡ None → o ≡ None
none_before (Some e) b h = absurd (cc h)
none_before None b h = refl

module _ {S K C : Type 0} (machine : K → Machine S C) (first : Whole S K C) where
  abbrev m : Machine S C
  m = machine first.code

  -- one journal leads to one state
  pub one_state : (log : List Entry) (s s' : RunState S C) → Leads machine first log s → Leads machine first log s' → s ≡ s'
  one_state log s s' a b = let e : Some s ≡ Some s' = sym a.runs ∙ b.runs in cc e

  module _ (SharedOf : S → Type 0) (ContextOf : C → Type 0) (flat : IsFlat m SharedOf ContextOf) where
    -- a state that a journal leads to, with its spare
    pub stands_of : (log : List Entry) (s : RunState S C) → IsOpened m SharedOf first.shared → Leads machine first log s → Stands machine first log s
    stands_of log s opened r = record {
      leads = r;
      spare = spare_is_left S C m first.settings first.shared log s flat.few (ap (option_and_then (settled m first.settings)) r.runs ∙ ap (λ (ds : List Entry). cond (length ds == 0) (Some s) None) r.settled);
      places = (runs_keep m SharedOf ContextOf first.settings flat first.shared opened log s r.runs).places;
    }

    module _ (log : List Entry) (s : RunState S C) (stands : Stands machine first log s) (i : Invariant m SharedOf ContextOf first.settings s) (w : ℕ) (known : w < first.settings.workers) where
      abbrev x : Whole S K C
      x = whole_of machine first log s

      abbrev GoodOf : {A : Type 0} → Result A S K C → Type 0
      GoodOf r = Good machine first log r.1 r.2

      -- a call that changes nothing
      same : Good machine first log [] x
      same = record { state = s; stands = subst (λ (l : List Entry). Stands machine first l s) (sym (append-nil log)) stands; is = refl }

      module _ (before : end_before x ≡ None) where
        pub going : s.ending ≡ None
        going = none_before s.ending _ before

        sits : Sit m ContextOf s.shared None s.places
        sits = subst (λ (e : Option End). Sit m ContextOf s.shared e s.places) going i.each

        -- what `local` leaves of a context that a worker has
        pub stepped_on : (d c : C) (n : ℕ) (mood : Mood) → place_at s.places (m.thread_of d) ≡ out w c n mood → MovedOn machine first c mood d → Moved m ContextOf (m.thread_of d) d
        stepped_on d c n free at e = subst (Moved m ContextOf (m.thread_of d)) (sym e) (moved m SharedOf ContextOf first.settings flat s i going w (m.thread_of d) n most_local c free at (inr refl))
        stepped_on d c n asked at e = subst (Moved m ContextOf (m.thread_of d)) (sym e) (moved m SharedOf ContextOf first.settings flat s i going w (m.thread_of d) n 0 c asked at (inl refl))
        stepped_on d c n must at e = absurd e

        -- it waits for no room
        pub waited : (d c : C) (n : ℕ) (mood : Mood) → place_at s.places (m.thread_of d) ≡ out w c n mood → MovedOn machine first c mood d → m.waits c ≡ false
        waited d c n mood there on = rests mood on (let h : SitsAt m ContextOf s.shared None (m.thread_of d) (out w c n mood) = subst (SitsAt m ContextOf s.shared None (m.thread_of d)) there (sits (m.thread_of d)) in h.1)
          where
            rests : (mood : Mood) → MovedOn machine first c mood d → OutAs m ContextOf mood c → m.waits c ≡ false
            rests free e h = h
            rests asked e h = h
            rests must e h = absurd e

        act_good : (d c : C) (n : ℕ) (mood : Mood) → place_at s.places (m.thread_of d) ≡ out w c n mood → MovedOn machine first c mood d → GoodOf (calls.steps machine x w d)
        act_good d c n mood there on = let after = stepped_on d c n mood there on in steps_good machine first log s stands w known d c n mood there before on (waited d c n mood there on)
            (λ stays. (flat.goes_on s.shared d (lives m ContextOf SharedOf flat s.shared s.places i.of_ i.few sits w n c d mood there after.of_ after.progress) after.progress stays).waits)

        out_good : is_wanted m first.settings s ≡ false → (t : ℕ) → pick m first.settings s ≡ Some t → (p : Place C) → place_at s.places t ≡ p → (o : Option C) → at_home p ≡ o → GoodOf (calls.hands machine x w t o)
        out_good rest t pick' p at None is = same
        out_good rest t pick' (unbegun c) at (Some d) is =
            let made = picked m SharedOf ContextOf first.settings flat s i going w t pick' in
            let l = begins_lives m ContextOf SharedOf flat s.shared s.places i.of_ i.few sits t c at made in
            let b : Begins m ContextOf s.shared c = flat.begins s.shared c l.0 l.1 in
            let e : c ≡ d = cc is in subst (λ (z : C). GoodOf (calls.hands machine x w t (Some z))) e
            (hands_good machine first log s stands w known t (unbegun c) c (m.begin s.shared c) before rest pick' at (λ e. absurd (cc e)) refl refl refl (sym b.waits))
        out_good rest t pick' (home c) at (Some d) is = let e : c ≡ d = cc is in subst (λ (z : C). GoodOf (calls.hands machine x w t (Some z))) e
            (hands_good machine first log s stands w known t (home c) c c before rest pick' at (λ e. absurd (cc e)) refl refl refl refl)
        out_good rest t pick' (out v c n mood) at (Some d) is = absurd (cc is)
        out_good rest t pick' gone at (Some d) is = absurd (cc is)

        picks_good : is_wanted m first.settings s ≡ false → (o : Option ℕ) → pick m first.settings s ≡ o → GoodOf (calls.hands_out machine x w o)
        picks_good rest None e = same
        picks_good rest (Some t) e = out_good rest t e (place_at s.places t) refl (home_at x.homes t) (sym (get_or-map at_home s.places t gone))

        cond_good : {A : Type 0} (b : Bool) (r r' : Result A S K C) → (b ≡ true → GoodOf r) → (b ≡ false → GoodOf r') → GoodOf (cond b r r')
        cond_good true r r' p q = p refl
        cond_good false r r' p q = q refl

        sweep_good : is_wanted m first.settings s ≡ true → none_out m first.settings s ≡ true → GoodOf (calls.sweeps machine x w (cleared m first.settings.evacuates s.shared (homes_of s.places)).moved (sweep m first.settings.evacuates s.shared (homes_of s.places)))
        sweep_good want none =
            let quiet : count_by is_out s.places ≡ 0 = same_number _ 0 none in
            let b = sweeps_on m SharedOf ContextOf flat first.settings.evacuates s.shared (homes_of s.places) i.of_ (of_run m ContextOf SharedOf flat s.shared s.places i.of_ i.few sits) (may_sweep m ContextOf SharedOf flat s.shared s.places i.of_ i.few sits i.places quiet) in
            sweeps_good machine first log s stands w known ContextOf before want none b.kept (flat.few (cleared m first.settings.evacuates s.shared (homes_of s.places)).shared (homes_of s.places))

        find_good : GoodOf (calls.seeks machine x w)
        find_good = cond_good (is_wanted m first.settings s) _ _
            (λ want. cond_good (none_out m first.settings s) _ _ (λ none. sweep_good want none) (λ _. same))
            (λ rest. picks_good rest (pick m first.settings s) refl)

      -- where the run was over before, nothing changes
      finds_good : (o : Option End) → end_before x ≡ o → GoodOf (calls.finds_by machine x w o)
      finds_good (Some end) e = same
      finds_good None e = find_good e

      acts_good : (d c : C) (n : ℕ) (mood : Mood) → place_at s.places (m.thread_of d) ≡ out w c n mood → MovedOn machine first c mood d → (o : Option End) → end_before x ≡ o → GoodOf (calls.acts_by machine x w o d)
      acts_good d c n mood there on (Some end) e = same
      acts_good d c n mood there on None e = act_good e d c n mood there on

      homes_good : (d : C) (n : ℕ) → place_at s.places (m.thread_of d) ≡ out w d n must → (o : Option End) → end_before x ≡ o → GoodOf (calls.homes_by machine x w o d)
      homes_good d n there (Some end) e = same
      homes_good d n there None e = settles_good machine first log s stands w known d n e there

      -- where the replay of the journal has a thread
      pub there_of : (t : ℕ) (c : C) (mood : Mood) (is : IsOut machine first log w t c mood) → place_at s.places t ≡ out w c is.turns mood
      there_of t c mood is = subst (λ (z : RunState S C). place_at z.places t ≡ out w c is.turns mood) (one_state log is.state s is.leads stands.leads) is.there

      pub call_good : (c : Call C) → MayCall machine first log w c → GoodOf (calls.result_of machine x w c)
      call_good call.Find may = finds_good (end_before x) refl
      call_good (call.Act d) may = acts_good d may.0 may.2.turns may.1 (there_of (m.thread_of d) may.0 may.1 may.2) may.3 (end_before x) refl
      call_good (call.Home d) may = homes_good d may.turns (there_of (m.thread_of d) d must may) (end_before x) refl

-- the journal after a call that is allowed replays to the world after it
pub replays_on : {S K C : Type 0} (machine : K → Machine S C) (SharedOf : K → S → Type 0) (ContextOf : K → C → Type 0) → ((code : K) → IsFlat (machine code) (SharedOf code) (ContextOf code))
    → (first : Whole S K C) (log : List Entry) (x : Whole S K C) (w : ℕ) (c : Call C) → LeadsFromOpening machine SharedOf first log x → Allowed machine first log w c → LeadsFromOpening machine SharedOf first (log ++ calls.entries_of machine x w c) (calls.after machine x w c)
replays_on {S} {K} {C} machine SharedOf ContextOf flat first log x w c r may =
    let s : RunState S C = r.replays.state in
    let m : Machine S C = machine first.code in
    let f : IsFlat m (SharedOf first.code) (ContextOf first.code) = flat first.code in
    let g : Good machine first log (calls.result_of machine (whole_of machine first log s) w c).1 (calls.result_of machine (whole_of machine first log s) w c).2 =
    call_good machine first (SharedOf first.code) (ContextOf first.code) f log s (stands_of machine first (SharedOf first.code) (ContextOf first.code) f log s r.opened r.replays.leads)
    (runs_keep m (SharedOf first.code) (ContextOf first.code) first.settings f first.shared r.opened log s r.replays.leads.runs) w may.0 c may.1 in
    record {
      opened = r.opened;
      replays = subst (λ (z : Whole S K C). Replays machine first (log ++ calls.entries_of machine z w c) (calls.after machine z w c)) (sym r.replays.is) (record { state = g.state; leads = g.stands.leads; is = g.is });
    }

-- a journal is within its limit
pub fits : {S K C : Type 0} (machine : K → Machine S C) (SharedOf : K → S → Type 0) (ContextOf : K → C → Type 0) → ((code : K) → IsFlat (machine code) (SharedOf code) (ContextOf code))
    → (first : Whole S K C) (log : List Entry) (x : Whole S K C) → LeadsFromOpening machine SharedOf first log x → length log ≤ first.settings.entries
fits machine SharedOf ContextOf flat first log x r = let h = (stands_of machine first (SharedOf first.code) (ContextOf first.code) (flat first.code) log r.replays.state r.opened r.replays.leads).spare in omega arith
