-- Where a run ended at the output's limit, its journal's last entry tells of an attempt.
use Rattle.std.proofs.Common.{◌≡◌, ℕ, ◌+◌, ◌==◌, Bool, true, false, cond, List, [], ◌∷◌, ◌++◌, Some, None, refl, sym, ap, ◌∙◌, subst}
use Rattle.ak_trace.specs.declared.entry.Entry.{Entry}
use Rattle.ak_trace.specs.declared.endings.End.TheVariants as ends
use Rattle.flat_rules.specs.Entries.{turn_entry}
use Rattle.flat_rules.specs.Events.{Event, Goes, on, back, away, ends_with, goes, turn_event, turned_by}
use Rattle.flat_rules.specs.Machine.{Machine, Acted, Turned, looked, stepped, got, got_null, made_thread, refused_thread, found_busy, wants_room, rested, ended, trapped, passed_limit, lacked_stack}
use Rattle.flat_rules.specs.Replays.{step, run}
use Rattle.flat_rules.specs.Rules.{Rules}
use Rattle.flat_rules.specs.States.{RunState, Mood, free, asked, start}
use Rattle.flat_rules.specs.inner.Cases.{Cases, Holds, event_holds}
use Rattle.flat_rules.specs.inner.Steps.{run_keeps, step_cases}
use Rattle.world_rules.proofs.Invariant.{none_ends}
use Rattle.flat_replay.specs.Attempts.{is_attempt}
use Rattle.flat_replay.proofs.Entries.{same_is}

module _ {S C : Type 0} (m : Machine S C) (rules : Rules) where
  -- the one entry of an event is an attempt
  pub record TriesOne (v : Event S C) : Type 0 where
    pub entry : Entry
    pub is : v.entries ≡ entry ∷ []
    pub tries : is_attempt entry ≡ true

  -- where it ended the run at the limit
  abbrev TriesIf : Event S C → Type 0
  TriesIf v = v.after.ending ≡ Some ends.OutputLimit → TriesOne v

  -- by how the turn went
  one_try : (w t local : ℕ) (after : RunState S C) (turned : Turned) → ends_with t turned ≡ Some ends.OutputLimit → TriesOne (record { entries = turn_entry w t local turned ∷ []; after = after })
  one_try w t local after looked e = absurd cc
  one_try w t local after stepped e = absurd cc
  one_try w t local after (got id place) e = absurd cc
  one_try w t local after got_null e = absurd cc
  one_try w t local after (made_thread number) e = absurd cc
  one_try w t local after refused_thread e = absurd cc
  one_try w t local after found_busy e = absurd cc
  one_try w t local after wants_room e = absurd cc
  one_try w t local after rested e = absurd cc
  one_try w t local after (ended value) e = absurd (not_done (t == 0) e) where
    not_done : (b : Bool) → cond b (Some (ends.Done value)) None ≡ Some ends.OutputLimit → ⊥
    not_done true e = cc
    not_done false e = cc
  one_try w t local after (trapped word kind) e = absurd cc
  one_try w t local after passed_limit e = record { entry = _; is = refl; tries = refl }
  one_try w t local after lacked_stack e = absurd cc

  -- a turn of a thread
  after_turn : (x : RunState S C) (w t n : ℕ) (mood : Mood) (a : Acted S C) → TriesIf (turn_event m rules x w t n mood a)
  after_turn x w t n mood a e = one_try w t a.local (turn_event m rules x w t n mood a).after a.turned (by (goes a.turned) e) where
    by : (g : Goes) → (turned_by m rules x w t (n + 1) mood a g).ending ≡ Some ends.OutputLimit → ends_with t a.turned ≡ Some ends.OutputLimit
    by on h = h
    by back h = h
    by away h = h

  cases : (x : RunState S C) → x.ending ≡ None → (w : ℕ) → Cases m rules x w TriesIf
  cases x going w = record {
    begins = λ t c calm picked at e. let bad : None ≡ Some ends.OutputLimit = sym going ∙ e in absurd cc;
    leaves = λ t c calm picked at e. let bad : None ≡ Some ends.OutputLimit = sym going ∙ e in absurd cc;
    sweeps = λ want none e. let bad : None ≡ Some ends.OutputLimit = sym going ∙ e in absurd cc;
    works = λ t n c at. after_turn x w t n free _;
    rests = λ t n c at. after_turn x w t n asked _;
    comes = λ t n c at e. let bad : None ≡ Some ends.OutputLimit = sym going ∙ e in absurd cc;
  }

  -- the last entry is an attempt, and none is due
  pub record TriesLast (log : List Entry) (x : RunState S C) : Type 0 where
    pub before : List Entry
    pub entry : Entry
    pub is : log ≡ before ++ entry ∷ []
    pub tries : is_attempt entry ≡ true
    pub none_due : x.due ≡ []

  -- where the run ended at the limit
  abbrev AtLimit : List Entry → RunState S C → Type 0
  AtLimit log x = x.ending ≡ Some ends.OutputLimit → TriesLast log x

  keeps : (log : List Entry) (x : RunState S C) (e : Entry) (y : RunState S C) → AtLimit log x → step m rules x e ≡ Some y → AtLimit (log ++ e ∷ []) y
  keeps log x e y h st = step_cases m rules x e y {R = AtLimit (log ++ e ∷ []) y}
      (λ n. subst (AtLimit (log ++ e ∷ [])) (sym n.is) (λ (over : x.ending ≡ Some ends.OutputLimit). let bad : [] ≡ n.d ∷ n.ds = sym (h over).none_due ∙ n.due in absurd cc))
      (λ f. subst (AtLimit (log ++ e ∷ [])) (sym f.is) (λ (over : f.v.after.ending ≡ Some ends.OutputLimit).
      let one : TriesIf f.v = subst (Holds m rules x e.worker TriesIf) f.event (event_holds m rules x e.worker TriesIf (cases x (none_ends x.ending _ f.live) e.worker) e.kind e.thread) in
      let t = one over in
      let same : t.entry ∷ [] ≡ f.d ∷ f.ds = sym t.is ∙ f.entries in
      let head : t.entry ≡ f.d = cc in
      let rest : [] ≡ f.ds = cc in
      record { before = log; entry = e; is = refl; tries = ap is_attempt (same_is e f.d f.same ∙ sym head) ∙ t.tries; none_due = sym rest }))
      st

  -- so it is behind each journal
  pub tries_last : (first : S) (log : List Entry) (x : RunState S C) → run m rules log (start m rules first) ≡ Some x → x.ending ≡ Some ends.OutputLimit → TriesLast log x
  tries_last first log x ran = run_keeps m rules AtLimit keeps [] log (start m rules first) x (λ e. absurd cc) ran
