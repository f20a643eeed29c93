-- Unless its value ended the run, main hasn't ended; nor has a thread whose call had no room.
use Rattle.std.proofs.Common.{◌≡◌, ℕ, ◌+◌, ◌<◌, ◌==◌, ◌&&◌, ◌||◌, Bool, true, false, cond, List, [], Option, Some, None, refl, sym, ap, ◌∙◌, subst, arith, inl, inr}
use Rattle.std.specs.Prelude.{◌⊎◌, count_by}
use Rattle.ak_trace.specs.declared.entry.Entry.{Entry}
use Rattle.ak_trace.specs.declared.endings.End.{End}
use Rattle.ak_trace.specs.declared.endings.End.TheVariants as ends
use Rattle.flat_rules.specs.Events.{Goes, on, back, away, ends_with, goes, most_local, turn_event, turned_by}
use Rattle.flat_rules.specs.Lawful.{IsFlat, IsOpened, Leaves, is_end}
use Rattle.flat_rules.specs.Machine.{Machine, Turned, looked, stepped, got, got_null, made_thread, refused_thread, found_busy, wants_room, rested, ended, trapped, passed_limit, lacked_stack}
use Rattle.flat_rules.specs.Replays.{step, run}
use Rattle.flat_rules.specs.Rules.{Rules}
use Rattle.flat_rules.specs.States.{RunState, out, Mood, free, asked, homes_of, is_out, place_at, start}
use Rattle.flat_rules.specs.inner.Cases.{Cases, Holds, event_holds, same_number, same_refl}
use Rattle.flat_rules.specs.inner.Steps.{run_keeps, step_cases}
use Rattle.flat_rules.proofs.Clearing.{sweeps_on}
use Rattle.world_rules.proofs.Invariant.{Invariant, keeps as invariant_keeps, moved, none_ends, starts}
use Rattle.world_rules.proofs.MoveKeeps.{may_sweep, of_run}
use Rattle.world_rules.proofs.Sits.{Moved, Sit, SitsAt, left}

-- the end isn't main's value
abbrev pub NotDone : Option End → Type 0
NotDone None = Unit {0}
NotDone (Some (ends.Done value)) = ⊥
NotDone (Some (ends.Trap word kind)) = Unit {0}
NotDone (Some ends.AllBlocked) = Unit {0}
NotDone (Some ends.TurnLimit) = Unit {0}
NotDone (Some ends.OutputLimit) = Unit {0}
NotDone (Some (ends.StackLimit thread)) = Unit {0}

none_of : (b : Bool) → (b && false) ≡ false
none_of true = refl
none_of false = refl

-- a turn after which the run goes on or ends otherwise wasn't main's last
not_ends : (t : ℕ) (a : Turned) → NotDone (ends_with t a) → ((0 == t) && is_end a) ≡ false
not_ends t (ended value) h = by (t == 0) refl h where
  by : (b : Bool) → (t == 0) ≡ b → NotDone (cond b (Some (ends.Done value)) None) → ((0 == t) && true) ≡ false
  by true e h = absurd h
  by false e h = other (0 == t) refl where
    other : (c : Bool) → (0 == t) ≡ c → (c && true) ≡ false
    other true f = let bad : true ≡ false = sym (same_refl 0) ∙ ap (λ (z : ℕ). z == 0) (same_number 0 t f) ∙ e in absurd cc
    other false f = refl
not_ends t looked h = none_of (0 == t)
not_ends t stepped h = none_of (0 == t)
not_ends t (got id place) h = none_of (0 == t)
not_ends t got_null h = none_of (0 == t)
not_ends t (made_thread number) h = none_of (0 == t)
not_ends t refused_thread h = none_of (0 == t)
not_ends t found_busy h = none_of (0 == t)
not_ends t wants_room h = none_of (0 == t)
not_ends t rested h = none_of (0 == t)
not_ends t (trapped word kind) h = none_of (0 == t)
not_ends t passed_limit h = none_of (0 == t)
not_ends t lacked_stack h = none_of (0 == t)

-- only a call without room ends the run so, and doesn't end its thread
lacks : (t n : ℕ) (a : Turned) → ends_with t a ≡ Some (ends.StackLimit n) → (t ≡ n) × (is_end a ≡ false)
lacks t n (ended value) e = absurd (by (t == 0) e) where
  by : (b : Bool) → cond b (Some (ends.Done value)) None ≡ Some (ends.StackLimit n) → ⊥
  by true e = cc
  by false e = cc
lacks t n looked e = absurd cc
lacks t n stepped e = absurd cc
lacks t n (got id place) e = absurd cc
lacks t n got_null e = absurd cc
lacks t n (made_thread number) e = absurd cc
lacks t n refused_thread e = absurd cc
lacks t n found_busy e = absurd cc
lacks t n wants_room e = absurd cc
lacks t n rested e = absurd cc
lacks t n (trapped word kind) e = absurd cc
lacks t n passed_limit e = absurd cc
lacks t n lacked_stack e = (cc, refl)

and_none : (a b : Bool) → b ≡ false → (a && b) ≡ false
and_none true b e = e
and_none false b e = refl

module _ {S C : Type 0} (m : Machine S C) (SharedOf : S → Type 0) (ContextOf : C → Type 0) (rules : Rules) (flat : IsFlat m SharedOf ContextOf) where
  -- main hasn't ended, unless by its value
  abbrev pub Goes_on : RunState S C → Type 0
  Goes_on x = NotDone x.ending → m.has_ended x.shared 0 ≡ false

  -- the thread whose call had no room was made, and hasn't ended
  abbrev pub Lacks : RunState S C → Type 0
  Lacks x = (n : ℕ) → x.ending ≡ Some (ends.StackLimit n) → (m.has_ended x.shared n ≡ false) × (n < m.threads x.shared)

  module _ (x : RunState S C) (i : Invariant m SharedOf ContextOf rules x) (going : x.ending ≡ None) (w : ℕ) (main : m.has_ended x.shared 0 ≡ false) where
    sits : Sit m ContextOf x.shared None x.places
    sits = subst (λ (e : Option End). Sit m ContextOf x.shared e x.places) going i.each

    -- behind a turn
    after_turn : (t n k : ℕ) (c : C) (mood : Mood) → place_at x.places t ≡ out w c n mood → (k ≡ 0) ⊎ (k ≡ most_local) → Goes_on (turn_event m rules x w t n mood (m.act x.shared (m.local k c))).after
    after_turn t n k c mood at bound =
        let d : C = m.local k c in
        let z : Moved m ContextOf t d = moved m SharedOf ContextOf rules flat x i going w t n k c mood at bound in
        let there : place_at x.places (m.thread_of d) ≡ out w c n mood = ap (λ (k : ℕ). place_at x.places k) z.thread ∙ at in
        let l : Leaves m SharedOf x.shared (m.thread_of d) (m.act x.shared d) = left m ContextOf SharedOf flat x.shared x.places i.of_ i.few sits w n c d mood there z.of_ z.progress in
        by (m.act x.shared d).turned (goes (m.act x.shared d).turned)
        (λ (h : NotDone (ends_with t (m.act x.shared d).turned)).
        l.ends 0 ∙ ap (λ (b : Bool). b || ((0 == m.thread_of d) && is_end (m.act x.shared d).turned)) main
        ∙ not_ends (m.thread_of d) (m.act x.shared d).turned (subst (λ (k : ℕ). NotDone (ends_with k (m.act x.shared d).turned)) (sym z.thread) h))
      where
        by : (a : Turned) (g : Goes) → (NotDone (ends_with t (m.act x.shared (m.local k c)).turned) → m.has_ended (m.act x.shared (m.local k c)).shared 0 ≡ false)
            → Goes_on (turned_by m rules x w t (n + 1) mood (m.act x.shared (m.local k c)) g)
        by a on h = h
        by a back h = h
        by a away h = h

    -- behind a turn, again
    lacks_turn : (t n k : ℕ) (c : C) (mood : Mood) → place_at x.places t ≡ out w c n mood → (k ≡ 0) ⊎ (k ≡ most_local) → Lacks (turn_event m rules x w t n mood (m.act x.shared (m.local k c))).after
    lacks_turn t n k c mood at bound =
        let d : C = m.local k c in
        let z : Moved m ContextOf t d = moved m SharedOf ContextOf rules flat x i going w t n k c mood at bound in
        let there : place_at x.places (m.thread_of d) ≡ out w c n mood = ap (λ (k : ℕ). place_at x.places k) z.thread ∙ at in
        let l : Leaves m SharedOf x.shared (m.thread_of d) (m.act x.shared d) = left m ContextOf SharedOf flat x.shared x.places i.of_ i.few sits w n c d mood there z.of_ z.progress in
        let h : SitsAt m ContextOf x.shared None t (out w c n mood) = subst (SitsAt m ContextOf x.shared None t) at (sits t) in
        by (goes (m.act x.shared d).turned)
        (λ (j : ℕ) (e : ends_with t (m.act x.shared d).turned ≡ Some (ends.StackLimit j)).
        let is : (t ≡ j) × (is_end (m.act x.shared d).turned ≡ false) = lacks t j (m.act x.shared d).turned e in
        let ended_t : m.has_ended (m.act x.shared d).shared t ≡ false =
        l.ends t ∙ ap (λ (b : Bool). b || ((t == m.thread_of d) && is_end (m.act x.shared d).turned)) h.0.going ∙ and_none (t == m.thread_of d) (is_end (m.act x.shared d).turned) is.1 in
        (subst (λ (a : ℕ). m.has_ended (m.act x.shared d).shared a ≡ false) is.0 ended_t, let below = h.2 in let more = l.more in let same = is.0 in omega arith))
      where
        by : (g : Goes) → ((j : ℕ) → ends_with t (m.act x.shared (m.local k c)).turned ≡ Some (ends.StackLimit j) → (m.has_ended (m.act x.shared (m.local k c)).shared j ≡ false) × (j < m.threads (m.act x.shared (m.local k c)).shared))
            → Lacks (turned_by m rules x w t (n + 1) mood (m.act x.shared (m.local k c)) g)
        by on h = h
        by back h = h
        by away h = h

    lack_cases : Cases m rules x w (λ v. Lacks v.after)
    lack_cases = record {
      begins = λ t c calm picked at j e. let bad : None ≡ Some (ends.StackLimit j) = sym going ∙ e in absurd cc;
      leaves = λ t c calm picked at j e. let bad : None ≡ Some (ends.StackLimit j) = sym going ∙ e in absurd cc;
      sweeps = λ want none j e. let bad : None ≡ Some (ends.StackLimit j) = sym going ∙ e in absurd cc;
      works = λ t n c at. lacks_turn t n most_local c free at (inr refl);
      rests = λ t n c at. lacks_turn t n 0 c asked at (inl refl);
      comes = λ t n c at j e. let bad : None ≡ Some (ends.StackLimit j) = sym going ∙ e in absurd cc;
    }

    cases : Cases m rules x w (λ v. Goes_on v.after)
    cases = record {
      begins = λ t c calm picked at h. main;
      leaves = λ t c calm picked at h. main;
      sweeps = λ want none h.
          let quiet : count_by is_out x.places ≡ 0 = same_number _ 0 none in
          let b = sweeps_on m SharedOf ContextOf flat rules.evacuates x.shared (homes_of x.places) i.of_ (of_run m ContextOf SharedOf flat x.shared x.places i.of_ i.few sits) (may_sweep m ContextOf SharedOf flat x.shared x.places i.of_ i.few sits i.places quiet) in
          b.ends 0 ∙ main;
      works = λ t n c at. after_turn t n most_local c free at (inr refl);
      rests = λ t n c at. after_turn t n 0 c asked at (inl refl);
      comes = λ t n c at h. main;
    }

  -- with what holds of each state of a replay
  pub record Holding (x : RunState S C) : Type 0 where
    pub held : Invariant m SharedOf ContextOf rules x
    pub main : Goes_on x
    pub lack : Lacks x

  -- each entry keeps it
  keeps : (log : List Entry) (x : RunState S C) (e : Entry) (y : RunState S C) → Holding x → step m rules x e ≡ Some y → Holding y
  keeps log x e y h st = record {
    held = invariant_keeps m SharedOf ContextOf rules flat log x e y h.held st;
    main = step_cases m rules x e y {R = Goes_on y}
        (λ n. subst Goes_on (sym n.is) h.main)
        (λ f.
        let going = none_ends x.ending _ f.live in
        let main : m.has_ended x.shared 0 ≡ false = h.main (subst NotDone (sym going) tt) in
        subst Goes_on (sym f.is) (subst (Holds m rules x e.worker (λ v. Goes_on v.after)) f.event (event_holds m rules x e.worker (λ v. Goes_on v.after) (cases x h.held going e.worker main) e.kind e.thread)))
        st;
    lack = step_cases m rules x e y {R = Lacks y}
        (λ n. subst Lacks (sym n.is) h.lack)
        (λ f.
        let going = none_ends x.ending _ f.live in
        let main : m.has_ended x.shared 0 ≡ false = h.main (subst NotDone (sym going) tt) in
        subst Lacks (sym f.is) (subst (Holds m rules x e.worker (λ v. Lacks v.after)) f.event (event_holds m rules x e.worker (λ v. Lacks v.after) (lack_cases x h.held going e.worker main) e.kind e.thread)))
        st;
  }

  -- so it holds behind each journal
  pub main_runs : (first : S) → IsOpened m SharedOf first → (log : List Entry) (x : RunState S C) → run m rules log (start m rules first) ≡ Some x → Holding x
  main_runs first opened log x ran =
      run_keeps m rules (λ _ z. Holding z) keeps [] log (start m rules first) x (record { held = starts m SharedOf ContextOf rules flat first opened; main = λ h. opened.going 0; lack = λ n e. absurd cc }) ran
