-- From one program's runs to another's: where every order shows the same of both, from one world on, and leaves their threads as deep in
-- calls, what a journal means for the one it means for the other.
use Rattle.std.proofs.Common.{◌≡◌, ℕ, suc, ◌<◌, List, [], ◌∷◌, ◌++◌, length, Option, Some, None, refl, sym, ap, ◌∙◌, subst, inl, inr, arith}
use Rattle.std.specs.Prelude.{◌⊎◌, set, take}
use Rattle.std.proofs.lemmas.List.{append_cancel_left}
use Rattle.ak_words.specs.declared.rule.Rule.{Rule}
use Rattle.ak_words.specs.Prefix.{IsPrefix}
use Rattle.ak_trace.specs.declared.entry.Entry.{Entry}
use Rattle.block_store.specs.declared.values.Answer.TheVariants as answers
use Rattle.block_store.specs.Actions.{World}
use Rattle.block_store.specs.Runs.{Pick, Turn, went, ended, blocked, unfit, broke, Program, State, own_at, begun, turn_if, picked, Run, reaches, breaks, no_run, next_state, goes_on, run_from, run, first_state, Shown, it_begins, it_went, it_ended, it_blocked, it_was_unfit, it_broke, no_such_turn, shown_then, shown_from}
use Rattle.block_store.specs.Runs as runs
use Rattle.c_meaning.specs.Alike.{TurnsAlike, both_went, both_ended, both_blocked, both_unfit, both_broke, in_world, at_break, at_no_run, reached_by, reached_in}
use Rattle.c_meaning.proofs.Alike.{reached_shown}
use Rattle.ak_trace.specs.declared.endings.End.{End}
use Rattle.ak_trace.specs.declared.endings.End.TheVariants as ends
use Rattle.flat_meaning.specs.Journals.{journal_picks}
use Rattle.flat_meaning.specs.Order.{pick}
use Rattle.flat_meaning.specs.Reaching.{Broken}
use Rattle.flat_rules.specs.declared.settings.Settings.{Settings}
use Rattle.flat_machine.specs.Replays.{Final}
use Rattle.flat_simulation.proofs.Numbering.{own_within, own_at-set_same, own_at-front, length-set_own}
use Rattle.flat_simulation.proofs.SourceRuns.{reached_then}
use Rattle.flat_replay.specs.Meaning.{Runs, MainReturned, Goes, tried_with, last_thread, tried_turn, BreaksAt, by_turn, by_attempt, by_waiting, EntersCall, HasNoTurn, EndsAs, IsAsMeant, IsUpToABreak, IsMeaning}

-- ---- what one pick shows

-- what it shows, by what comes of it
abbrev shows : {A : Type 0} → Program A → Option (Turn A) → Shown
shows P None = no_such_turn
shows P (Some (went own w)) = it_went (P.calls own) w
shows P (Some (ended w)) = it_ended w
shows P (Some blocked) = it_blocked
shows P (Some unfit) = it_was_unfit
shows P (Some (broke rule place)) = it_broke rule place

-- what comes of a pick that shows this
data Shows {A : Type 0} : Shown → Option (Turn A) → Type 0 where
  shows_none : Shows no_such_turn None
  shows_went : (calls : ℕ) (own : A) (w : World) → Shows (it_went calls w) (Some (went own w))
  shows_ended : (w : World) → Shows (it_ended w) (Some (ended w))
  shows_blocked : Shows it_blocked (Some blocked)
  shows_unfit : Shows it_was_unfit (Some unfit)
  shows_broke : (rule : Rule) (place : ℕ) → Shows (it_broke rule place) (Some (broke rule place))

-- each pick shows what it does
shows_it : {A : Type 0} (P : Program A) (o : Option (Turn A)) → Shows (shows P o) o
shows_it P None = shows_none
shows_it P (Some (went own w)) = shows_went (P.calls own) own w
shows_it P (Some (ended w)) = shows_ended w
shows_it P (Some blocked) = shows_blocked
shows_it P (Some unfit) = shows_unfit
shows_it P (Some (broke rule place)) = shows_broke rule place

module _ {A : Type 0} (P : Program A) where
  -- a pick behind which no other comes shows that alone
  shown_alone : (u : State A) (n : ℕ) (o : Option (Turn A)) → shown_then P (shown_from P []) u n o ≡ shows P o ∷ []
  shown_alone u n None = refl
  shown_alone u n (Some (went own w)) = refl
  shown_alone u n (Some (ended w)) = refl
  shown_alone u n (Some blocked) = refl
  shown_alone u n (Some unfit) = refl
  shown_alone u n (Some (broke rule place)) = refl

  -- an order that reaches a state shows what it does, and then what the rest shows from there
  shown_from-append : (order rest : List Pick) (k : ℕ) (s u : State A) → run_from P order k s ≡ reaches u → shown_from P (order ++ rest) s ≡ shown_from P order s ++ shown_from P rest u
  shown_from-append [] rest k s u e = ap (shown_from P rest) (let same : s ≡ u = cc in same)
  shown_from-append (p ∷ order) rest k s u e = by (λ v. shown_from-append order rest (suc k) v u) (picked P s p) e where
    by : ((v : State A) → run_from P order (suc k) v ≡ reaches u → shown_from P (order ++ rest) v ≡ shown_from P order v ++ shown_from P rest u) → (o : Option (Turn A)) → goes_on P (run_from P order (suc k)) s p.thread k o ≡ reaches u
        → shown_then P (shown_from P (order ++ rest)) s p.thread o ≡ shown_then P (shown_from P order) s p.thread o ++ shown_from P rest u
    by more None e = absurd cc
    by more (Some (went own w)) e = ap (λ z. it_went (P.calls own) w ∷ z) (more (next_state P s p.thread (Some own) w) e)
    by more (Some (ended w)) e = ap (λ z. it_ended w ∷ z) (more (next_state P s p.thread None w) e)
    by more (Some blocked) e = absurd cc
    by more (Some unfit) e = absurd cc
    by more (Some (broke rule place)) e = absurd cc

  -- behind an order that reaches a state: what that shows, and what the pick shows there
  shown_last : (w : World) (order : List Pick) (u : State A) (p : Pick) → run P w order ≡ reaches u → runs.shown P w (order ++ p ∷ []) ≡ runs.shown P w order ++ shows P (picked P u p) ∷ []
  shown_last w order u p e = ap (λ z. it_begins w ∷ z) (shown_from-append order (p ∷ []) 0 (first_state P w) u e) ∙ ap (λ z. runs.shown P w order ++ z) (shown_alone u p.thread (picked P u p))

  -- ---- what a thread has after its turn

  -- a thread that has a turn runs
  picked_own : (u : State A) (p : Pick) (m o : Option A) (t : Turn A) → turn_if P u p m o ≡ Some t → (a : A) × (o ≡ Some a)
  picked_own u p None o t e = absurd cc
  picked_own u p (Some m) None t e = absurd cc
  picked_own u p (Some m) (Some a) t e = (a, refl)

  -- one that goes on has what its turn left it, also where it made a thread
  own_after : (u : State A) (p : Pick) (a : A) (w : World) → picked P u p ≡ Some (went a w) → own_at (next_state P u p.thread (Some a) w).own p.thread ≡ Some a
  own_after u p a w e =
      let it = picked_own u p (own_at u.own 0) (own_at u.own p.thread) (went a w) e in
      let below = own_within u.own p.thread it.0 it.1 in
      own_at-front (set u.own p.thread (Some a)) (begun P (length u.own) w) p.thread (let long = length-set_own u.own p.thread (Some a) in omega (arith, below, long))
      ∙ own_at-set_same u.own p.thread (Some a) below

  -- and the run that it ends
  reached_after : (w : World) (order : List Pick) (u : State A) (p : Pick) (a : A) (v : World) → run P w order ≡ reaches u → picked P u p ≡ Some (went a v) → run P w (order ++ p ∷ []) ≡ reaches (next_state P u p.thread (Some a) v)
  reached_after w order u p a v e at =
      reached_then P w order (p ∷ []) u (next_state P u p.thread (Some a) v) e (ap (goes_on P (run_from P [] (suc (length order))) u p.thread (length order)) at)

-- ---- picks of two programs

-- both are none, or turns that come out alike
data PicksAlike {A B : Type 0} (R : A → B → Type 0) : Option (Turn A) → Option (Turn B) → Type 0 where
  no_turns : PicksAlike R None None
  two_turns : (t : Turn A) (u : Turn B) → TurnsAlike R t u → PicksAlike R (Some t) (Some u)

module _ {A B : Type 0} (R : A → B → Type 0) where
  -- they are alike where they show the same, and what two threads that went then have is related
  alike_by_shown : (P : Program A) (o : Option (Turn A)) (o' : Option (Turn B)) → Shows (shows P o) o' → ((a : A) (b : B) (w : World) → o ≡ Some (went a w) → o' ≡ Some (went b w) → R a b) → PicksAlike R o o'
  alike_by_shown P None _ shows_none r = no_turns
  alike_by_shown P (Some (went a w)) _ (shows_went _ b _) r = two_turns (went a w) (went b w) (both_went a b w (r a b w refl refl))
  alike_by_shown P (Some (ended w)) _ (shows_ended _) r = two_turns (ended w) (ended w) (both_ended w)
  alike_by_shown P (Some blocked) _ shows_blocked r = two_turns blocked blocked both_blocked
  alike_by_shown P (Some unfit) _ shows_unfit r = two_turns unfit unfit both_unfit
  alike_by_shown P (Some (broke rule place)) _ (shows_broke _ _) r = two_turns (broke rule place) (broke rule place) (both_broke rule place)

  -- also as they are tried
  tried_alike : (o g : Option (Turn A)) (o' g' : Option (Turn B)) → PicksAlike R o o' → PicksAlike R g g' → PicksAlike R (tried_with o g) (tried_with o' g')
  tried_alike _ g _ g' no_turns got = no_turns
  tried_alike _ g _ g' (two_turns _ _ (both_went a b w r)) got = two_turns (went a w) (went b w) (both_went a b w r)
  tried_alike _ g _ g' (two_turns _ _ (both_ended w)) got = two_turns (ended w) (ended w) (both_ended w)
  tried_alike _ g _ g' (two_turns _ _ both_blocked) got = two_turns blocked blocked both_blocked
  tried_alike _ g _ g' (two_turns _ _ both_unfit) got = got
  tried_alike _ g _ g' (two_turns _ _ (both_broke rule place)) got = two_turns (broke rule place) (broke rule place) (both_broke rule place)

  -- the one breaks a rule where the other does
  broken_alike : (o : Option (Turn A)) (o' : Option (Turn B)) → PicksAlike R o o' → Broken o → Broken o'
  broken_alike _ _ no_turns h = absurd h
  broken_alike _ _ (two_turns _ _ (both_went a b w r)) h = absurd h
  broken_alike _ _ (two_turns _ _ (both_ended w)) h = absurd h
  broken_alike _ _ (two_turns _ _ both_blocked) h = absurd h
  broken_alike _ _ (two_turns _ _ both_unfit) h = absurd h
  broken_alike _ _ (two_turns _ _ (both_broke rule place)) h = tt

  -- the one waits where the other does
  blocked_alike : (o : Option (Turn A)) (o' : Option (Turn B)) → PicksAlike R o o' → o ≡ Some blocked → o' ≡ Some blocked
  blocked_alike _ _ no_turns h = absurd cc
  blocked_alike _ _ (two_turns _ _ (both_went a b w r)) h = absurd cc
  blocked_alike _ _ (two_turns _ _ (both_ended w)) h = absurd cc
  blocked_alike _ _ (two_turns _ _ both_blocked) h = refl
  blocked_alike _ _ (two_turns _ _ both_unfit) h = absurd cc
  blocked_alike _ _ (two_turns _ _ (both_broke rule place)) h = absurd cc

  -- the one goes where the other does, to what is related
  goes_alike : (G : A → World → Type 0) (G' : B → World → Type 0) → ((a : A) (b : B) (w : World) → R a b → G a w → G' b w) → (o : Option (Turn A)) (o' : Option (Turn B)) → PicksAlike R o o' → Goes G o → Goes G' o'
  goes_alike G G' f _ _ no_turns h = absurd h
  goes_alike G G' f _ _ (two_turns _ _ (both_went a b w r)) h = f a b w r h
  goes_alike G G' f _ _ (two_turns _ _ (both_ended w)) h = absurd h
  goes_alike G G' f _ _ (two_turns _ _ both_blocked) h = absurd h
  goes_alike G G' f _ _ (two_turns _ _ both_unfit) h = absurd h
  goes_alike G G' f _ _ (two_turns _ _ (both_broke rule place)) h = absurd h

-- ---- runs that come to the same

module _ {A : Type 0} where
  -- a run that comes to this world
  reaches_there : (r : Run A) (w : World) → in_world w ≡ reached_by r → (s : State A) × (r ≡ reaches s) × (w ≡ s.world)
  reaches_there (reaches s) w e = (s, refl, cc)
  reaches_there (breaks rule k) w e = absurd cc
  reaches_there (no_run k) w e = absurd cc

  -- a run that comes to this break
  breaks_there : (r : Run A) (rule : Rule) (k : ℕ) → at_break rule k ≡ reached_by r → r ≡ breaks rule k
  breaks_there (reaches s) rule k e = absurd cc
  breaks_there (breaks rule' k') rule k e = let one : rule ≡ rule' = cc in let two : k ≡ k' = cc in (λ i. breaks (sym one i) (sym two i))
  breaks_there (no_run k') rule k e = absurd cc

  -- a run that is none here
  no_run_there : (r : Run A) (k : ℕ) → at_no_run k ≡ reached_by r → r ≡ no_run k
  no_run_there (reaches s) k e = absurd cc
  no_run_there (breaks rule k') k e = absurd cc
  no_run_there (no_run k') k e = let one : k ≡ k' = cc in ap no_run (sym one)

-- ---- two programs

-- two threads, each if it runs: both run, with equally many calls that wait, or neither does
abbrev pub DeepAlike : {A B : Type 0} → (A → ℕ) → (B → ℕ) → Option A → Option B → Type 0
DeepAlike d e None None = Unit {0}
DeepAlike d e None (Some b) = ⊥
DeepAlike d e (Some a) None = ⊥
DeepAlike d e (Some a) (Some b) = d a ≡ e b

-- both show the same under every order, and where an order leads them each thread is as deep in both
pub record SameRuns {A B : Type 0} (P : Program A) (w : World) (d : A → ℕ) (Q : Program B) (v : World) (e : B → ℕ) : Type 0 where
  pub shown : (order : List Pick) → runs.shown P w order ≡ runs.shown Q v order
  pub deep : (order : List Pick) (u : State A) (s : State B) → run P w order ≡ reaches u → run Q v order ≡ reaches s → (thread : ℕ) → DeepAlike d e (own_at u.own thread) (own_at s.own thread)

-- the other way round
deep_turned : {A B : Type 0} (d : A → ℕ) (e : B → ℕ) (o : Option A) (o' : Option B) → DeepAlike d e o o' → DeepAlike e d o' o
deep_turned d e None None h = tt
deep_turned d e None (Some b) h = absurd h
deep_turned d e (Some a) None h = absurd h
deep_turned d e (Some a) (Some b) h = sym h

-- two programs that are alike are so the other way round
same_turned : {A B : Type 0} (P : Program A) (w : World) (d : A → ℕ) (Q : Program B) (v : World) (e : B → ℕ) → SameRuns P w d Q v e → SameRuns Q v e P w d
same_turned P w d Q v e h = record {
  shown = λ order. sym (h.shown order);
  deep = λ order s u at at' thread. deep_turned d e (own_at u.own thread) (own_at s.own thread) (h.deep order u s at' at thread);
}

module _ {A B : Type 0} (P : Program A) (w : World) (d : A → ℕ) (Q : Program B) (v : World) (e : B → ℕ) (same : SameRuns P w d Q v e) where
  -- the run of each order comes to the same
  come_to_one : (order : List Pick) → reached_by (run P w order) ≡ reached_by (run Q v order)
  come_to_one order = reached_shown P w w order ∙ ap (reached_in w 0) (same.shown order) ∙ sym (reached_shown Q v w order)

  -- a state in the same world
  reaches_too : (order : List Pick) (u : State A) → run P w order ≡ reaches u → (s : State B) × (run Q v order ≡ reaches s) × (u.world ≡ s.world)
  reaches_too order u at = reaches_there (run Q v order) u.world (ap reached_by (sym at) ∙ come_to_one order)

  -- the same break
  breaks_too : (order : List Pick) (rule : Rule) (k : ℕ) → run P w order ≡ breaks rule k → run Q v order ≡ breaks rule k
  breaks_too order rule k at = breaks_there (run Q v order) rule k (ap reached_by (sym at) ∙ come_to_one order)

  -- no run, after as many turns
  no_run_too : (order : List Pick) (k : ℕ) → run P w order ≡ no_run k → run Q v order ≡ no_run k
  no_run_too order k at = no_run_there (run Q v order) k (ap reached_by (sym at) ∙ come_to_one order)

  -- ---- in states that one order reaches

  module _ (order : List Pick) (u : State A) (s : State B) (at : run P w order ≡ reaches u) (at' : run Q v order ≡ reaches s) where
    -- each pick shows the same
    shows_same : (p : Pick) → shows P (picked P u p) ≡ shows Q (picked Q s p)
    shows_same p =
        let ends_same : shows P (picked P u p) ∷ [] ≡ shows Q (picked Q s p) ∷ [] = append_cancel_left (runs.shown P w order) (shows P (picked P u p) ∷ []) (shows Q (picked Q s p) ∷ [])
        (sym (shown_last P w order u p at) ∙ same.shown (order ++ p ∷ []) ∙ shown_last Q v order s p at' ∙ ap (λ z. z ++ shows Q (picked Q s p) ∷ []) (sym (same.shown order))) in
        cc

    -- threads that went are as deep then
    went_as_deep : (p : Pick) (a : A) (b : B) (x : World) → picked P u p ≡ Some (went a x) → picked Q s p ≡ Some (went b x) → d a ≡ e b
    went_as_deep p a b x one two =
        let deep = same.deep (order ++ p ∷ []) _ _ (reached_after P w order u p a x at one) (reached_after Q v order s p b x at' two) p.thread in
        let here : DeepAlike d e (Some a) (own_at (next_state Q s p.thread (Some b) x).own p.thread) = subst (λ (o : Option A). DeepAlike d e o (own_at (next_state Q s p.thread (Some b) x).own p.thread)) (own_after P u p a x one) deep in
        subst (λ (o : Option B). DeepAlike d e (Some a) o) (own_after Q s p b x two) here

    -- so each pick comes out alike
    picks_alike : (p : Pick) → PicksAlike (λ a b. d a ≡ e b) (picked P u p) (picked Q s p)
    picks_alike p = alike_by_shown (λ a b. d a ≡ e b) P (picked P u p) (picked Q s p) (subst (λ z. Shows z (picked Q s p)) (sym (shows_same p)) (shows_it Q (picked Q s p))) (went_as_deep p)

    -- a turn that is tried breaks a rule in both
    broken_too : (log : List Entry) (thread : ℕ) → Broken (tried_turn P w d log u thread) → Broken (tried_turn Q v e log s thread)
    broken_too log thread = broken_alike (λ a b. d a ≡ e b) _ _ (tried_alike (λ a b. d a ≡ e b) _ _ _ _ (picks_alike (pick thread answers.Plain)) (picks_alike (pick thread answers.Got)))

    -- ---- ends

    module _ (one_world : u.world ≡ s.world) (log : List Entry) where
      -- the same threads run
      runs_there : (thread : ℕ) → Runs u.world thread → Runs s.world thread
      runs_there thread = subst (λ (x : World). Runs x thread) one_world

      runs_here : (thread : ℕ) → Runs s.world thread → Runs u.world thread
      runs_here thread = subst (λ (x : World). Runs x thread) (sym one_world)

      -- a call is entered in both
      enters_too : (thread : ℕ) → EntersCall P w d log u thread → EntersCall Q v e log s thread
      enters_too thread h = by (own_at u.own thread) (own_at s.own thread) refl refl h.1 (same.deep order u s at at' thread) where
        by : (o : Option A) (o' : Option B) → own_at u.own thread ≡ o → own_at s.own thread ≡ o' → o ≡ Some h.0 → DeepAlike d e o o' → EntersCall Q v e log s thread
        by None o' is is' own deep = absurd cc
        by (Some a) None is is' own deep = absurd deep
        by (Some a) (Some b) is is' own deep =
            let here : a ≡ h.0 = cc in
            (b, is', goes_alike (λ x y. d x ≡ e y) (λ next x. d next ≡ suc (d h.0)) (λ next x. e next ≡ suc (e b)) (λ x y z r g. sym r ∙ g ∙ ap suc (sym (ap d here) ∙ deep)) _ _ (picks_alike (pick thread answers.Plain)) h.2)

      -- the end is as in the table for both
      ends_too : (settings : Settings) (end : End) → EndsAs P w d log settings u end → EndsAs Q v e log settings s end
      ends_too settings (ends.Done value) h = subst (λ (x : World). MainReturned x value) one_world h
      ends_too settings (ends.Trap word kind) h = absurd h
      ends_too settings ends.AllBlocked h = (runs_there 0 h.0, λ thread lives. blocked_alike (λ a b. d a ≡ e b) _ _ (picks_alike (pick thread answers.Plain)) (h.1 thread (runs_here thread lives)))
      ends_too settings ends.TurnLimit h = (runs_there 0 h.0, h.1)
      ends_too settings ends.OutputLimit h =
          (runs_there 0 h.0, goes_alike (λ a b. d a ≡ e b) (λ next x. settings.output < length x.output) (λ next x. settings.output < length x.output) (λ a b x r g. g) _ _ (picks_alike (pick (last_thread log) answers.Plain)) h.1)
      ends_too settings (ends.StackLimit thread) h = (runs_there 0 h.0, runs_there thread h.1, by h.2) where
        by : EntersCall P w d log u thread ⊎ HasNoTurn P w d log thread → EntersCall Q v e log s thread ⊎ HasNoTurn Q v e log thread
        by (inl enters) = inl (enters_too thread enters)
        by (inr never) = inr never

  -- ---- breaks

  -- a rule is broken after as many turns
  break_too : (log : List Entry) (end : Option End) (turns : ℕ) → BreaksAt P w d log end turns → BreaksAt Q v e log end turns
  break_too log end turns (by_turn rule at) = by_turn rule (breaks_too (journal_picks log) rule turns at)
  break_too log end turns (by_attempt thread u tries at broken) =
      let there = reaches_too (take turns (journal_picks log)) u at in
      by_attempt thread there.0 tries there.1 (broken_too (take turns (journal_picks log)) u there.0 at there.1 log thread broken)
  break_too log end turns (by_waiting thread u all behind at broken) =
      let there = reaches_too (journal_picks log) u at in
      by_waiting thread there.0 all behind there.1 (broken_too (journal_picks log) u there.0 at there.1 log thread broken)

  -- ---- the meaning of a journal

  -- a clean journal
  as_meant_too : (log : List Entry) (settings : Settings) (f : Final) → IsAsMeant P w d log settings f → IsAsMeant Q v e log settings f
  as_meant_too log settings f h =
      let there = reaches_too (journal_picks log) h.reached h.reaches_it in
      record {
        reached = there.0;
        reaches_it = there.1;
        output = h.output ∙ ap (λ (x : World). x.output) there.2;
        ends_as = λ end is. ends_too (journal_picks log) h.reached there.0 h.reaches_it there.1 there.2 log settings end (h.ends_as end is);
      }

  -- any other
  up_to_a_break_too : (log : List Entry) (turns : ℕ) (f : Final) → IsUpToABreak P w d log turns f → IsUpToABreak Q v e log turns f
  up_to_a_break_too log turns f h =
      let there = reaches_too (take turns (journal_picks log)) h.reached h.reaches_it in
      record { reached = there.0; reaches_it = there.1; output = subst (λ (x : World). IsPrefix x.output f.output) there.2 h.output }

-- what a journal means for the one it means for the other
pub meaning_too : {A B : Type 0} (P : Program A) (w : World) (d : A → ℕ) (Q : Program B) (v : World) (e : B → ℕ) → SameRuns P w d Q v e → (log : List Entry) (settings : Settings) (f : Final)
    → IsMeaning P w d log settings f → IsMeaning Q v e log settings f
meaning_too P w d Q v e same log settings f h =
    let back = same_turned P w d Q v e same in
    record {
      a_run = λ turns none. h.a_run turns (no_run_too Q v e P w d back (journal_picks log) turns none);
      clean = λ clean. as_meant_too P w d Q v e same log settings f (h.clean (λ turns broken. clean turns (break_too P w d Q v e same log f.end turns broken)));
      broken = λ turns first. up_to_a_break_too P w d Q v e same log turns f
          (h.broken turns (break_too Q v e P w d back log f.end turns first.0, λ before less broken. first.1 before less (break_too P w d Q v e same log f.end before broken)));
    }
