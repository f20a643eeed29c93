-- What the calls of the world and of the machine ask, of those that are out.
use Rattle.std.proofs.Common.{◌≡◌, ℕ, ◌<◌, ◌==◌, Bool, true, false, cond, List, ◌++◌, length, set, ap, sym, subst, ◌∙◌, refl, arith, Option, Some, None}
use Rattle.std.specs.Prelude.{◌⊎◌}
use mathlib.Core.Logic.{inl, inr}
use Rattle.std.proofs.Math.ListN.{get_or-map, length-map}
use Rattle.flat_rules.specs.Machine.{Machine}
use Rattle.flat_rules.specs.States.{RunState, Place, unbegun, home, out, gone, Mood, free, asked, must, place_at, most_threads}
use Rattle.flat_rules.specs.Events.{most_local}
use Rattle.flat_rules.specs.Lawful.{IsFlat}
use Rattle.flat_rules.specs.inner.Cases.{same_number}
use Rattle.world_rules.specs.declared.calls.Call.TheVariants as call
use Rattle.world_rules.specs.declared.calls.Found.{Found}
use Rattle.world_rules.specs.declared.calls.Found.TheVariants as found
use Rattle.world_rules.specs.Whole.{Whole}
use Rattle.world_rules.specs.Calls.{finds, entries_of, after}
use Rattle.world_rules.specs.Allowed.{IsOut, FoundSays}
use Rattle.world_rules.specs.Sound.{IsSound, MayStep, MayWork}
use Rattle.world_rules.specs.inner.Stays.{inside}
use Rattle.world_rules.proofs.Invariant.{Invariant, runs_keep}
use Rattle.world_rules.proofs.CallsKeep.{replays_on}
use Rattle.world_rules.proofs.Says.{found_says}
use Rattle.world_rules.proofs.Sits.{SitsAt}
use Rattle.world_rules.proofs.Soundness.{sound, may_step, may_work, may_come_home}
use Rattle.flat_replay.specs.declared.driver.Hand.{Hand}
use Rattle.flat_replay.specs.declared.driver.Mood.TheVariants as mood
use Rattle.flat_replay.specs.inner.Hands.{hand, hands_found, hand_of, hand_at, with_worker, mood_of}
use Rattle.flat_replay.specs.inner.Follows.{IsAt}

module _ {C : Type 0} (w : ℕ) where
  -- a thread that is out with the worker, as this hand has it
  pub record IsHeld (p : Place C) (h : Hand C) : Type 0 where
    pub turns : ℕ
    pub how : Mood
    pub there : p ≡ out w h.ctx turns how
    pub mood_is : h.mood ≡ mood_of how

  held : (p : Place C) (h : Hand C) → with_worker w (hand_of p) ≡ Some h → IsHeld p h
  held (unbegun c) h is = absurd (cc is)
  held (home c) h is = absurd (cc is)
  held gone h is = absurd (cc is)
  held (out u c n m) h is = by (u == w) refl is
    where
      by : (b : Bool) → (u == w) ≡ b → cond b (Some (hand u c (mood_of m))) None ≡ Some h → IsHeld (out u c n m) h
      by false q is = absurd (cc is)
      by true q is = let same : hand u c (mood_of m) ≡ h = cc is in record {
        turns = n;
        how = m;
        there = λ i. out (same_number u w q i) ((ap (λ (z : Hand C). z.ctx) same) i) n m;
        mood_is = ap (λ (z : Hand C). z.mood) (sym same);
      }

module _ {S K C : Type 0} (machine : K → Machine S C) (SharedOf : K → S → Type 0) (ContextOf : K → C → Type 0) (flat : (code : K) → IsFlat (machine code) (SharedOf code) (ContextOf code)) (first : Whole S K C)
    (x : Whole S K C) (hands : List (Option (Hand C))) (at : IsAt machine SharedOf first x hands) where
  abbrev s : RunState S C
  s = at.reaches.replays.state

  code_is : x.code ≡ first.code
  code_is = ap (λ (z : Whole S K C). z.code) at.reaches.replays.is

  holds : Invariant (machine first.code) (SharedOf first.code) (ContextOf first.code) first.settings s
  holds = runs_keep (machine first.code) (SharedOf first.code) (ContextOf first.code) first.settings (flat first.code) first.shared at.reaches.opened x.log.entries s at.reaches.replays.leads.runs

  pub is_sound : IsSound machine SharedOf ContextOf x
  is_sound = sound machine SharedOf ContextOf flat first x.log.entries x at.reaches

  -- there is a place for each thread
  pub all_hands : length hands ≡ most_threads
  all_hands = ap length at.hands_are ∙ (length-map s.places hand_of ∙ holds.places)

  module _ (w : ℕ) where
    -- a thread that goes out has its place
    pub found_within : w < first.settings.workers → (c : C) → (finds machine x w).0 ≡ found.Work c → (machine x.code).thread_of c < length hands
    found_within few c is =
        let says : FoundSays machine first (x.log.entries ++ entries_of machine x w call.Find) w (found.Work c) = subst (FoundSays machine first (x.log.entries ++ entries_of machine x w call.Find) w) is (found_says machine SharedOf ContextOf flat first x.log.entries x w at.reaches few) in
        let i = runs_keep (machine first.code) (SharedOf first.code) (ContextOf first.code) first.settings (flat first.code) first.shared at.reaches.opened (x.log.entries ++ entries_of machine x w call.Find) says.state says.leads.runs in
        let within : (machine first.code).thread_of c < length says.state.places = inside says.state.places ((machine first.code).thread_of c) (λ e. let z : out w c says.turns free ≡ gone = sym says.there ∙ e in absurd (cc z)) in
        subst (λ (k : K). (machine k).thread_of c < length hands) (sym code_is) (let a = i.places in let b = all_hands in omega arith)

    -- whatever the code is called, a thread that goes out has its place
    module _ (few : w < first.settings.workers) (c : C) (is : (finds machine x w).0 ≡ found.Work c) (x' : Whole S K C) (k : K) (t : ℕ) (left : x' ≡ after machine x w call.Find) (code : k ≡ x'.code) (thread : t ≡ (machine k).thread_of c) where
      same_code : k ≡ x.code
      same_code = code ∙ (ap (λ (z : Whole S K C). z.code) (left ∙ (replays_on machine SharedOf ContextOf flat first x.log.entries x w call.Find at.reaches (few, tt)).replays.is) ∙ sym code_is)

      thread_is : t ≡ (machine x.code).thread_of c
      thread_is = thread ∙ ap (λ (z : K). (machine z).thread_of c) same_code

      pub found_place : t < length hands
      found_place = subst (λ (z : ℕ). z < length hands) (sym thread_is) (found_within few c is)

      pub found_hands : set hands t (Some (hand w c mood.Free)) ≡ hands_found (machine x.code) w (finds machine x w).0 hands
      found_hands = ap (λ (z : ℕ). set hands z (Some (hand w c mood.Free))) thread_is ∙ ap (λ (r : Found C). hands_found (machine x.code) w r hands) (sym is)

    module _ (t : ℕ) (h : Hand C) (is : with_worker w (hand_at hands t) ≡ Some h) where
      has : IsHeld w (place_at s.places t) h
      has = held w (place_at s.places t) h (ap (with_worker w) (sym (ap (λ (z : List (Option (Hand C))). hand_at z t) at.hands_are ∙ get_or-map hand_of s.places t gone)) ∙ is)

      sits : SitsAt (machine first.code) (ContextOf first.code) s.shared s.ending t (out w h.ctx has.turns has.how)
      sits = subst (SitsAt (machine first.code) (ContextOf first.code) s.shared s.ending t) has.there (holds.each t)

      -- where it is out as a context that comes of its own
      out_as : (d : C) → (machine first.code).thread_of d ≡ t → IsOut machine first x.log.entries w ((machine first.code).thread_of d) h.ctx has.how
      out_as d thread = record { state = s; leads = at.reaches.replays.leads; turns = has.turns; there = ap (λ (z : ℕ). place_at s.places z) thread ∙ has.there }

      -- it may work by itself
      pub works_on : MayWork machine SharedOf ContextOf x.code h.ctx
      works_on = subst (λ (k : K). MayWork machine SharedOf ContextOf k h.ctx) (sym code_is) (may_work machine SharedOf ContextOf flat first at.reaches.opened x.log.entries w t h.ctx has.how (record { state = s; leads = at.reaches.replays.leads; turns = has.turns; there = has.there }))

      moved_thread : (k : ℕ) → (k ≡ 0) ⊎ (k ≡ most_local) → (machine first.code).thread_of ((machine first.code).local k h.ctx) ≡ t
      moved_thread k bound = ((flat first.code).works k h.ctx sits.0.of_ bound sits.0.progress).thread ∙ sits.0.thread

      by_mood : (m : Mood) → has.how ≡ m → h.mood ≡ mood_of m
      by_mood m e = has.mood_is ∙ ap mood_of e

      free_may : h.mood ≡ mood.Free → MayStep machine SharedOf ContextOf x ((machine first.code).local most_local h.ctx)
      free_may fresh = by has.how refl
        where
          by : (m : Mood) → has.how ≡ m → MayStep machine SharedOf ContextOf x ((machine first.code).local most_local h.ctx)
          by free e = may_step machine SharedOf ContextOf flat first x.log.entries x at.reaches w ((machine first.code).local most_local h.ctx)
              (h.ctx, free, subst (IsOut machine first x.log.entries w ((machine first.code).thread_of ((machine first.code).local most_local h.ctx)) h.ctx) e (out_as _ (moved_thread most_local (inr refl))), refl)
          by asked e = absurd (let z : mood.Free ≡ mood.Asked = sym fresh ∙ by_mood asked e in cc z)
          by must e = absurd (let z : mood.Free ≡ mood.Must = sym fresh ∙ by_mood must e in cc z)

      asked_may : h.mood ≡ mood.Asked → MayStep machine SharedOf ContextOf x ((machine first.code).local 0 h.ctx)
      asked_may fresh = by has.how refl
        where
          by : (m : Mood) → has.how ≡ m → MayStep machine SharedOf ContextOf x ((machine first.code).local 0 h.ctx)
          by asked e = may_step machine SharedOf ContextOf flat first x.log.entries x at.reaches w ((machine first.code).local 0 h.ctx)
              (h.ctx, asked, subst (IsOut machine first x.log.entries w ((machine first.code).thread_of ((machine first.code).local 0 h.ctx)) h.ctx) e (out_as _ (moved_thread 0 (inl refl))), refl)
          by free e = absurd (let z : mood.Asked ≡ mood.Free = sym fresh ∙ by_mood free e in cc z)
          by must e = absurd (let z : mood.Asked ≡ mood.Must = sym fresh ∙ by_mood must e in cc z)

      -- after one call of `local` it may take its step
      pub free_steps : (k : K) (d : C) → h.mood ≡ mood.Free → k ≡ x.code → d ≡ (machine k).local most_local h.ctx → MayStep machine SharedOf ContextOf x d
      free_steps k d fresh code is = subst (MayStep machine SharedOf ContextOf x) (sym (is ∙ ap (λ (z : K). (machine z).local most_local h.ctx) (code ∙ code_is))) (free_may fresh)

      pub asked_steps : (k : K) (d : C) → h.mood ≡ mood.Asked → k ≡ x.code → d ≡ (machine k).local 0 h.ctx → MayStep machine SharedOf ContextOf x d
      asked_steps k d fresh code is = subst (MayStep machine SharedOf ContextOf x) (sym (is ∙ ap (λ (z : K). (machine z).local 0 h.ctx) (code ∙ code_is))) (asked_may fresh)

      -- it may come home, where it is to
      pub homes_on : h.mood ≡ mood.Must → (0 < x.out) × ((machine x.code).thread_of h.ctx < most_threads)
      homes_on fresh = by has.how refl
        where
          by : (m : Mood) → has.how ≡ m → (0 < x.out) × ((machine x.code).thread_of h.ctx < most_threads)
          by must e = may_come_home machine SharedOf ContextOf flat first x.log.entries x at.reaches w h.ctx (subst (IsOut machine first x.log.entries w ((machine first.code).thread_of h.ctx) h.ctx) e (out_as h.ctx sits.0.thread))
          by free e = absurd (let z : mood.Must ≡ mood.Free = sym fresh ∙ by_mood free e in cc z)
          by asked e = absurd (let z : mood.Must ≡ mood.Asked = sym fresh ∙ by_mood asked e in cc z)
