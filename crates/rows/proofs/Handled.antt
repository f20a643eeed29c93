-- What a pass has in hand behind a call.
use Rattle.std.proofs.Common.{◌≡◌, ℕ, ◌||◌, Bool, true, false, cond, ap, sym, subst, ◌∙◌, refl}
use Rattle.turn_lock.specs.declared.lock.Pass.{Pass}
use Rattle.turn_lock.specs.Locks.{seen_of, worker_of}
use Rattle.flat_rules.specs.Machine.{Machine}
use Rattle.flat_rules.specs.States.{Mood, free, asked}
use Rattle.flat_rules.specs.Lawful.{IsFlat}
use Rattle.world_rules.specs.declared.calls.Found.{Found}
use Rattle.world_rules.specs.declared.calls.Found.TheVariants as found
use Rattle.world_rules.specs.declared.calls.Acted.{Acted}
use Rattle.world_rules.specs.declared.calls.Acted.TheVariants as acted
use Rattle.world_rules.specs.declared.calls.Call.TheVariants as call
use Rattle.world_rules.specs.Whole.{Whole}
use Rattle.world_rules.specs.Allowed.{ActedSays, FoundSays, IsOut, MayCall}
use Rattle.world_rules.specs.Sound.{MayWork}
use Rattle.ak_world.specs.Turns.{Acts, Finds, FoundWorks}
use Rattle.ak_crew.proofs.Going as going
use Rattle.rows.specs.declared.machine.driving.Hand.{Hand}
use Rattle.rows.specs.declared.machine.driving.Hand.TheVariants as hands
use Rattle.rows.specs.Hands.{Holds, mood_of, most_of}

-- what a pass has in hand behind `find` and `act`
abbrev pub hand_found : {C : Type 0} → Found C → Hand C
hand_found (found.Work c) = hands.Out c false
hand_found found.Nothing = hands.Free
hand_found found.Swept = hands.Free
hand_found (found.Over end) = hands.Over

abbrev pub hand_acted : {C : Type 0} → (asks : Bool) → Acted C → Hand C
hand_acted asks (acted.Went c more) = hands.Out c (asks || more)
hand_acted asks (acted.Rested c) = hands.Due c
hand_acted asks (acted.Busy c) = hands.Due c
hand_acted asks (acted.WaitRoom c) = hands.Due c
hand_acted asks acted.Ended = hands.Free
hand_acted asks (acted.Over end) = hands.Over

most_as : (a : Bool) → most_of a ≡ cond a 0 1024
most_as true = refl
most_as false = refl

mood_as : (a : Bool) → mood_of a ≡ cond a asked free
mood_as true = refl
mood_as false = refl

module _ {S K C : Type 0} (machine : K → Machine S C) (shared_of : K → S → Type 0) (context_of : K → C → Type 0) (first : Whole S K C) where
  pub holds_found : (before after : Pass (Whole S K C)) (answer : Found C) → Finds machine shared_of context_of first before after answer → Holds machine shared_of context_of first (seen_of after) (worker_of after) (hand_found answer)
  holds_found before after answer finds = by answer finds.says finds.works
    where
      by : (answer : Found C) → FoundSays machine first (seen_of after) (worker_of after) answer → FoundWorks machine shared_of context_of first answer → Holds machine shared_of context_of first (seen_of after) (worker_of after) (hand_found answer)
      by (found.Work c) says works = (says, works)
      by found.Nothing says works = tt
      by found.Swept says works = tt
      by (found.Over end) says works = (end, says)

  module _ (flat : (code : K) → IsFlat (machine code) (shared_of code) (context_of code)) (k : K) (code : k ≡ first.code) (before : Pass (Whole S K C)) (c d : C) (a : Bool)
      (holds : Holds machine shared_of context_of first (seen_of before) (worker_of before) (hands.Out c a)) where
    pub may_work : MayWork machine shared_of context_of k c
    may_work = subst (λ (z : K). MayWork machine shared_of context_of z c) (sym code) holds.1

    module _ (moved : d ≡ (machine k).local (most_of a) c) where
      out_as : IsOut machine first (seen_of before) (worker_of before) ((machine k).thread_of c) c (cond a asked free)
      out_as = subst (λ (z : K × Mood). IsOut machine first (seen_of before) (worker_of before) ((machine z.0).thread_of c) c z.1) (λ i. (sym code i, mood_as a i)) holds.0

      moved_as : d ≡ (machine k).local (cond a 0 1024) c
      moved_as = moved ∙ ap (λ (n : ℕ). (machine k).local n c) (most_as a)

      pub may_act : MayCall machine first (seen_of before) (worker_of before) (call.Act d)
      may_act = going.may_act machine shared_of context_of flat first k code before c d a out_as may_work moved_as

      pub holds_acted : (after : Pass (Whole S K C)) (answer : Acted C) → Acts machine shared_of context_of first before after d answer → Holds machine shared_of context_of first (seen_of after) (worker_of after) (hand_acted a answer)
      holds_acted after answer acts = by answer refl
        where
          by : (x : Acted C) → answer ≡ x → Holds machine shared_of context_of first (seen_of after) (worker_of after) (hand_acted a x)
          by (acted.Went e more) is = (
            subst (λ (z : K × Mood). IsOut machine first (seen_of after) (worker_of after) ((machine z.0).thread_of e) e z.1) (λ i. (code i, sym (mood_as (a || more)) i))
                (going.out_next machine shared_of context_of flat first k code before c d a out_as may_work moved_as after answer acts e more (a || more) is refl),
            subst (λ (z : K). MayWork machine shared_of context_of z e) code (going.works_next machine shared_of context_of flat first k code before c d a out_as may_work moved_as after answer acts e more is),
          )
          by (acted.Rested e) is = going.rested_home machine shared_of context_of flat first k code before c d a out_as may_work moved_as after answer acts e is
          by (acted.Busy e) is = going.busy_home machine shared_of context_of flat first k code before c d a out_as may_work moved_as after answer acts e is
          by (acted.WaitRoom e) is = going.room_home machine shared_of context_of flat first k code before c d a out_as may_work moved_as after answer acts e is
          by acted.Ended is = tt
          by (acted.Over end) is = (end, subst (ActedSays machine may_act.1 first (seen_of after) (worker_of after)) is (acts.says may_act.0 may_act.1 may_act.2 may_act.3))

pub or_true : (a b r : Bool) → a ≡ true → r ≡ a → (a || b) ≡ r
or_true true b r is e = sym e
or_true false b r is e = absurd (cc is)

pub or_false : (a b r : Bool) → a ≡ false → r ≡ b → (a || b) ≡ r
or_false true b r is e = absurd (cc is)
or_false false b r is e = sym e
