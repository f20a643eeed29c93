-- How the run of an order goes on, turn by turn, and its turns with it.
use Rattle.std.proofs.Common.{◌≡◌, ℕ, zero, suc, ◌-◌, ◌≤◌, ◌==◌, ◌⊎◌, inl, inr, Bool, true, false, List, [], ◌∷◌, length, drop, slice_get, Option, Some, None, IsSome, ℤ, refl, sym, ap, subst, ◌∙◌, arith, length-drop}
use Rattle.ak_words.specs.declared.rule.Rule.{Rule}
use Rattle.block_store.specs.Runs.{Program, State, Pick, Turn, went, ended, blocked, unfit, broke, Run, reaches, breaks, no_run, first_state, goes_on, picked, run_from}
use Rattle.c_tree.specs.Typed.{Typed}
use Rattle.c_meaning.specs.Control.{Control}
use Rattle.c_meaning.specs.Meaning.{program, start, run}
use Rattle.c_meaning.specs.Touching.{touched_by, turns_then, turns_from, turns_of}
use Rattle.block_meaning.specs.declared.running.Turned.{Turned}
use Rattle.block_meaning.specs.declared.running.Turned.TheVariants as turneds
use Rattle.block_meaning.specs.Running.{HasEnded, answered_if, ended_by, ended_with, left_by}
use Rattle.race_rules.specs.Turns as turns
use Rattle.race_rules.specs.Histories.{StillTouched}
use Rattle.race_walk.specs.Views.{this_turn}
use Rattle.race_check.specs.inner.Steps.{HasRun}
use Rattle.race_check.proofs.Resting.{ended_rests}

-- ---- what is left of a list

at_nil : {X : Type 0} (k : ℕ) (x : X) (rest : List X) → drop k [] ≡ x ∷ rest → ⊥
at_nil zero x rest e = absurd (cc e)
at_nil (suc k) x rest e = absurd (cc e)

pub at_drop : {X : Type 0} (xs : List X) (k : ℕ) (x : X) (rest : List X) → drop k xs ≡ x ∷ rest → slice_get xs k ≡ Some x
at_drop [] k x rest e = absurd (at_nil k x rest e)
at_drop (y ∷ xs) zero x rest e = cc e
at_drop (y ∷ xs) (suc k) x rest e = at_drop xs k x rest e

pub after_drop : {X : Type 0} (xs : List X) (k : ℕ) (x : X) (rest : List X) → drop k xs ≡ x ∷ rest → drop (suc k) xs ≡ rest
after_drop [] k x rest e = absurd (at_nil k x rest e)
after_drop (y ∷ xs) zero x rest e = cc e
after_drop (y ∷ xs) (suc k) x rest e = after_drop xs k x rest e

-- the element at the same place from there on
pub from_drop : {X : Type 0} (xs : List X) (k i : ℕ) → k ≤ i → slice_get (drop k xs) (i - k) ≡ slice_get xs i
from_drop xs zero i h = let e : i - 0 ≡ i = omega arith in ap (λ j. slice_get xs j) e
from_drop [] (suc k) i h = refl
from_drop (x ∷ xs) (suc k) zero h = absurd (omega (arith, h))
from_drop (x ∷ xs) (suc k) (suc i) h = let e : suc i - suc k ≡ i - k = omega arith in ap (λ j. slice_get (drop k xs) j) e ∙ from_drop xs k i (omega (arith, h))

pub none_left : {X : Type 0} (xs : List X) (k : ℕ) → drop k xs ≡ [] → length xs ≤ k
none_left xs k e = let f = length-drop k xs in let F : List _ → ℕ = λ l. length l in let g = ap F e in omega (arith, f, g)

-- ---- one turn

-- a turn that is done
abbrev pub is_done : Turned → Bool
is_done turneds.Went = true
is_done (turneds.Ended exit) = true
is_done turneds.Blocked = false
is_done turneds.Unfit = false
is_done (turneds.Broke rule place) = false

pub went_is_done : (t : Turned) → (t ≡ turneds.Went) ⊎ ((exit : ℤ) × (t ≡ turneds.Ended exit)) → is_done t ≡ true
went_is_done t (inl e) = ap is_done e
went_is_done t (inr e) = ap is_done e.1

not_done : (t u : Turned) → Some t ≡ Some u → is_done t ≡ false → is_done u ≡ true → ⊥
not_done t u e f g = let same : t ≡ u = cc e in absurd (cc (sym f ∙ ap is_done same ∙ g))

-- where there is no turn there is no run
there : {A : Type 0} (P : Program A) (go : State A → Run A) (s : State A) (thread k : ℕ) (o : Option (Turn A)) (r : Run A) → goes_on P go s thread k o ≡ r → ((n : ℕ) → r ≡ no_run n → ⊥) → IsSome o
there P go s thread k None r e never = absurd (never k (sym e))
there P go s thread k (Some t) r e never = refl

-- a turn that waits, or doesn't take its answer
abbrev pub is_waiting : Turned → Bool
is_waiting turneds.Went = false
is_waiting (turneds.Ended exit) = false
is_waiting turneds.Blocked = true
is_waiting turneds.Unfit = true
is_waiting (turneds.Broke rule place) = false

pub waiting_is : (t : Turned) → (t ≡ turneds.Blocked) ⊎ (t ≡ turneds.Unfit) → is_waiting t ≡ true
waiting_is t (inl e) = ap is_waiting e
waiting_is t (inr e) = ap is_waiting e

not_waiting : (t u : Turned) → Some t ≡ Some u → is_waiting t ≡ false → is_waiting u ≡ true → ⊥
not_waiting t u e f g = let same : t ≡ u = cc e in absurd (cc (sym f ∙ ap is_waiting same ∙ g))

ended_is_done : (is_main : Bool) (value : Option ℤ) (t : Turned) → ended_by is_main value ≡ Some t → is_waiting t ≡ true → ⊥
ended_is_done true None t e g = absurd (cc e)
ended_is_done true (Some z) t e g = not_waiting (turneds.Ended z) t e refl g
ended_is_done false value t e g = not_waiting turneds.Went t e refl g

-- behind it there is no run
run_waits : (typed : Typed) (go : State Control → Run Control) (s : State Control) (thread k : ℕ) (o : Option (Turn Control)) (t : Turned) → answered_if thread o ≡ Some t → is_waiting t ≡ true → goes_on (program typed) go s thread k o ≡ no_run k
run_waits typed go s thread k None t e g = absurd (cc e)
run_waits typed go s thread k (Some (went own w)) t e g = absurd (not_waiting turneds.Went t e refl g)
run_waits typed go s thread k (Some (ended w)) t e g = absurd (ended_is_done (thread == 0) (ended_with w 0) t e g)
run_waits typed go s thread k (Some blocked) t e g = refl
run_waits typed go s thread k (Some unfit) t e g = refl
run_waits typed go s thread k (Some (broke rule place)) t e g = absurd (not_waiting (turneds.Broke rule place) t e refl g)

-- the run and the turns go on from what a turn leaves that is done
run_on : (typed : Typed) (go : State Control → Run Control) (s after : State Control) (thread k : ℕ) (o : Option (Turn Control)) (t : Turned) → answered_if thread o ≡ Some t → is_done t ≡ true → after ≡ left_by typed s thread o →
    goes_on (program typed) go s thread k o ≡ go after
run_on typed go s after thread k None t e done left = absurd (cc e)
run_on typed go s after thread k (Some (went own w)) t e done left = ap go (sym left)
run_on typed go s after thread k (Some (ended w)) t e done left = ap go (sym left)
run_on typed go s after thread k (Some blocked) t e done left = absurd (not_done turneds.Blocked t e refl done)
run_on typed go s after thread k (Some unfit) t e done left = absurd (not_done turneds.Unfit t e refl done)
run_on typed go s after thread k (Some (broke rule place)) t e done left = absurd (not_done (turneds.Broke rule place) t e refl done)

turns_on : (typed : Typed) (go : State Control → List turns.Turn) (s after : State Control) (thread : ℕ) (o : Option (Turn Control)) (t : Turned) → answered_if thread o ≡ Some t → is_done t ≡ true → after ≡ left_by typed s thread o →
    turns_then typed go s thread o ≡ this_turn thread (touched_by o) ∷ go after
turns_on typed go s after thread None t e done left = absurd (cc e)
turns_on typed go s after thread (Some (went own w)) t e done left = ap (λ u. this_turn thread own.touched ∷ go u) (sym left)
turns_on typed go s after thread (Some (ended w)) t e done left = ap (λ u. this_turn thread [] ∷ go u) (sym left)
turns_on typed go s after thread (Some blocked) t e done left = absurd (not_done turneds.Blocked t e refl done)
turns_on typed go s after thread (Some unfit) t e done left = absurd (not_done turneds.Unfit t e refl done)
turns_on typed go s after thread (Some (broke rule place)) t e done left = absurd (not_done (turneds.Broke rule place) t e refl done)

-- a turn that breaks a rule ends both
not_broke : (is_main : Bool) (value : Option ℤ) (rule : Rule) (place : ℕ) → ended_by is_main value ≡ Some (turneds.Broke rule place) → ⊥
not_broke true None rule place e = absurd (cc e)
not_broke true (Some z) rule place e = absurd (cc e)
not_broke false value rule place e = absurd (cc e)

run_broke : (typed : Typed) (go : State Control → Run Control) (s : State Control) (thread k : ℕ) (o : Option (Turn Control)) (rule : Rule) (place : ℕ) → answered_if thread o ≡ Some (turneds.Broke rule place) → goes_on (program typed) go s thread k o ≡ breaks rule k
run_broke typed go s thread k None rule place e = absurd (cc e)
run_broke typed go s thread k (Some (went own w)) rule place e = absurd (cc e)
run_broke typed go s thread k (Some (ended w)) rule place e = absurd (not_broke (thread == 0) (ended_with w 0) rule place e)
run_broke typed go s thread k (Some blocked) rule place e = absurd (cc e)
run_broke typed go s thread k (Some unfit) rule place e = absurd (cc e)
run_broke typed go s thread k (Some (broke rule' place')) rule place e =
    let same : turneds.Broke rule' place' ≡ turneds.Broke rule place = cc e in
    let rules : rule' ≡ rule = cc same in ap (λ r. breaks r k) rules

turns_broke : (typed : Typed) (go : State Control → List turns.Turn) (s : State Control) (thread : ℕ) (o : Option (Turn Control)) (rule : Rule) (place : ℕ) → answered_if thread o ≡ Some (turneds.Broke rule place) → turns_then typed go s thread o ≡ []
turns_broke typed go s thread None rule place e = refl
turns_broke typed go s thread (Some (went own w)) rule place e = absurd (cc e)
turns_broke typed go s thread (Some (ended w)) rule place e = absurd (not_broke (thread == 0) (ended_with w 0) rule place e)
turns_broke typed go s thread (Some blocked) rule place e = refl
turns_broke typed go s thread (Some unfit) rule place e = refl
turns_broke typed go s thread (Some (broke rule' place')) rule place e = refl

-- ---- the whole order

-- in a state, before which k turns were done, this is left of the order: the rest of the whole run goes on from it, and so do the turns
pub record HasCome (typed : Typed) (order : List Pick) (k : ℕ) (left : List Pick) (s : State Control) : Type 0 where
  pub comes : run_from (program typed) left k s ≡ run typed order
  pub turns : drop k (turns_of typed order) ≡ turns_from typed left s

pub come_first : (typed : Typed) (order : List Pick) → HasCome typed order 0 order (first_state (program typed) (start typed))
come_first typed order = record { comes = refl; turns = refl }

-- there is a turn of the next pick
pub is_there : (typed : Typed) (order : List Pick) (k : ℕ) (p : Pick) (left : List Pick) (s : State Control) → HasRun typed order → HasCome typed order k (p ∷ left) s → IsSome (picked (program typed) s p)
is_there typed order k p left s has h = there (program typed) (run_from (program typed) left (suc k)) s p.thread k (picked (program typed) s p) (run typed order) h.comes has

-- it is the next of the turns
pub next_is : (typed : Typed) (order : List Pick) (k : ℕ) (p : Pick) (left : List Pick) (s after : State Control) (t : Turned) → HasCome typed order k (p ∷ left) s → answered_if p.thread (picked (program typed) s p) ≡ Some t → is_done t ≡ true →
    after ≡ left_by typed s p.thread (picked (program typed) s p) → slice_get (turns_of typed order) k ≡ Some (this_turn p.thread (touched_by (picked (program typed) s p)))
next_is typed order k p left s after t h e done leaves =
    at_drop (turns_of typed order) k (this_turn p.thread (touched_by (picked (program typed) s p))) (turns_from typed left after)
    (h.turns ∙ turns_on typed (turns_from typed left) s after p.thread (picked (program typed) s p) t e done leaves)

-- and behind it the rest goes on
pub come_more : (typed : Typed) (order : List Pick) (k : ℕ) (p : Pick) (left : List Pick) (s after : State Control) (t : Turned) → HasCome typed order k (p ∷ left) s → answered_if p.thread (picked (program typed) s p) ≡ Some t → is_done t ≡ true →
    after ≡ left_by typed s p.thread (picked (program typed) s p) → HasCome typed order (suc k) left after
come_more typed order k p left s after t h e done leaves = record {
  comes = sym (run_on typed (run_from (program typed) left (suc k)) s after p.thread k (picked (program typed) s p) t e done leaves) ∙ h.comes;
  turns =
      after_drop (turns_of typed order) k (this_turn p.thread (touched_by (picked (program typed) s p))) (turns_from typed left after)
      (h.turns ∙ turns_on typed (turns_from typed left) s after p.thread (picked (program typed) s p) t e done leaves);
}

-- where the order has a run it isn't one that waits
pub come_waits : (typed : Typed) (order : List Pick) (k : ℕ) (p : Pick) (left : List Pick) (s : State Control) (t : Turned) → HasRun typed order → HasCome typed order k (p ∷ left) s → answered_if p.thread (picked (program typed) s p) ≡ Some t → is_waiting t ≡ true → ⊥
come_waits typed order k p left s t has h e g = has k (sym h.comes ∙ run_waits typed (run_from (program typed) left (suc k)) s p.thread k (picked (program typed) s p) t e g)

-- no later turn touches a block that has ended
pub come_rests : (typed : Typed) (order : List Pick) (k : ℕ) (left : List Pick) (s : State Control) (block : ℕ) → HasCome typed order k left s → HasEnded s.world.blocks block → StillTouched (turns_of typed order) k block → ⊥
come_rests typed order k left s block h gone still =
    let F : List turns.Turn → Type 0 = λ ts. slice_get ts (still.turn - k) ≡ Some still.it in
    ended_rests typed block left s gone
    (record { turn = still.turn - k; it = still.it; is = subst F h.turns (from_drop (turns_of typed order) k still.turn still.late ∙ still.is); late = omega arith; touch = still.touch })

-- where it breaks a rule the run does, and there are no more turns
pub come_broke : (typed : Typed) (order : List Pick) (k : ℕ) (p : Pick) (left : List Pick) (s : State Control) (rule : Rule) (place : ℕ) → HasCome typed order k (p ∷ left) s → answered_if p.thread (picked (program typed) s p) ≡ Some (turneds.Broke rule place) →
    (length (turns_of typed order) ≤ k) × (run typed order ≡ breaks rule k)
come_broke typed order k p left s rule place h e = (
  none_left (turns_of typed order) k (h.turns ∙ turns_broke typed (turns_from typed left) s p.thread (picked (program typed) s p) rule place e),
  sym h.comes ∙ run_broke typed (run_from (program typed) left (suc k)) s p.thread k (picked (program typed) s p) rule place e,
)

-- where nothing is left the run has come to this state, and there are no more turns
pub come_all : (typed : Typed) (order : List Pick) (k : ℕ) (s : State Control) → HasCome typed order k [] s → (length (turns_of typed order) ≤ k) × (run typed order ≡ reaches s)
come_all typed order k s h = (none_left (turns_of typed order) k h.turns, sym h.comes)
