-- The walks over an order, in the loops' words.
use Rattle.std.proofs.Common.{◌≡◌, ℕ, suc, ◌+◌, ◌<◌, ◌≤◌, Bool, true, List, [], ◌∷◌, map, length, slice_get, Some, IsSome, inl, inr, refl, sym, ap, subst, ◌∙◌, arith}
use Rattle.std.proofs.lemmas.Bool.{cases_lt}
use Rattle.std.proofs.lemmas.Option.{slice_get_within}
use Rattle.ak_words.specs.declared.rule.Rule.{Rule}
use Rattle.ak_trace.specs.declared.entry.Entry.{Entry}
use Rattle.ak_trace.specs.declared.order.Answer as journal
use Rattle.ak_trace.specs.Order as entries
use Rattle.block_store.specs.declared.values.Answer.{Answer}
use Rattle.block_store.specs.Runs.{Pick, State, picked, breaks, reaches}
use Rattle.c_tree.specs.Typed.{Typed}
use Rattle.c_meaning.specs.Control.{Control}
use Rattle.c_meaning.specs.Meaning.{program, run}
use Rattle.c_meaning.specs.Touching.{touched_by, turns_of}
use Rattle.flat_meaning.specs.Order.{pick}
use Rattle.flat_meaning.specs.Journals.{told, journal_picks}
use Rattle.block_meaning.specs.declared.running.Turned.{Turned}
use Rattle.block_meaning.specs.declared.running.Turned.TheVariants as turneds
use Rattle.block_meaning.specs.Running.{Running, HasEnded, answered_if, left_by}
use Rattle.race_rules.specs.declared.touch.Touch.{Touch}
use Rattle.race_rules.specs.Turns as turns
use Rattle.race_rules.specs.Races.{Race, Second}
use Rattle.race_rules.specs.Shown.{Shown}
use Rattle.race_rules.specs.Histories.{StillTouched}
use Rattle.race_rules.proofs.Knowing.{some_one}
use Rattle.race_walk.specs.declared.walk.RaceWalk.{RaceWalk}
use Rattle.race_walk.specs.declared.second.SecondTurn.{SecondTurn}
use Rattle.race_walk.specs.Views.{this_turn}
use Rattle.race_walk.specs.Seconds.{IsTurnOf}
use Rattle.race_walk.specs.Walking.{IsAfter, Finds}
use Rattle.race_check.specs.declared.ending.Side.{Side}
use Rattle.race_check.specs.declared.ending.RaceEnd.TheVariants as ends
use Rattle.race_check.specs.declared.walking.Walked.{Walked}
use Rattle.race_check.specs.declared.walking.Walked.TheVariants as walks
use Rattle.race_check.specs.Ends.{HaveNoRace, IsTold, IsRaceEnd}
use Rattle.race_check.specs.inner.Steps.{Begins, HasRun, IsSecond, IsWalked}
use Rattle.race_check.proofs.Going.{HasCome, is_done, is_waiting, come_first, is_there, next_is, come_more, come_waits, come_rests, come_broke, come_all}
use Rattle.race_check.proofs.Telling.{race_end, broke_end, clean_end, none_race, reaches_breaks}

-- ---- what a journal's turns are as picks

abbrev pub picks : List (ℕ × journal.Answer) → List Pick
picks all = map (λ (turn : ℕ × journal.Answer). pick turn.0 (told turn.1)) all

-- a pick as the code makes it
abbrev pub this_pick : (thread : ℕ) → Answer → Pick
this_pick thread answer = record { thread = thread; answer = answer }

-- ---- what a turn of the run tells

-- what comes of a turn, the state that it leaves, and what it touched
pub record IsTurned (typed : Typed) (s after : State Control) (thread : ℕ) (a : Answer) (t : Turned) (touches : List Touch) : Type 0 where
  pub says : answered_if thread (picked (program typed) s (this_pick thread a)) ≡ Some t
  pub leaves : after ≡ left_by typed s thread (picked (program typed) s (this_pick thread a))
  pub touched : touches ≡ touched_by (picked (program typed) s (this_pick thread a))

-- how far a walk of the run is along an order, whose rest is as a journal tells it
pub record IsAlong (typed now : Typed) (order : List Pick) (k : ℕ) (left : List (ℕ × journal.Answer)) (s : State Control) : Type 0 where
  pub program_stays : now ≡ typed
  pub come : HasCome typed order k (picks left) s

pub along_first : (r : Running) (log : List Entry) (left : List (ℕ × journal.Answer)) (k : ℕ) → Begins r → k ≡ 0 → left ≡ entries.order log → IsAlong r.typed r.typed (journal_picks log) k left r.state
along_first r log left k b z e =
    let typed = r.typed in
    let F : State Control → Type 0 = λ s. HasCome typed (journal_picks log) 0 (journal_picks log) s in
    let G : List (ℕ × journal.Answer) → Type 0 = λ l. HasCome typed (journal_picks log) 0 (picks l) r.state in
    let H : ℕ → Type 0 = λ n. HasCome typed (journal_picks log) n (picks left) r.state in
    record { program_stays = refl; come = subst H (sym z) (subst G (sym e) (subst F (sym b) (come_first typed (journal_picks log)))) }

module _ (typed now : Typed) (order : List Pick) (k : ℕ) (left rest : List (ℕ × journal.Answer)) (s : State Control) (thread : ℕ) (answer : journal.Answer) (a : Answer)
    (h : IsAlong typed now order k left s) (next : left ≡ (thread, answer) ∷ rest) (is : a ≡ told answer) where
  here : HasCome typed order k (this_pick thread a ∷ picks rest) s
  here =
      let F : List (ℕ × journal.Answer) → Type 0 = λ l. HasCome typed order k (picks l) s in
      let G : Answer → Type 0 = λ b. HasCome typed order k (this_pick thread b ∷ picks rest) s in
      subst G (sym is) (subst F next h.come)

  pub may_turn : HasRun typed order → IsSome (picked (program now) s (this_pick thread a))
  may_turn has =
      let F : Typed → Type 0 = λ q. IsSome (picked (program q) s (this_pick thread a)) in
      subst F (sym h.program_stays) (is_there typed order k (this_pick thread a) (picks rest) s has here)

  module _ (after : State Control) (t : Turned) (touches : List Touch) (turned : IsTurned now s after thread a t touches) where
    so : IsTurned typed s after thread a t touches
    so = let F : Typed → Type 0 = λ q. IsTurned q s after thread a t touches in subst F h.program_stays turned

    pub turn_is : is_done t ≡ true → slice_get (turns_of typed order) k ≡ Some (this_turn thread touches)
    turn_is done =
        let F : List Touch → Type 0 = λ l. slice_get (turns_of typed order) k ≡ Some (this_turn thread l) in
        subst F (sym so.touched) (next_is typed order k (this_pick thread a) (picks rest) s after t here so.says done so.leaves)

    pub along_more : (later : Typed) (n : ℕ) → later ≡ now → n ≡ k + 1 → is_done t ≡ true → IsAlong typed later order n rest after
    along_more later n same count done =
        let F : ℕ → Type 0 = λ m. HasCome typed order m (picks rest) after in
        let e : suc k ≡ n = omega (arith, count) in
        record { program_stays = same ∙ h.program_stays; come = subst F e (come_more typed order k (this_pick thread a) (picks rest) s after t here so.says done so.leaves) }

    pub waits_never : HasRun typed order → is_waiting t ≡ true → ⊥
    waits_never has waiting = come_waits typed order k (this_pick thread a) (picks rest) s t has here so.says waiting

    pub breaks_here : (rule : Rule) (place : ℕ) → t ≡ turneds.Broke rule place → (length (turns_of typed order) ≤ k) × (run typed order ≡ breaks rule k)
    breaks_here rule place e = come_broke typed order k (this_pick thread a) (picks rest) s rule place here (so.says ∙ ap Some e)

-- no later turn touches a block that has ended
pub along_rests : (typed now : Typed) (order : List Pick) (k : ℕ) (left : List (ℕ × journal.Answer)) (s : State Control) → IsAlong typed now order k left s →
    (block : ℕ) → HasEnded s.world.blocks block → StillTouched (turns_of typed order) k block → ⊥
along_rests typed now order k left s h block ended still = come_rests typed order k (picks left) s block h.come ended still

-- the order has no turn more
pub along_all : (typed now : Typed) (order : List Pick) (k : ℕ) (left : List (ℕ × journal.Answer)) (s : State Control) → IsAlong typed now order k left s → left ≡ [] → (length (turns_of typed order) ≤ k) × (run typed order ≡ reaches s)
along_all typed now order k left s h e =
    let F : List (ℕ × journal.Answer) → Type 0 = λ l. HasCome typed order k (picks l) s in
    come_all typed order k s (subst F e h.come)

-- ---- where the first walk ends

pub ends_clean : (typed : Typed) (order : List Pick) (w : RaceWalk) (s : State Control) → IsAfter (turns_of typed order) w → (length (turns_of typed order) ≤ w.turns) × (run typed order ≡ reaches s) →
    HaveNoRace (turns_of typed order) × ((rule : Rule) (turns : ℕ) → run typed order ≡ breaks rule turns → ⊥)
ends_clean typed order w s a all = (none_race (turns_of typed order) w.turns a.clean all.0, reaches_breaks (run typed order) s all.1)

pub ends_broke : (typed : Typed) (order : List Pick) (w : RaceWalk) (rule : Rule) → IsAfter (turns_of typed order) w → (length (turns_of typed order) ≤ w.turns) × (run typed order ≡ breaks rule w.turns) →
    HaveNoRace (turns_of typed order) × (run typed order ≡ breaks rule w.turns)
ends_broke typed order w rule a all = (none_race (turns_of typed order) w.turns a.clean all.0, all.1)

-- the walk came to the second turn of a race
pub ends_raced : (ts : List turns.Turn) (before after : RaceWalk) (s : SecondTurn) (thread : ℕ) (touches : List Touch) (raced : Bool) → slice_get ts before.turns ≡ Some (this_turn thread touches) → Finds ts raced before after → raced ≡ true → s.turn ≡ after.turns →
    ((us : List turns.Turn) → IsAfter us after → slice_get us after.turns ≡ Some (this_turn thread touches) → IsTurnOf us s) → IsSecond ts s
ends_raced ts before after s thread touches raced at f hit number of =
    let a = f.stays hit in
    let still : before.turns ≡ after.turns = sym (f.still hit) in
    let F : ℕ → Type 0 = λ n. slice_get ts n ≡ Some (this_turn thread touches) in
    let G : ℕ → Type 0 = λ n. Second ts n in
    let H : ℕ → Type 0 = λ n. (k : ℕ) → k < n → Second ts k → ⊥ in
    record {
      of = of ts a (subst F still at);
      is = subst G (still ∙ sym number) (f.exactly.0 hit);
      no_sooner = subst H (sym number) a.clean;
    }

-- ---- the second walk

-- none of the turns so far races with the second one
abbrev pub NoneSoFar : List turns.Turn → (turn second : ℕ) → Type 0
NoneSoFar ts turn second = (k : ℕ) → k < turn → Race ts k second → ⊥

pub none_more : (ts : List turns.Turn) (turn second : ℕ) → NoneSoFar ts turn second → (Race ts turn second → ⊥) → NoneSoFar ts (turn + 1) second
none_more ts turn second none never k below r =
    elim (cases_lt k turn) [
      | inl less ↦ none k less r
      | inr le ↦ (let this : k ≡ turn = omega (arith, le, below) in let F : ℕ → Type 0 = λ n. Race ts n second in never (subst F this r))
    ]

-- the turn that races with it
pub tells : (ts : List turns.Turn) (s : SecondTurn) (turn thread : ℕ) (touches : List Touch) (one other : Touch) → IsSecond ts s → slice_get ts turn ≡ Some (this_turn thread touches) → NoneSoFar ts turn s.turn → Shown ts turn s.turn one other →
    IsTold ts (record { thread = thread; place = one.place; turn = turn }) (record { thread = s.thread; place = other.place; turn = s.turn })
tells ts s turn thread touches one other second at none shown =
    let F : turns.Turn → ℕ = λ x. x.thread in
    record {
      least = record { race = shown.race; no_sooner = second.no_sooner; none_below = none };
      one = one;
      other = other;
      shown = shown;
      first_side = record { thread = ap F (some_one at shown.race.first_is); place = refl };
      second_side = record { thread = ap F (some_one second.of.at shown.race.second_is); place = refl };
    }

-- some turn before the second one races with it
pub second_past : (ts : List turns.Turn) (s : SecondTurn) (turn : ℕ) → IsSecond ts s → NoneSoFar ts turn s.turn → s.turn ≤ turn → ⊥
second_past ts s turn second none past = let early = second.is.race.earlier in none second.is.turn (omega (arith, early, past)) second.is.race

-- and the second one is there
pub second_gone : (ts : List turns.Turn) (s : SecondTurn) (turn : ℕ) → IsSecond ts s → NoneSoFar ts turn s.turn → length ts ≤ turn → ⊥
second_gone ts s turn second none past = let there = slice_get_within ts s.turn (this_turn s.thread s.touches.items) second.of.at in second_past ts s turn second none (omega (arith, there, past))

-- ---- what is told by where the first walk ends

module _ (typed now : Typed) (order : List Pick) (w : Walked) (same : now ≡ typed) (walked : IsWalked now order w) where
  is_walked : (v : Walked) → w ≡ v → IsWalked typed order v
  is_walked v e =
      let F : Typed → Type 0 = λ q. IsWalked q order w in
      let G : Walked → Type 0 = λ u. IsWalked typed order u in
      subst G e (subst F same walked)

  pub told_clean : w ≡ walks.Clean → IsRaceEnd typed order ends.Clean
  told_clean e = let h = is_walked walks.Clean e in clean_end (turns_of typed order) (run typed order) h.0 h.1

  pub told_broke : (rule : Rule) (k : ℕ) → w ≡ walks.Broke rule k → IsRaceEnd typed order (ends.Broke rule k)
  told_broke rule k e = let h = is_walked (walks.Broke rule k) e in broke_end (turns_of typed order) (run typed order) rule k h.0 h.1

pub told_race : (typed now : Typed) (order : List Pick) (first second : Side) → now ≡ typed → IsTold (turns_of now order) first second → IsRaceEnd typed order (ends.Race first second)
told_race typed now order first second same told = let F : Typed → Type 0 = λ q. IsTold (turns_of q order) first second in race_end (turns_of typed order) (run typed order) first second (subst F same told)
