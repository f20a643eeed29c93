-- Turns of several threads over one world, and the runs that they make up, of threads of any kind: those of the source, and those of
-- structured code.
use Rattle.std.specs.Prelude.{◌≡◌, ℕ, suc, List, [], ◌∷◌, ◌++◌, map, drop, set, slice_get, length, Option, Some, None}
use Rattle.std.specs.Option.{option_flatten}
use Rattle.ak_words.specs.declared.rule.Rule.{Rule}
use Rattle.block_store.specs.declared.values.Answer.{Answer}
use Rattle.block_store.specs.declared.values.Ptr.{Ptr}
use Rattle.block_store.specs.Actions.{ThreadRecord, World}

-- what comes of a turn of a thread: it goes on, with other things of its own; its first function has returned; or nothing happens,
-- since its next action waits, since that doesn't take the answer, or since it breaks a rule, at a place
pub data Turn (A : Type 0) : Type 0 where
  went : (own : A) (w : World) → Turn A
  ended : (w : World) → Turn A
  blocked : Turn A
  unfit : Turn A
  broke : (rule : Rule) (place : ℕ) → Turn A

-- a program: what a thread of it has of its own when it begins with a function and its argument; one turn of a thread, which has a
-- number, is told an answer, and shares a world; and how many calls of a thread wait for the one under way
pub record Program (A : Type 0) : Type 0 where
  pub main : ℕ
  pub begins : (function : ℕ) → (argument : Ptr) → A
  pub turn : (thread : ℕ) → Answer → A → World → Turn A
  pub calls : A → ℕ

-- no call waits where a thread begins
abbrev pub BeginsOutsideCalls : {A : Type 0} → Program A → Type 0
BeginsOutsideCalls P = (function : ℕ) (argument : Ptr) → P.calls (P.begins function argument) ≡ 0

-- the world, and what each thread that was made has of its own, by number: none once it has ended
pub record State (A : Type 0) : Type 0 where
  pub world : World
  pub own : List (Option A)

-- a pair of an order: a thread, and the answer that its turn is told
pub record Pick : Type 0 where
  pub thread : ℕ
  pub answer : Answer

-- the threads from the n-th on, as they begin
abbrev pub begun : {A : Type 0} → Program A → (n : ℕ) → World → List (Option A)
begun P n w = map (λ (t : ThreadRecord). Some (P.begins t.function t.argument)) (drop n w.threads)

-- the state in which a run begins
abbrev pub first_state : {A : Type 0} → Program A → World → State A
first_state P w = record { world = w; own = begun P 0 w }

-- the state after a turn of a thread, which may have made another thread
abbrev pub next_state : {A : Type 0} → Program A → State A → (thread : ℕ) → Option A → World → State A
next_state P s thread own w = record { world = w; own = set s.own thread own ++ begun P (length s.own) w }

-- what a thread has of its own: none where it wasn't made or has ended
abbrev pub own_at : {A : Type 0} → List (Option A) → ℕ → Option A
own_at own thread = option_flatten (slice_get own thread)

-- what comes of a pick: none where that thread wasn't made or has ended, or where main has ended
abbrev pub turn_if : {A : Type 0} → Program A → State A → Pick → (main own : Option A) → Option (Turn A)
turn_if P s p None own = None
turn_if P s p (Some main) None = None
turn_if P s p (Some main) (Some own) = Some (P.turn p.thread p.answer own s.world)

-- what comes of a pick in this state: a turn of its thread, or none where that thread or main doesn't run
abbrev pub picked : {A : Type 0} → Program A → State A → Pick → Option (Turn A)
picked P s p = turn_if P s p (own_at s.own 0) (own_at s.own p.thread)

-- ---- runs

-- where a run of an order comes to: a state; or after k turns, one that breaks a rule; or after k turns, one that is none
pub data Run (A : Type 0) : Type 0 where
  reaches : (s : State A) → Run A
  breaks : (rule : Rule) (k : ℕ) → Run A
  no_run : (k : ℕ) → Run A

-- how a run goes on behind a pick before which k turns were done: from the next state, where the turn went or ended its thread; a
-- broken rule ends the run; and where there is no turn, or it waits or doesn't take its answer, the order has no run
abbrev pub goes_on : {A : Type 0} → Program A → (State A → Run A) → State A → (thread k : ℕ) → Option (Turn A) → Run A
goes_on P go s thread k None = no_run k
goes_on P go s thread k (Some (went own w)) = go (next_state P s thread (Some own) w)
goes_on P go s thread k (Some (ended w)) = go (next_state P s thread None w)
goes_on P go s thread k (Some blocked) = no_run k
goes_on P go s thread k (Some unfit) = no_run k
goes_on P go s thread k (Some (broke rule place)) = breaks rule k

-- the run of an order from a state on, before which k turns were done
abbrev pub run_from : {A : Type 0} → Program A → List Pick → (k : ℕ) → State A → Run A
run_from P [] k s = reaches s
run_from P (p ∷ order) k s = goes_on P (run_from P order (suc k)) s p.thread k (picked P s p)

-- the run of an order in a world
abbrev pub run : {A : Type 0} → Program A → World → List Pick → Run A
run P w order = run_from P order 0 (first_state P w)

-- ---- what an order shows, turn by turn

-- what an order shows: the world in which the run begins; and then of each pick how many calls of its thread wait, and the world, after a
-- turn that went; the world after one that ended its thread; that the turn waits, or doesn't take the answer; the rule that it breaks, and
-- where; or that there is no such turn
pub data Shown : Type 0 where
  it_begins : (w : World) → Shown
  it_went : (calls : ℕ) (w : World) → Shown
  it_ended : (w : World) → Shown
  it_blocked : Shown
  it_was_unfit : Shown
  it_broke : (rule : Rule) (place : ℕ) → Shown
  no_such_turn : Shown

-- a turn that changed nothing is passed over, but for one that broke a rule, which is the last
abbrev pub shown_then : {A : Type 0} → Program A → (State A → List Shown) → State A → (thread : ℕ) → Option (Turn A) → List Shown
shown_then P go s thread None = no_such_turn ∷ go s
shown_then P go s thread (Some (went own w)) = it_went (P.calls own) w ∷ go (next_state P s thread (Some own) w)
shown_then P go s thread (Some (ended w)) = it_ended w ∷ go (next_state P s thread None w)
shown_then P go s thread (Some blocked) = it_blocked ∷ go s
shown_then P go s thread (Some unfit) = it_was_unfit ∷ go s
shown_then P go s thread (Some (broke rule place)) = it_broke rule place ∷ []

-- what an order shows from a state on
abbrev pub shown_from : {A : Type 0} → Program A → List Pick → State A → List Shown
shown_from P [] s = []
shown_from P (p ∷ order) s = shown_then P (shown_from P order) s p.thread (picked P s p)

-- what an order shows where the run begins in this world: first that
abbrev pub shown : {A : Type 0} → Program A → World → List Pick → List Shown
shown P w order = it_begins w ∷ shown_from P order (first_state P w)
