-- When two programs, of threads of any two kinds, do the same turn by turn: their threads' own things are related, and stay so.
use Rattle.std.specs.Prelude.{◌≡◌, ℕ, suc, List, [], ◌∷◌, Option, Some, None}
use Rattle.ak_words.specs.declared.rule.Rule.{Rule}
use Rattle.block_store.specs.declared.values.Answer.{Answer}
use Rattle.block_store.specs.declared.values.Ptr.{Ptr}
use Rattle.block_store.specs.Actions.{World}
use Rattle.block_store.specs.Runs.{Turn, went, ended, blocked, unfit, broke, Program, Run, reaches, breaks, no_run, Shown, it_begins, it_went, it_ended, it_blocked, it_was_unfit, it_broke, no_such_turn}

-- two turns come out alike: the same way, in the same world or at the same place, and what the threads then have is related
pub data TurnsAlike {A B : Type 0} (R : A → B → Type 0) : Turn A → Turn B → Type 0 where
  both_went : (a : A) (b : B) (w : World) → R a b → TurnsAlike R (went a w) (went b w)
  both_ended : (w : World) → TurnsAlike R (ended w) (ended w)
  both_blocked : TurnsAlike R blocked blocked
  both_unfit : TurnsAlike R unfit unfit
  both_broke : (rule : Rule) (place : ℕ) → TurnsAlike R (broke rule place) (broke rule place)

-- a relation of threads of which as many calls wait that every turn, of every thread, under every answer and in every world, keeps
pub record KeepsTurns {A B : Type 0} (R : A → B → Type 0) (P : Program A) (Q : Program B) : Type 0 where
  pub begins : (function : ℕ) (argument : Ptr) → R (P.begins function argument) (Q.begins function argument)
  pub calls : (a : A) (b : B) → R a b → P.calls a ≡ Q.calls b
  pub turn : (thread : ℕ) (answer : Answer) (a : A) (b : B) (w : World) → R a b → TurnsAlike R (P.turn thread answer a w) (Q.turn thread answer b w)

-- where a run comes to, without what its threads have of their own
pub data Reached : Type 0 where
  in_world : (w : World) → Reached
  at_break : (rule : Rule) (k : ℕ) → Reached
  at_no_run : (k : ℕ) → Reached

-- where this run comes to: a world, a rule that is broken after k turns, or no run after k turns
abbrev pub reached_by : {A : Type 0} → Run A → Reached
reached_by (reaches s) = in_world s.world
reached_by (breaks rule k) = at_break rule k
reached_by (no_run k) = at_no_run k

-- the same, told by what an order shows, from a world and k turns on: the last world, or the first turn that is none, or that breaks a rule
abbrev pub reached_in : (w : World) → (k : ℕ) → List Shown → Reached
reached_in w k [] = in_world w
reached_in w k (it_begins first ∷ rest) = reached_in first k rest
reached_in w k (it_went calls next ∷ rest) = reached_in next (suc k) rest
reached_in w k (it_ended next ∷ rest) = reached_in next (suc k) rest
reached_in w k (it_blocked ∷ rest) = at_no_run k
reached_in w k (it_was_unfit ∷ rest) = at_no_run k
reached_in w k (it_broke rule place ∷ rest) = at_break rule k
reached_in w k (no_such_turn ∷ rest) = at_no_run k

-- what two threads have of their own, if they run: both run, and as many calls of theirs wait; or neither runs
abbrev pub AsDeep : {A B : Type 0} → Program A → Program B → Option A → Option B → Type 0
AsDeep P Q None None = Unit {0}
AsDeep P Q (Some a) (Some b) = P.calls a ≡ Q.calls b
AsDeep P Q a b = ⊥
