-- Threads in two codes at positions that correspond: their events are the same.
use Rattle.std.specs.Prelude.{◌≡◌, ℕ, List, [], ◌∷◌}
use Rattle.struct_ir.specs.Flow.{Flow, IsCall}
use Rattle.struct_ir.specs.Machine.{Machine, Point}
use Rattle.struct_ir.specs.Mirrors.{Both}
use Rattle.struct_ir.specs.Threads.{Environment, Thread, Outcome, went, ended, blocked, broke, unfit, local_event, stop_event, turn}

module _ {P Q L : Type 0} (C : Flow P) (D : Flow Q) (R : P → Q → Type 0) where
  -- at positions that correspond, with the same of its own
  pub record LevelPoints (p : Point P L) (q : Point Q L) : Type 0 where
    pub at : R p.at q.at
    pub own : q.own ≡ p.own

  -- before the same, too
  pub record SamePoints (p : Point P L) (q : Point Q L) : Type 0 where
    pub at : R p.at q.at
    pub same : Both C D R p.at q.at
    pub own : q.own ≡ p.own

  -- before the same call
  pub record SameCalls (p : Point P L) (q : Point Q L) : Type 0 where
    pub same : Both C D R p.at q.at
    pub calls : IsCall (C.here p.at)
    pub own : q.own ≡ p.own

  -- the calls that wait, one by one
  abbrev pub SameCallers : List (Point P L) → List (Point Q L) → Type 0
  SameCallers [] [] = Unit {0}
  SameCallers [] (q ∷ qs) = ⊥
  SameCallers (p ∷ ps) [] = ⊥
  SameCallers (p ∷ ps) (q ∷ qs) = SameCalls p q × SameCallers ps qs

  -- a thread in both codes
  pub record LevelThreads (t : Thread P L) (u : Thread Q L) : Type 0 where
    pub top : LevelPoints t.top u.top
    pub callers : SameCallers t.callers u.callers

  -- a thread in both codes that stands before the same
  pub record SameThreads (t : Thread P L) (u : Thread Q L) : Type 0 where
    pub top : SamePoints t.top u.top
    pub callers : SameCallers t.callers u.callers

-- the same came of both
abbrev pub SameOutcomes : {P Q L F S : Type 0} → (Thread P L → Thread Q L → Type 0) → Outcome P L F S → Outcome Q L F S → Type 0
SameOutcomes T (went t s) (went u r) = T t u × (r ≡ s)
SameOutcomes T (ended l s) (ended m r) = (m ≡ l) × (r ≡ s)
SameOutcomes T blocked blocked = Unit {0}
SameOutcomes T (broke e) (broke g) = g ≡ e
SameOutcomes T unfit unfit = Unit {0}
SameOutcomes T _ o = ⊥

-- a thread does the same in both codes: alone, up to the same stop; there; and in a whole turn
pub record SameEvents {P Q L F S A : Type 0} (C : Flow P) (D : Flow Q) (M : Machine L F) (W : Environment L F S A) (R : P → Q → Type 0) (code : ℕ → P) (code' : ℕ → Q) : Type 0 where
  pub alone : (t : Thread P L) (u : Thread Q L) (s : S) → LevelThreads C D R t u → SameOutcomes (SameThreads C D R) (local_event C M W t s) (local_event D M W u s)
  pub stop : (answer : A) (t : Thread P L) (u : Thread Q L) (s : S) → SameThreads C D R t u → SameOutcomes (LevelThreads C D R) (stop_event C M W code answer t s) (stop_event D M W code' answer u s)
  pub turn : (answer : A) (t : Thread P L) (u : Thread Q L) (s : S) → LevelThreads C D R t u → SameOutcomes (LevelThreads C D R) (turn C M W code answer t s) (turn D M W code' answer u s)
