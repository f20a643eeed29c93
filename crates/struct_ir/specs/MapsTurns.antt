-- A map from one code to another keeps turns, with calls.
use Rattle.std.specs.Prelude.{◌≡◌, ℕ, List, [], ◌∷◌}
use Rattle.struct_ir.specs.Flow.{Flow, Shrinks}
use Rattle.struct_ir.specs.Machine.{Machine, Point}
use Rattle.struct_ir.specs.Maps.{point_mapped, Carries, IsMap}
use Rattle.struct_ir.specs.Threads.{Environment, Thread, Outcome, went, ended, blocked, broke, unfit, turn}

-- the calls that wait, in the other code
abbrev pub points_mapped : {P Q L : Type 0} → (P → Q) → List (Point P L) → List (Point Q L)
points_mapped f [] = []
points_mapped f (p ∷ ps) = point_mapped f p ∷ points_mapped f ps

-- a thread in the other code
abbrev pub thread_mapped : {P Q L : Type 0} → (P → Q) → Thread P L → Thread Q L
thread_mapped f t = record { top = point_mapped f t.top; callers = points_mapped f t.callers }

-- at each call that waits, the same stands in both codes
abbrev pub AllCarry : {P Q L : Type 0} → Flow P → Flow Q → (P → Q) → List (Point P L) → Type 0
AllCarry C D f [] = Unit {0}
AllCarry C D f (p ∷ ps) = Carries C D f p.at × AllCarry C D f ps

-- the same came of both turns
abbrev pub IsMapped : {P Q L F S : Type 0} → Flow P → Flow Q → (P → Q) → Outcome P L F S → Outcome Q L F S → Type 0
IsMapped C D f (went t s) (went u r) = (u ≡ thread_mapped f t) × (r ≡ s) × AllCarry C D f t.callers
IsMapped C D f (ended l s) (ended m r) = (m ≡ l) × (r ≡ s)
IsMapped C D f blocked blocked = Unit {0}
IsMapped C D f (broke e) (broke e') = e' ≡ e
IsMapped C D f unfit unfit = Unit {0}
IsMapped C D f _ o = ⊥

-- a map of code keeps the turns of every thread whose waiting calls it carries
abbrev pub MapsMapTurns : (P Q L F S A : Type 0) → Type 0
MapsMapTurns P Q L F S A =
    (C : Flow P) (D : Flow Q) → Shrinks C → Shrinks D → (M : Machine L F) (W : Environment L F S A) (f : P → Q) → IsMap C D M f → (code : ℕ → P) (answer : A) (t : Thread P L) (s : S) → AllCarry C D f t.callers
    → IsMapped C D f (turn C M W code answer t s) (turn D M W (λ g. f (code g)) answer (thread_mapped f t) s)
