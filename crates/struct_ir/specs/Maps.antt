-- A map from one code to another, which may leave out positions where nothing happens.
use Rattle.std.specs.Prelude.{◌≡◌, ◌⊎◌, Bool, true, Result, Ok, Err}
use Rattle.struct_ir.specs.Flow.{Flow}
use Rattle.struct_ir.specs.Machine.{Machine, Point, goes, ahead, run}

-- a point in the other code
abbrev pub point_mapped : {P Q L : Type 0} → (P → Q) → Point P L → Point Q L
point_mapped f p = record { at = f p.at; own = p.own }

-- a run's end in the other code
abbrev pub end_mapped : {P Q L F : Type 0} → (P → Q) → Result (Point P L) F → Result (Point Q L) F
end_mapped f (Ok q) = Ok (point_mapped f q)
end_mapped f (Err e) = Err e

-- the same stands there, and control goes on alike
pub record Carries {P Q : Type 0} (C : Flow P) (D : Flow Q) (f : P → Q) (k : P) : Type 0 where
  pub here : D.here (f k) ≡ C.here k
  pub next : (c : Bool) → D.next (f k) c ≡ f (C.next k c)

-- the thread goes on with what it has, and the other code is there already
pub record Vanishes {P Q L F : Type 0} (C : Flow P) (M : Machine L F) (f : P → Q) (k : P) : Type 0 where
  pub idle : (l : L) → ahead C M (record { at = k; own = l }) ≡ goes (record { at = C.next k true; own = l })
  pub there : f (C.next k true) ≡ f k

-- each position is carried or vanishes
abbrev pub IsMap : {P Q L F : Type 0} → Flow P → Flow Q → Machine L F → (P → Q) → Type 0
IsMap {P} C D M f = (k : P) → Carries C D f k ⊎ Vanishes C M f k

-- the runs are equal, but for the map
abbrev pub MapsRuns : {P Q L F : Type 0} → Flow P → Flow Q → Machine L F → (P → Q) → Type 0
MapsRuns {P} {Q} {L} {F} C D M f = (p : Point P L) → run D M (point_mapped f p) ≡ end_mapped f (run C M p)
