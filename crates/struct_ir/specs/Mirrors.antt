-- Two codes in which the same is done in the same order, wherever it stands.
use Rattle.std.specs.Prelude.{◌≡◌, Bool, true, Result, Ok, Err}
use Rattle.struct_ir.specs.Flow.{Flow, Stays}
use Rattle.struct_ir.specs.Machine.{Machine, Point, goes, ahead, run}

-- at k the thread goes on with what it has
abbrev pub IsIdle : {P L F : Type 0} → Flow P → Machine L F → P → Type 0
IsIdle {P} {L} C M k = (l : L) → ahead C M (record { at = k; own = l }) ≡ goes (record { at = C.next k true; own = l })

-- the same stands at both, and control goes on to positions that correspond
pub record Both {P Q : Type 0} (C : Flow P) (D : Flow Q) (R : P → Q → Type 0) (k : P) (j : Q) : Type 0 where
  pub here : D.here j ≡ C.here k
  pub next : Stays (C.here k) → (c : Bool) → R (C.next k c) (D.next j c)

-- both, or one that goes on alone with nothing done
pub data Match {P Q L F : Type 0} (C : Flow P) (D : Flow Q) (M : Machine L F) (R : P → Q → Type 0) (k : P) (j : Q) : Type 0 where
  both : Both C D R k j → Match C D M R k j
  first : IsIdle C M k → R (C.next k true) j → Match C D M R k j
  second : IsIdle D M j → R k (D.next j true) → Match C D M R k j

-- at positions that correspond the codes match
abbrev pub IsMirror : {P Q L F : Type 0} → Flow P → Flow Q → Machine L F → (P → Q → Type 0) → Type 0
IsMirror {P} {Q} C D M R = (k : P) (j : Q) → R k j → Match C D M R k j

-- the two runs end at positions that correspond, before the same, with the same, or in the same fault
abbrev pub EndAlike : {P Q L F : Type 0} → Flow P → Flow Q → (P → Q → Type 0) → Result (Point P L) F → Result (Point Q L) F → Type 0
EndAlike C D R (Ok p) (Ok q) = (q.own ≡ p.own) × R p.at q.at × Both C D R p.at q.at
EndAlike C D R (Ok p) (Err f) = ⊥
EndAlike C D R (Err f) (Ok q) = ⊥
EndAlike C D R (Err f) (Err g) = g ≡ f

-- runs from positions that correspond end alike
abbrev pub MirrorsRuns : {P Q L F : Type 0} → Flow P → Flow Q → Machine L F → (P → Q → Type 0) → Type 0
MirrorsRuns {P} {Q} {L} C D M R = (k : P) (j : Q) (l : L) → R k j → EndAlike C D R (run C M (record { at = k; own = l })) (run D M (record { at = j; own = l }))
