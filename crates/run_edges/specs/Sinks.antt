-- A sink, before a call and after it.
use Rattle.std.specs.Prelude.{◌≡◌, ℕ, List, Option}
use Rattle.ak_io.specs.Faults.{Rose}
use Rattle.ak_io.specs.Bytes.{grown, GrewByPrefix}

-- what a sink holds, where it tells it, and its count of faults
pub record Channel : Type 0 where
  pub before : Option (List ℕ)
  pub after : Option (List ℕ)
  pub faults_before : ℕ
  pub faults_after : ℕ

-- what a sink holds and how often it failed, before and after
abbrev pub channel : {S : Type 0} → (S → Option (List ℕ)) → (S → ℕ) → S → S → Channel
channel contents faults old new = record { before = contents old; after = contents new; faults_before = faults old; faults_after = faults new }

-- a write to the sink failed: its count rose
abbrev pub WriteFailed : Channel → Type 0
WriteFailed sink = Rose sink.faults_before sink.faults_after

-- the sink gained just these bytes
abbrev pub Gained : Channel → List ℕ → Type 0
Gained sink bytes = sink.after ≡ grown sink.before bytes

-- the sink gained some first part of these bytes
abbrev pub GainedFront : Channel → List ℕ → Type 0
GainedFront sink bytes = GrewByPrefix sink.before sink.after bytes
