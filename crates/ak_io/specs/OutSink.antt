-- A sink over a writer, as contracts see it.
use Rattle.std.specs.Prelude.{ℕ, List, Option}
use Rattle.std.specs.Io.KnownBytes.{Appends}
use Rattle.ak_words.specs.Prefix.{IsPrefix}
use Rattle.ak_io.specs.declared.out_sink.OutSink.{OutSink}

-- the writer below it
abbrev pub writer_of : {W : Type 0} → OutSink W → W
writer_of sink = sink.writer

-- how many writes have failed
abbrev pub faults_of : {W : Type 0} → OutSink W → ℕ
faults_of sink = sink.faults

-- what the writer tells of its bytes grew by some first part of these
abbrev pub AppendsPrefix : Option (List ℕ) → Option (List ℕ) → List ℕ → Type 0
AppendsPrefix old new bytes = (part : List ℕ) × IsPrefix part bytes × Appends old new part
