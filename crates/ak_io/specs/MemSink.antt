-- A sink in memory, as contracts see it.
use Rattle.std.specs.Prelude.{ℕ, ◌+◌, ◌<◌, ◌⊎◌, List, ◌++◌, length}
use Rattle.ak_io.specs.Faults.{raised}
use Rattle.ak_io.specs.Calls.{CallList, after_call, IsListed}

-- the bytes written so far, how many may be, the count of faults, and the calls
pub record Written : Type 0 where
  pub bytes : List ℕ
  pub room : ℕ
  pub faults : ℕ
  pub calls : CallList

-- the next write fails, if it is of these bytes: its number is listed, or they would pass the room
abbrev pub WriteFails : Written → List ℕ → Type 0
WriteFails sink more = IsListed sink.calls ⊎ (sink.room < length sink.bytes + length more)

-- the sink after a write of these bytes
abbrev pub with_bytes : Written → List ℕ → Written
with_bytes sink more = record sink { bytes = sink.bytes ++ more; calls = after_call sink.calls }

-- the sink after a write that failed
abbrev pub with_write_fault : Written → Written
with_write_fault sink = record sink { faults = raised sink.faults; calls = after_call sink.calls }
