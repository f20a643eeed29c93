-- Calls of which some are to fail. They are numbered from 1.
use Rattle.std.specs.Prelude.{ℕ, ◌+◌, List, Contains}
use Rattle.ak_io.specs.Faults.{raised}

-- how many calls were made, up to the last value of a count, and the numbers of those that are to fail
pub record CallList : Type 0 where
  pub made : ℕ
  pub failing : List ℕ

-- no call was made yet
abbrev pub none_made : List ℕ → CallList
none_made numbers = record { made = 0; failing = numbers }

-- one more call was made
abbrev pub after_call : CallList → CallList
after_call calls = record calls { made = raised calls.made }

-- the next call is to fail
abbrev pub IsListed : CallList → Type 0
IsListed calls = Contains calls.failing (calls.made + 1)
