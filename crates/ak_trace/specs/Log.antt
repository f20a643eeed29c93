-- A journal, as contracts see it.
use Rattle.std.specs.Prelude.{ℕ, List}
use Rattle.ak_trace.specs.declared.entry.Entry.{Entry}

-- the entries so far, the oldest first, and how many there may be
pub record Log : Type 0 where
  pub entries : List Entry
  pub limit : ℕ
