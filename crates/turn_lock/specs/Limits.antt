-- How many passes a lock may have.
use Rattle.std.specs.Prelude.{ℕ}

-- the most passes that a lock gives out
abbrev pub most_passes : ℕ
most_passes = 64
