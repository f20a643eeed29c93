-- Counts of faults. A count never falls, and stays where it is once it stands at its last value.
use Rattle.std.specs.Prelude.{◌≡◌, ℕ, ◌+◌, ◌-◌, ◌^◌, ◌<◌, ◌⊎◌, min}

-- the last value of a count
abbrev pub last_count : ℕ
last_count = 2 ^ 64 - 1

-- one more, up to the last value
abbrev pub raised : ℕ → ℕ
raised count = min (count + 1) last_count

-- the count rose: it is higher than before, or stands at its last value
abbrev pub Rose : ℕ → ℕ → Type 0
Rose old new = (old < new) ⊎ (new ≡ last_count)
