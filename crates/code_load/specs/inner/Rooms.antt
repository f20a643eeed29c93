-- Room that is taken.
use Rattle.std.specs.Prelude.{ℕ, ◌-◌, nat_le, if◌then◌else◌, Option, Some, None}

-- what is left of the room without so many bytes, where it has them
abbrev pub without : (room bytes : ℕ) → Option ℕ
without room bytes = if nat_le bytes room then Some (room - bytes) else None
