use Rattle.std.specs.Prelude.{ℕ, ◌+◌, ◌-◌, ◌*◌, ◌/◌, ◌%◌, ◌^◌, ◌≤◌, nat_le, if◌then◌else◌}

-- the word that stands for the byte at an offset of the object with an id (this project's profile)
abbrev pub handle_of : ℕ → ℕ → ℕ
handle_of id offset = 2 ^ 63 + id * 2 ^ 32 + offset

-- a word is a handle where it has the mark, which is the top bit of 64
abbrev pub IsHandle : ℕ → Type 0
IsHandle w = 2 ^ 63 ≤ w

-- a handle's id: the 31 bits below the mark
abbrev pub id_of : ℕ → ℕ
id_of w = (w - 2 ^ 63) / 2 ^ 32

-- a handle's offset: the low 32 bits
abbrev pub offset_of : ℕ → ℕ
offset_of w = w % 2 ^ 32

-- a word and a number of bytes: the sum stays within a handle's offset, and within 64 bits for each other word
abbrev pub added : ℕ → ℕ → ℕ
added w n = if nat_le (2 ^ 63) w then handle_of (id_of w) ((offset_of w + n) % 2 ^ 32) else (w + n) % 2 ^ 64
