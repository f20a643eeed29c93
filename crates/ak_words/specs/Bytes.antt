-- A number and its bytes, the lowest first (C11 6.2.6; this order is this project's profile).
use Rattle.std.specs.Prelude.{ℕ, ◌+◌, ◌*◌, List, [], ◌∷◌}
use Rattle.std.specs.Int.{bytes_low_first}

-- the n lowest bytes of a number, the lowest first
abbrev pub low_bytes : (n v : ℕ) → List ℕ
low_bytes n v = bytes_low_first 0 n v

-- the number that bytes stand for, the lowest first
abbrev pub number_of : List ℕ → ℕ
number_of [] = 0
number_of (b ∷ bs) = b + 256 * number_of bs
