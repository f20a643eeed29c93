-- Numbers that rise.
use Rattle.std.specs.Prelude.{ℕ, Bool, true, List, [], ◌∷◌, nat_lt, ◌&&◌}

-- each number is above the one before it, and the first above this one
abbrev pub rises_from : ℕ → List ℕ → Bool
rises_from low [] = true
rises_from low (x ∷ rest) = nat_lt low x && rises_from x rest
