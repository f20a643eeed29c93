-- Registers that are marked, by their numbers.
use Rattle.std.specs.Prelude.{◌≡◌, ◌<◌, ℕ, length, List, [], ◌∷◌, zero, suc, Bool, false, ◌||◌}

-- the register is marked
abbrev pub is_marked : List Bool → (b : ℕ) → Bool
is_marked [] b = false
is_marked (x ∷ rest) zero = x
is_marked (x ∷ rest) (suc b) = is_marked rest b

-- there are as many, and besides those marked before just those of which f holds are
pub record IsMarked (old new : List Bool) (f : ℕ → Bool) : Type 0 where
  pub long : length new ≡ length old
  pub each : (b : ℕ) → b < length old → is_marked new b ≡ (is_marked old b || f b)

-- with those of which rest holds, all are marked of which f holds
pub record IsLeft (old now : List Bool) (rest f : ℕ → Bool) : Type 0 where
  pub long : length now ≡ length old
  pub each : (b : ℕ) → b < length old → (is_marked now b || rest b) ≡ (is_marked old b || f b)
