-- Which touches of a race are shown.
use Rattle.std.specs.Prelude.{ℕ, List, ◌∷◌}
use Rattle.race_rules.specs.declared.touch.Touch.{Touch}
use Rattle.race_rules.specs.Turns.{Turn, Has}
use Rattle.race_rules.specs.Races.{Clash, Race}

-- the first of a list that is so
pub data FirstOf {X : Type 0} (P : X → Type 0) : List X → X → Type 0 where
  first_here : {x : X} {xs : List X} → P x → FirstOf P (x ∷ xs) x
  first_later : {x y : X} {xs : List X} → (P x → ⊥) → FirstOf P xs y → FirstOf P (x ∷ xs) y

-- the touch clashes with one of these
abbrev pub ClashesOne : List Touch → Touch → Type 0
ClashesOne others a = Has (Clash a) others

-- of each of two turns the first touch that clashes with any of the other
pub record Shows (x y : Turn) (a b : Touch) : Type 0 where
  pub first : FirstOf (ClashesOne y.touches) x.touches a
  pub second : FirstOf (ClashesOne x.touches) y.touches b

-- turns i and j race, and these touches of theirs are shown
pub record Shown (ts : List Turn) (i j : ℕ) (a b : Touch) : Type 0 where
  pub race : Race ts i j
  pub touches : Shows race.first race.second a b
