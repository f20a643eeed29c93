-- Turns of threads in one order, and what each touches (the evaluations of 5.1.2.4, each whole).
use Rattle.std.specs.Prelude.{◌≡◌, ℕ, ◌<◌, ◌≤◌, List, ◌∷◌}
use Rattle.race_rules.specs.declared.touch.Touch.{Touch}

-- a turn of a thread, and what it touched, in order
pub record Turn : Type 0 where
  pub thread : ℕ
  pub touches : List Touch

-- one of them is so
pub data Has {X : Type 0} (P : X → Type 0) : List X → Type 0 where
  here : {x : X} {xs : List X} → P x → Has P (x ∷ xs)
  later : {x : X} {xs : List X} → Has P xs → Has P (x ∷ xs)

-- one of the first turn and one of the second are so
abbrev pub Pair : (Touch → Touch → Type 0) → Turn → Turn → Type 0
Pair R x y = Has (λ a. Has (λ b. R a b) y.touches) x.touches

-- the touch is of this cell of this block
pub record CoversCell (a : Touch) (block cell : ℕ) : Type 0 where
  pub in_block : a.block ≡ block
  pub from_here : a.from ≤ cell
  pub up_to : cell < a.to

-- the touches have a cell in common
pub record Meet (a b : Touch) : Type 0 where
  pub block : ℕ
  pub cell : ℕ
  pub first : CoversCell a block cell
  pub second : CoversCell b block cell
