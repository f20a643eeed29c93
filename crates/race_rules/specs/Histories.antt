-- What is kept of the touches of each cell, so that a race is seen at its second turn.
use Rattle.std.specs.Prelude.{◌≡◌, ℕ, ◌<◌, ◌≤◌, nat_lt, ◌==◌, ◌&&◌, not, Bool, true, if◌then◌else◌, List, [], ◌∷◌, ◌++◌, slice_get, Some}
use Rattle.std.specs.List.{filter, All}
use Rattle.race_rules.specs.declared.touch.Seen.{Seen}
use Rattle.race_rules.specs.declared.touch.Touch.{Touch}
use Rattle.race_rules.specs.declared.touch.TouchKind.{TouchKind}
use Rattle.race_rules.specs.Kinds.{is_access, clash, outdoes}
use Rattle.race_rules.specs.Turns.{Turn, Has, CoversCell}
use Rattle.race_rules.specs.Races.{Second}
use Rattle.race_rules.specs.Clocks.{Clock, Clocks, AtOrBefore, is_of}
use Rattle.race_rules.specs.Sound.{Sound}

-- what is kept of each cell of each block
abbrev pub History : Type 0
History = (block cell : ℕ) → List Seen

-- what was seen is forgotten where the clock knows it and the new kind outdoes it
abbrev pub keeps : Clock → (new : TouchKind) → Seen → Bool
keeps v new s = not (outdoes new s.kind && nat_lt s.turn (v s.thread))

-- one more is seen at a cell
abbrev pub noted : Clock → Seen → List Seen → List Seen
noted v new all = filter (keeps v new.kind) all ++ new ∷ []

-- a touch of turn k
abbrev pub saw : Clock → (k thread : ℕ) → Touch → History → History
saw v k thread a h block cell =
    if is_access a.kind && is_of a block cell then noted v (record { turn = k; thread = thread; kind = a.kind }) (h block cell) else h block cell

-- all touches of turn k, the first first
abbrev pub saw_all : Clock → (k thread : ℕ) → List Touch → History → History
saw_all v k thread [] h = h
saw_all v k thread (a ∷ more) h = saw_all v k thread more (saw v k thread a h)

-- nothing was seen
abbrev pub first_history : History
first_history block cell = []

-- nothing is kept of this block
abbrev pub forgotten : (block : ℕ) → History → History
forgotten gone h block cell = if gone == block then [] else h block cell

-- it clashes with a touch of this kind, and the clock doesn't know it
pub record Clashes (v : Clock) (κ : TouchKind) (s : Seen) : Type 0 where
  pub kinds : clash s.kind κ ≡ true
  pub unknown : v s.thread ≤ s.turn

-- a touch clashes with what was seen at one of its cells
pub record Caught (v : Clock) (h : History) (a : Touch) : Type 0 where
  pub cell : ℕ
  pub there : CoversCell a a.block cell
  pub by : Has (Clashes v a.kind) (h a.block cell)

-- a touch of this kind at this cell
pub record At (block cell : ℕ) (κ : TouchKind) (a : Touch) : Type 0 where
  pub kind_is : a.kind ≡ κ
  pub there : CoversCell a block cell

-- one of the first k turns touched the cell so
pub record Real (ts : List Turn) (k block cell : ℕ) (s : Seen) : Type 0 where
  pub turn : Turn
  pub is : slice_get ts s.turn ≡ Some turn
  pub below : s.turn < k
  pub of : turn.thread ≡ s.thread
  pub touch : Has (At block cell s.kind) turn.touches

-- it stands for a touch of this kind by turn i: what clashes with that clashes with it, and it isn't before turn i
pub record Stands (ts : List Turn) (i : ℕ) (κ : TouchKind) (s : Seen) : Type 0 where
  pub kinds : (other : TouchKind) → clash κ other ≡ true → clash s.kind other ≡ true
  pub reach : AtOrBefore ts i s.turn

-- a read or a write of the block
pub record IsAccessOf (block : ℕ) (a : Touch) : Type 0 where
  pub access : is_access a.kind ≡ true
  pub in_block : a.block ≡ block

-- turn k or a later one reads or writes the block
pub record StillTouched (ts : List Turn) (k block : ℕ) : Type 0 where
  pub turn : ℕ
  pub it : Turn
  pub is : slice_get ts turn ≡ Some it
  pub late : k ≤ turn
  pub touch : Has (IsAccessOf block) it.touches

-- the history is of the first k turns: what it holds was so, and of the blocks that are still touched it lacks nothing
pub record Remembers (ts : List Turn) (k : ℕ) (h : History) : Type 0 where
  pub real : (block cell : ℕ) → All (Real ts k block cell) (h block cell)
  pub whole : (i : ℕ) (y : Turn) → slice_get ts i ≡ Some y → i < k → (block cell : ℕ) (κ : TouchKind) → is_access κ ≡ true → Has (At block cell κ) y.touches →
      StillTouched ts k block → Has (Stands ts i κ) (h block cell)

-- the clocks and the history are those after the first k turns, and none of these is the second of a race
pub record After (ts : List Turn) (k : ℕ) (c : Clocks) (h : History) : Type 0 where
  pub clocks : Sound ts k c
  pub history : Remembers ts k h
  pub clean : (j : ℕ) → j < k → Second ts j → ⊥
