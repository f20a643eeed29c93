-- Which turn happens before which (5.1.2.4 p18).
use Rattle.std.specs.Prelude.{◌≡◌, ℕ, ◌<◌, List, slice_get, Some}
use Rattle.race_rules.specs.declared.touch.Touch.{Touch}
use Rattle.race_rules.specs.declared.touch.TouchKind.TheVariants.{AtomicRead, AtomicWrite, Lock, Unlock, Start, Join}
use Rattle.race_rules.specs.Turns.{Turn, Has, Pair, Meet}

-- a thread of this number was made (7.26.5.1 p2)
abbrev pub IsStart : ℕ → Touch → Type 0
IsStart t a = a.kind ≡ Start t

-- the thread of this number was joined (7.26.5.6 p2)
abbrev pub IsJoin : ℕ → Touch → Type 0
IsJoin t a = a.kind ≡ Join t

-- the mutex that the first gave back is the one that the second got (5.1.2.4 p6, 7.26.4.3 p2)
pub record Hands (a b : Touch) : Type 0 where
  pub gave : a.kind ≡ Unlock
  pub got : b.kind ≡ Lock
  pub same_block : a.block ≡ b.block
  pub same_from : a.from ≡ b.from
  pub same_to : a.to ≡ b.to

-- the first wrote atomically where the second read atomically: each atomic operation is sequentially consistent (5.1.2.4 p11)
pub record Passes (a b : Touch) : Type 0 where
  pub wrote : a.kind ≡ AtomicWrite
  pub read : b.kind ≡ AtomicRead
  pub cell : Meet a b

-- why a turn is directly before a later one: it is sequenced so in its thread, or synchronizes with it (5.1.2.4 p11)
pub data Orders (x y : Turn) : Type 0 where
  same_thread : x.thread ≡ y.thread → Orders x y
  starts : Has (IsStart y.thread) x.touches → Orders x y
  joins : Has (IsJoin x.thread) y.touches → Orders x y
  hands : Pair Hands x y → Orders x y
  passes : Pair Passes x y → Orders x y

-- turn i is directly before turn j
pub record Directly (ts : List Turn) (i j : ℕ) : Type 0 where
  pub first : Turn
  pub second : Turn
  pub first_is : slice_get ts i ≡ Some first
  pub second_is : slice_get ts j ≡ Some second
  pub earlier : i < j
  pub orders : Orders first second

-- a chain of turns, each directly before the next, leads from i to j (5.1.2.4 p16, p18)
pub data Before (ts : List Turn) : ℕ → ℕ → Type 0 where
  at_once : {i j : ℕ} → Directly ts i j → Before ts i j
  through : {i j k : ℕ} → Before ts i j → Directly ts j k → Before ts i k
