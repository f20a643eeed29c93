-- What a data race is (5.1.2.4 p25).
use Rattle.std.specs.Prelude.{◌≡◌, ◌≢◌, ℕ, ◌<◌, true, List, slice_get, Some}
use Rattle.race_rules.specs.declared.touch.Touch.{Touch}
use Rattle.race_rules.specs.Turns.{Turn, Pair, Meet}
use Rattle.race_rules.specs.Kinds.{clash}
use Rattle.race_rules.specs.Order.{Before}

-- they have a cell in common, are reads or writes, one writes, and not both are atomic (5.1.2.4 p4)
pub record Clash (a b : Touch) : Type 0 where
  pub kinds : clash a.kind b.kind ≡ true
  pub cell : Meet a b

-- turns of two threads have touches that clash
pub record Conflict (x y : Turn) : Type 0 where
  pub apart : x.thread ≢ y.thread
  pub touches : Pair Clash x y

-- turns i and j race: they conflict, and i isn't before j
pub record Race (ts : List Turn) (i j : ℕ) : Type 0 where
  pub first : Turn
  pub second : Turn
  pub first_is : slice_get ts i ≡ Some first
  pub second_is : slice_get ts j ≡ Some second
  pub earlier : i < j
  pub conflict : Conflict first second
  pub unordered : ¬ Before ts i j

-- turn j is the second of some race
pub record Second (ts : List Turn) (j : ℕ) : Type 0 where
  pub turn : ℕ
  pub race : Race ts turn j

-- of all races, j is the least second turn, and i the least first turn with it
pub record First (ts : List Turn) (i j : ℕ) : Type 0 where
  pub race : Race ts i j
  pub no_sooner : (k : ℕ) → k < j → ¬ Second ts k
  pub none_below : (k : ℕ) → k < i → ¬ Race ts k j
