-- The laws of the clocks and of the history.
use Rattle.std.specs.Prelude.{◌≡◌, ◌↔◌, ℕ, suc, ◌<◌, ◌≤◌, List, slice_get, Some}
use Rattle.race_rules.specs.Turns.{Turn, Has, Pair}
use Rattle.race_rules.specs.Races.{Clash, Race, Second}
use Rattle.race_rules.specs.Clocks.{Clocks, AtOrBefore, first_clocks, clock_of, after}
use Rattle.race_rules.specs.Sound.{Sound}
use Rattle.race_rules.specs.Histories.{History, first_history, saw_all, forgotten, Caught, StillTouched, After}

-- the clocks of turn k know just turn k and what is before it
abbrev pub ClocksKnow : Type 0
ClocksKnow = (ts : List Turn) (k : ℕ) (c : Clocks) (x : Turn) → Sound ts k c → slice_get ts k ≡ Some x →
    (i : ℕ) (y : Turn) → slice_get ts i ≡ Some y → (i < clock_of c k x y.thread) ↔ AtOrBefore ts i k

-- before the first turn the clocks are sound
abbrev pub ClocksBegin : Type 0
ClocksBegin = (ts : List Turn) → Sound ts 0 first_clocks

-- and from turn to turn they stay so
abbrev pub ClocksGoOn : Type 0
ClocksGoOn = (ts : List Turn) (k : ℕ) (c : Clocks) (x : Turn) → Sound ts k c → slice_get ts k ≡ Some x → Sound ts (suc k) (after c k x)

-- nothing has been walked
abbrev pub WalksBegin : Type 0
WalksBegin = (ts : List Turn) → After ts 0 first_clocks first_history

-- a turn is the second of a race exactly where one of its touches is caught
abbrev pub RacesAreCaught : Type 0
RacesAreCaught = (ts : List Turn) (k : ℕ) (c : Clocks) (h : History) (x : Turn) → After ts k c h → slice_get ts k ≡ Some x →
    Has (Caught (clock_of c k x) h) x.touches ↔ Second ts k

-- where none is, the walk goes on
abbrev pub WalksGoOn : Type 0
WalksGoOn = (ts : List Turn) (k : ℕ) (c : Clocks) (h : History) (x : Turn) → After ts k c h → slice_get ts k ≡ Some x →
    (Has (Caught (clock_of c k x) h) x.touches → ⊥) → After ts (suc k) (after c k x) (saw_all (clock_of c k x) k x.thread x.touches h)

-- a block that no turn from k on reads or writes may be forgotten
abbrev pub BlocksMayGo : Type 0
BlocksMayGo = (ts : List Turn) (k block : ℕ) (c : Clocks) (h : History) → After ts k c h → (StillTouched ts k block → ⊥) → After ts k c (forgotten block h)

-- an earlier turn is the first of a race with turn k exactly where touches of theirs clash and the clock doesn't know it
abbrev pub FirstsAreFound : Type 0
FirstsAreFound = (ts : List Turn) (k : ℕ) (c : Clocks) (x : Turn) → Sound ts k c → slice_get ts k ≡ Some x →
    (i : ℕ) (y : Turn) → slice_get ts i ≡ Some y → i < k → Race ts i k ↔ (Pair Clash y x × (clock_of c k x y.thread ≤ i))
