-- Turns worked by hand.
use Rattle.std.specs.Prelude.{ℕ, suc, List, [], ◌∷◌, length}
use Rattle.race_rules.specs.declared.touch.Seen.{Seen}
use Rattle.race_rules.specs.declared.touch.Touch.{Touch}
use Rattle.race_rules.specs.declared.touch.TouchKind.{TouchKind}
use Rattle.race_rules.specs.declared.touch.TouchKind.TheVariants.{Read, Write, AtomicWrite, Lock, Unlock, Start}
use Rattle.race_rules.specs.Turns.{Turn}
use Rattle.race_rules.specs.Order.{Before}
use Rattle.race_rules.specs.Races.{Race, First}
use Rattle.race_rules.specs.Shown.{Shows}
use Rattle.race_rules.specs.Clocks.{Clocks, first_clocks, clock_of, after}

-- a touch of the first cells of a block
abbrev pub touch : TouchKind → (block to place : ℕ) → Touch
touch kind block to place = record { kind = kind; block = block; from = 0; to = to; place = place }

-- main makes thread 1, whose number goes to block 1
abbrev pub start_turn : Turn
start_turn = record { thread = 0; touches = touch Write 1 8 30 ∷ touch (Start 1) 0 0 30 ∷ [] }

-- main writes block 0
abbrev pub main_turn : Turn
main_turn = record { thread = 0; touches = touch Write 0 4 48 ∷ [] }

-- main touches nothing
abbrev pub idle_turn : Turn
idle_turn = record { thread = 0; touches = [] }

-- thread 1 writes block 0
abbrev pub other_turn : Turn
other_turn = record { thread = 1; touches = touch Write 0 4 22 ∷ [] }

-- one after the other
abbrev pub racing : List Turn
racing = start_turn ∷ main_turn ∷ idle_turn ∷ other_turn ∷ []

-- turns 1 and 3 race, and no others sooner
abbrev pub RacingRow : Type 0
RacingRow = First racing 1 3

-- and these touches are shown
abbrev pub ShownRow : Type 0
ShownRow = Shows main_turn other_turn (touch Write 0 4 48) (touch Write 0 4 22)

-- ---- what is known

-- the clocks after these turns, of which the first has this number
abbrev pub walked : (k : ℕ) → Clocks → List Turn → Clocks
walked k c [] = c
walked k c (x ∷ more) = walked (suc k) (after c k x) more

-- what a turn after these knows of a thread: one more than the number of its last turn that is before it, or 0
abbrev pub known_after : List Turn → Turn → (thread : ℕ) → ℕ
known_after ts x thread = clock_of (walked 0 first_clocks ts) (length ts) x thread

-- a turn with one touch of eight cells
abbrev pub turn : (thread : ℕ) → TouchKind → (block : ℕ) → Turn
turn thread kind block = record { thread = thread; touches = touch kind block 8 0 ∷ [] }

-- thread 0 writes block 0 under the mutex in block 2
abbrev pub guarded : List Turn
guarded = turn 0 Lock 2 ∷ turn 0 Write 0 ∷ turn 0 Unlock 2 ∷ []

-- thread 0 makes thread 1, which writes block 0; then thread 0 writes another block
abbrev pub made : List Turn
made = turn 0 (Start 1) 0 ∷ turn 1 Write 0 ∷ turn 0 Write 1 ∷ []

-- thread 0 writes block 0 and gives the mutex in block 2 back; then thread 1 gets a mutex and writes block 0
abbrev pub handed : (mutex : ℕ) → List Turn
handed mutex = turn 0 Write 0 ∷ turn 0 Unlock 2 ∷ turn 1 Lock mutex ∷ turn 1 Write 0 ∷ []

-- where it is the same mutex, the first write is before the second
abbrev pub HandedRow : Type 0
HandedRow = Before (handed 2) 0 3

-- where it is another one, they race
abbrev pub ApartRow : Type 0
ApartRow = Race (handed 3) 0 3

-- two threads touch block 4, each in its one turn
abbrev pub both : (first second : TouchKind) → List Turn
both first second = turn 0 first 4 ∷ turn 1 second 4 ∷ []

-- two atomic writes don't race
abbrev pub AtomicsRow : Type 0
AtomicsRow = ¬ Race (both AtomicWrite AtomicWrite) 0 1

-- an atomic write and a plain read do
abbrev pub MixedRow : Type 0
MixedRow = Race (both AtomicWrite Read) 0 1

-- a touch of a cell
abbrev pub seen : (turn thread : ℕ) → TouchKind → Seen
seen turn thread kind = record { turn = turn; thread = thread; kind = kind }
