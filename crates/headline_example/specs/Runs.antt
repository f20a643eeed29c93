-- What the runs of the text come to, under every order of turns and every answer.
use Rattle.std.specs.Prelude.{◌≡◌, ◌≢◌, ℕ, ◌≤◌, ◌⊎◌, nat_le, if◌then◌else◌, List, [], ◌∷◌, length, map, take, replicate, codes, pos, Option, Some, None}
use Rattle.block_store.specs.declared.values.Answer.TheVariants as answers
use Rattle.block_store.specs.Actions.{ThreadRecord, Stage, running, returned}
use Rattle.block_store.specs.Runs.{Pick, Turn, went, ended, blocked, unfit, broke, State, own_at, picked, reaches, no_run}
use Rattle.c_meaning.specs.Control.{Control}
use Rattle.c_meaning.specs.Meaning.{program, run}
use Rattle.headline_example.specs.Text.{tree}

-- ---- the order in which all goes well

-- main's malloc gets an object; a store, a load, a store, a load, a print, a free and its end follow
abbrev pub whole_order : List Pick
whole_order = record { thread = 0; answer = answers.Got } ∷ replicate 7 (record { thread = 0; answer = answers.Plain })

-- the order begins with a malloc that gets nothing
abbrev pub BeginsWithNull : List Pick → Type 0
BeginsWithNull [] = ⊥
BeginsWithNull (p ∷ order) = p ≡ record { thread = 0; answer = answers.None }

-- the order is the first turns of the whole order, so many of them
pub record IsFront (order : List Pick) : Type 0 where
  pub turns : ℕ
  pub few : turns ≤ 8
  pub is : order ≡ take turns whole_order

-- ---- the states in which it goes well

-- so much is printed once so many turns are done
abbrev pub printed : (turns : ℕ) → List ℕ
printed turns = if nat_le 6 turns then codes "42\n" else []

-- main runs, up to its eighth turn, with which it returns 0
abbrev pub stages : (turns : ℕ) → List Stage
stages turns = (if nat_le 8 turns then returned (pos 0) else running) ∷ []

-- what comes of a turn is nothing, or that turn is done, or it doesn't take the answer: it neither waits nor breaks a rule. As many calls
-- wait then as before, and 3 bytes at most are printed
abbrev pub IsQuiet : (callers : ℕ) → Option (Turn Control) → Type 0
IsQuiet callers None = Unit {0}
IsQuiet callers (Some (went own w)) = (length own.callers ≡ callers) × (length w.output ≤ 3)
IsQuiet callers (Some (ended w)) = Unit {0}
IsQuiet callers (Some blocked) = ⊥
IsQuiet callers (Some unfit) = Unit {0}
IsQuiet callers (Some (broke rule place)) = ⊥

-- a state once so many turns are done
pub record IsAfter (turns : ℕ) (u : State Control) : Type 0 where
  pub output : u.world.output ≡ printed turns
  pub stages_are : map (λ (t : ThreadRecord). t.stage) u.world.threads ≡ stages turns
  -- no call ever waits
  pub callers : (thread : ℕ) (own : Control) → own_at u.own thread ≡ Some own → length own.callers ≡ 0
  -- whatever turn comes next, of whichever thread and whatever it is told, is quiet
  pub quiet : (p : Pick) → IsQuiet 0 (picked (program tree) u p)

-- ---- all runs

-- the run of an order comes to a state in which all is well
pub record GoesWell (turns : ℕ) (order : List Pick) : Type 0 where
  pub state : State Control
  pub comes : run tree order ≡ reaches state
  pub after : IsAfter turns state

-- an order that has a run is the first turns of the whole order, or its malloc gets nothing; and the first turns go well
pub record RunsAreKnown : Type 0 where
  pub orders : (order : List Pick) → ((turns : ℕ) → run tree order ≢ no_run turns) → IsFront order ⊎ BeginsWithNull order
  pub fronts : (turns : ℕ) → turns ≤ 8 → GoesWell turns (take turns whole_order)
