-- What the turns of an order touch.
use Rattle.std.specs.Prelude.{ℕ, List, [], ◌∷◌, Option, Some, None}
use Rattle.block_store.specs.Runs.{Pick, State, Turn, went, ended, blocked, unfit, broke, first_state, next_state, picked}
use Rattle.c_tree.specs.Typed.{Typed}
use Rattle.c_meaning.specs.Control.{Control}
use Rattle.c_meaning.specs.Meaning.{program, start}
use Rattle.race_rules.specs.declared.touch.Touch.{Touch}
use Rattle.race_rules.specs.Turns as turns

-- what a turn touched: nothing where it ended its thread, and where nothing happened
abbrev pub touched_by : Option (Turn Control) → List Touch
touched_by None = []
touched_by (Some (went c w)) = c.touched
touched_by (Some (ended w)) = []
touched_by (Some blocked) = []
touched_by (Some unfit) = []
touched_by (Some (broke rule place)) = []

-- a turn of a thread that was done, and then those behind it; there is none where it breaks a rule, and behind that none is judged
abbrev pub turns_then : Typed → (State Control → List turns.Turn) → State Control → (thread : ℕ) → Option (Turn Control) → List turns.Turn
turns_then t go s thread None = []
turns_then t go s thread (Some (went c w)) = record { thread = thread; touches = c.touched } ∷ go (next_state (program t) s thread (Some c) w)
turns_then t go s thread (Some (ended w)) = record { thread = thread; touches = [] } ∷ go (next_state (program t) s thread None w)
turns_then t go s thread (Some blocked) = []
turns_then t go s thread (Some unfit) = []
turns_then t go s thread (Some (broke rule place)) = []

-- the turns of an order from a state on, before the first that breaks a rule
abbrev pub turns_from : Typed → List Pick → State Control → List turns.Turn
turns_from t [] s = []
turns_from t (p ∷ order) s = turns_then t (turns_from t order) s p.thread (picked (program t) s p)

-- the turns of an order of a program, and what each touched, before the first that breaks a rule
abbrev pub turns_of : Typed → List Pick → List turns.Turn
turns_of t order = turns_from t order (first_state (program t) (start t))
