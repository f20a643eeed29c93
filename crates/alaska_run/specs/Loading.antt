-- What holds of each code file, and of those that mode build writes.
use Rattle.std.specs.Prelude.{◌≡◌, ℕ, ◌⊎◌, List}
use Rattle.c_tree.specs.Typed.{Typed}
use Rattle.struct_ir.specs.Nodes.{Ir}
use Rattle.struct_ir.specs.Erased.{ir_erased}
use Rattle.struct_ir.specs.Instrs.{LinearCode}
use Rattle.lower_turns.specs.Turns.{KeepsEveryTurn}
use Rattle.flat_rules.specs.declared.settings.Mode.TheVariants.{Load}
use Rattle.pin_checker.specs.Safe.{IsSafe}
use Rattle.code_file.specs.Calls.{ir_bare}
use Rattle.code_file.specs.Conditions.{IsFile}
use Rattle.code_load.specs.Loads.{IsLoaded}
use Rattle.run_notes.specs.declared.status.Status.{Status}
use Rattle.alaska_run.specs.Built.{IsBuilt}
use Rattle.alaska_run.specs.Faults.{RefusesCode}
use Rattle.alaska_run.specs.Modes.{SpeaksOf}

-- bytes are loaded to code that is safe for moves, or are refused
abbrev pub EachIsLoaded : Type 0
EachIsLoaded = (bytes : List ℕ) → ((p : Ir) × IsLoaded bytes p × IsSafe p) ⊎ ((status : Status) × RefusesCode bytes status)

-- they are loaded to one checked code at most
abbrev pub OneLoaded : Type 0
OneLoaded = (bytes : List ℕ) (p q : Ir) → IsLoaded bytes p → IsLoaded bytes q → q ≡ p

-- not both
abbrev pub LoadedOrRefused : Type 0
LoadedOrRefused = (bytes : List ℕ) (p : Ir) (status : Status) → IsLoaded bytes p → IsSafe p → RefusesCode bytes status → ⊥

-- they are refused for one reason at most
abbrev pub OneRefusal : Type 0
OneRefusal = (bytes : List ℕ) (one other : Status) → RefusesCode bytes one → RefusesCode bytes other → one ≡ other

-- ---- what mode build writes

-- loading the bytes gives this checked code of this tree again, and no other
pub record IsLoadedAgain (typed : Typed) (checked : Ir) (bytes : List ℕ) : Type 0 where
  pub loaded : IsLoaded bytes checked
  pub safe : IsSafe checked
  pub only : (other : Ir) → IsLoaded bytes other → other ≡ checked
  -- and what a run of it means to this tree is told, as that of the text is
  pub speaks : SpeaksOf Load typed
  pub keeps : KeepsEveryTurn typed (ir_erased checked)

-- so it is with the bytes that mode build writes of a text
abbrev pub WhatIsBuiltIsLoaded : Type 0
WhatIsBuiltIsLoaded = (text : List ℕ) (typed : Typed) (checked : Ir) (code : LinearCode) → IsBuilt text typed checked code → (bytes : List ℕ) → IsFile bytes (ir_bare checked) → IsLoadedAgain typed checked bytes
