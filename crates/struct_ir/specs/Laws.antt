-- The laws of any code and machine.
use Rattle.std.specs.Prelude.{◌≡◌, ℕ, List}
use Rattle.struct_ir.specs.Nodes.{Act}
use Rattle.struct_ir.specs.Flow.{Flow, Shrinks, Path, does}
use Rattle.struct_ir.specs.Structured.{structured}
use Rattle.struct_ir.specs.Machine.{Machine, Point, IsRun, Comes}
use Rattle.struct_ir.specs.Maps.{IsMap, MapsRuns}
use Rattle.struct_ir.specs.Pins.{PinSafe, IsPinned}

-- in structured code what is left to do gets less
abbrev pub StructuredShrinks : Type 0
StructuredShrinks = Shrinks structured

-- a run is the steps up to the first stop or fault
abbrev pub RunsAreSteps : (P L F : Type 0) → Type 0
RunsAreSteps P L F = (C : Flow P) → Shrinks C → (M : Machine L F) → IsRun C M

-- the way of a call is a path
abbrev pub WaysArePaths : (P L F : Type 0) → Type 0
WaysArePaths P L F = (C : Flow P) (M : Machine L F) (start : P) (w : List P) (p : Point P L) → Comes C M start w p → Path C start w p.at

-- each act that a call of safe code comes to is pinned
abbrev pub SafeCodeIsPinned : (P L F : Type 0) → Type 0
SafeCodeIsPinned P L F = (C : Flow P) (start : P) → PinSafe C start → (M : Machine L F) (w : List P) (p : Point P L) → Comes C M start w p
    → (place : ℕ) (a : Act) → C.here p.at ≡ does place a → IsPinned C w a

-- a map of code maps its runs
abbrev pub MapsMapRuns : (P Q L F : Type 0) → Type 0
MapsMapRuns P Q L F = (C : Flow P) → Shrinks C → (D : Flow Q) → Shrinks D → (M : Machine L F) (f : P → Q) → IsMap C D M f → MapsRuns C D M f
