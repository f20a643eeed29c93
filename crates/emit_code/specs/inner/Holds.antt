-- Instructions that stand in a code.
use Rattle.std.specs.Prelude.{◌≡◌, ℕ, ◌+◌, List, [], ◌∷◌, Some, slice_get}
use Rattle.struct_ir.specs.Instrs.{Instr}

-- the instructions stand in the code from this index on
abbrev pub Holds : List Instr → ℕ → List Instr → Type 0
Holds code at [] = Unit {0}
Holds code at (i ∷ is) = (slice_get code at ≡ Some i) × Holds code (at + 1) is
