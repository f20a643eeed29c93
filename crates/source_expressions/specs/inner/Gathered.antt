-- What a call of printf prints, by what was gathered so far and the pieces that are left.
use Rattle.std.specs.Prelude.{List, ◌++◌, map, drop, ℤ}
use Rattle.block_store.specs.declared.values.Ptr.{Ptr}
use Rattle.block_store.specs.Actions.{Printed, bytes, text}
use Rattle.c_tree.specs.Typed.{Piece}
use Rattle.c_tree.specs.TypedPrinting.{parts}
use Rattle.source_state.specs.Worlds.{printed_of}
use Rattle.source_expressions.specs.declared.printing.SoFar.{SoFar}

-- all that the call prints: what was gathered, and the pieces that are left, over the arguments that are left
abbrev pub behind : (numbers : List ℤ) → (pointers : List Ptr) → SoFar → List Piece → List Printed
behind numbers pointers s rest = map printed_of s.all.items ++ parts bytes text rest (drop s.numbers numbers) (drop s.pointers pointers)
