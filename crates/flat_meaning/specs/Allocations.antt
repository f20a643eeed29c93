-- What an allocation asks for: a malloc, a calloc or a realloc.
use Rattle.std.specs.Prelude.{ℕ, ◌*◌, List, [], ◌∷◌, Option, Some, None}
use Rattle.struct_ir.specs.Nodes.{Action, malloc, calloc, realloc}

-- so many bytes; and, of a realloc, in place of the object of this word
pub record Allocation : Type 0 where
  pub bytes : ℕ
  pub old : Option ℕ

-- by the action with the words of its operands; any other action asks for nothing
abbrev pub allocation_of : Action → List ℕ → Option Allocation
allocation_of malloc (size ∷ []) = Some (record { bytes = size; old = None })
allocation_of calloc (count ∷ size ∷ []) = Some (record { bytes = count * size; old = None })
allocation_of realloc (word ∷ size ∷ []) = Some (record { bytes = size; old = Some word })
allocation_of action words = None
