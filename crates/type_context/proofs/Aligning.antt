-- The greatest alignment of some members.
use Rattle.std.proofs.Common.{◌≤◌, List, [], ◌∷◌, arith}
use Rattle.c_tree.specs.Typed.{Ty, Layout}
use Rattle.c_tree.specs.TypedLayout.{greatest_align}

pub at_least_one : (structs : List Layout) (ts : List Ty) → 1 ≤ greatest_align structs ts
at_least_one structs [] = omega arith
at_least_one structs (t ∷ ts) = omega (arith, at_least_one structs ts)
