-- What is sized of the parts of an expression's object, in a well formed tree.
use Rattle.std.specs.Prelude.{ℕ, List}
use Rattle.std.specs.List.{AllByRecursion}
use Rattle.c_tree.specs.Typed.{Ty, array, Layout}
use Rattle.c_tree.specs.TypedForm.{IsTarget, IsMember, IsLayout}
use Rattle.c_tree.specs.TypedLayout.{IsSized}

-- a struct that has a member has a size, and so has the member; an array that a pointer leads to has one, and so have its elements
pub record PartsAreSized : Type 0 where
  pub of_a_struct : (structs : List Layout) → AllByRecursion (IsLayout structs) structs → (s : Ty) (m : ℕ) (t : Ty) → IsMember structs s m t → IsSized structs s × IsSized structs t
  pub of_an_array : (structs : List Layout) (t : Ty) (n : ℕ) → IsTarget structs (array t n) → IsSized structs (array t n) × IsSized structs t
