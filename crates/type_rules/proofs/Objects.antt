-- The type of an object, by what is judged of it.
use Rattle.std.proofs.Common.{◌≡◌, ℕ}
use Rattle.c_tree.specs.Typed.{Ty}
use Rattle.c_typing.specs.Faults.{typed, ◌>>=◌}
use Rattle.c_typing.specs.Scope.{Context}
use Rattle.c_typing.specs.Judgement.{fits_depth, object_type}
use Rattle.type_context.specs.Telling.{both_fine}
use Rattle.type_context.proofs.Judging.{fine_then}
use Rattle.type_rules.specs.inner.Objects.{sized}

-- what is judged of an object's type, and then the type
pub object_from : (c : Context) (place : ℕ) (t : Ty) → object_type c place t ≡ (both_fine (sized c place t) (fits_depth place t) >>= λ u. typed t)
object_from c place t = fine_then (sized c place t) (fits_depth place t) (typed t)
