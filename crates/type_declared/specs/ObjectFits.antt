-- Whether the object of a type that may be at fault fits.
use Rattle.std.specs.Prelude.{ℕ}
use Rattle.c_tree.specs.Typed.{Ty}
use Rattle.c_tree.specs.TypedLayout.{size_in}
use Rattle.c_typing.specs.Faults.{Judged, ◌>>=◌}
use Rattle.c_typing.specs.Scope.{Context, fits_plain}

-- an object of a type fits among the plain ones
abbrev pub fits_of : Context → (place : ℕ) → Judged Ty → Judged (Unit {0})
fits_of c place j = j >>= λ s. fits_plain c place (size_in c.structs s)
