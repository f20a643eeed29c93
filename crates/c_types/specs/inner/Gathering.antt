-- What is gone on from.
use Rattle.std.specs.Prelude.{◌≡◌, false, Option, Some, Result, Ok, Err}
use Rattle.c_lex.specs.declared.refusal.CompileFault.{CompileFault}
use Rattle.c_lex.specs.declared.refusal.CompileFault.TheVariants.{NoMemory}
use Rattle.c_typing.specs.Faults.{Judged, typed, ◌>>=◌}
use Rattle.type_context.specs.Telling.{lacks_memory}

-- a part that may lack, and is there
abbrev pub some_part : {A : Type 0} → Judged A → Judged (Option A)
some_part j = j >>= λ x. typed (Some x)

-- an outcome once more, unless memory ran out
abbrev pub IsOutcome : {A : Type 0} → Result A CompileFault → Result (Result A CompileFault) CompileFault → Type 0
IsOutcome r (Ok s) = (s ≡ r) × (lacks_memory r ≡ false)
IsOutcome r (Err e) = e ≡ NoMemory
