-- What is judged of an object's type, as the body is cut into calls.
use Rattle.std.specs.Prelude.{ℕ, ◌&&◌}
use Rattle.c_lex.specs.declared.refusal.Kind.TheVariants.{BadSize}
use Rattle.c_tree.specs.Typed.{Ty}
use Rattle.c_typing.specs.Faults.{Judged, unless}
use Rattle.c_typing.specs.Scope.{Context}
use Rattle.c_typing.specs.Types.{has_size, is_small}

-- an object has a size, and at most the greatest object's
abbrev pub sized : Context → (place : ℕ) → Ty → Judged (Unit {0})
sized c place t = unless place BadSize (has_size c.structs t && is_small c.structs t)
