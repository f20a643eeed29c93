-- What is judged of a result's type before it is a plain one.
use Rattle.std.specs.Prelude.{ℕ, not}
use Rattle.c_lex.specs.declared.refusal.Kind.TheVariants.{TypeMismatch, OutsideSubset}
use Rattle.c_tree.specs.Typed.{Ty}
use Rattle.c_typing.specs.Faults.{Judged, unless}
use Rattle.c_typing.specs.Types.{is_array, is_struct_or_mutex}
use Rattle.type_context.specs.Telling.{both_fine}

-- a result is no array, and no struct and no mutex
abbrev pub result_fine : (place : ℕ) → Ty → Judged (Unit {0})
result_fine place t = both_fine (unless place TypeMismatch (not (is_array t))) (unless place (OutsideSubset 13) (not (is_struct_or_mutex t)))
