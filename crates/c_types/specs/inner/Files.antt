-- What a file makes, as the code gathers it.
use Rattle.std.specs.Prelude.{◌≡◌, map, Result, Ok, Err}
use Rattle.c_lex.specs.declared.refusal.CompileFault.{CompileFault}
use Rattle.c_lex.specs.declared.refusal.CompileFault.TheVariants.{Refused, NoMemory}
use Rattle.c_tree.specs.TypedViews.{global_view, func_view}
use Rattle.c_typing.specs.Programs.{Made, joined}
use Rattle.c_types.specs.declared.files.Made.{Made as CodeMade}

-- what an external declaration of the code makes
abbrev pub made_view : CodeMade → Made
made_view m = record { globals = map global_view m.globals.items; funcs = map func_view m.funcs.items }

-- two parts joined, where both are typed, unless memory runs out
abbrev pub IsMade : Result (CodeMade × CodeMade) CompileFault → Result CodeMade CompileFault → Type 0
IsMade q (Err NoMemory) = Unit {0}
IsMade (Ok p) (Ok m) = made_view m ≡ joined (made_view p.0) (made_view p.1)
IsMade (Ok p) (Err (Refused s)) = ⊥
IsMade (Err e) (Ok m) = ⊥
IsMade (Err e) (Err (Refused s)) = e ≡ Refused s
