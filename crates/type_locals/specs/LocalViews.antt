-- What the code's parameters are.
use Rattle.std.specs.Prelude.{List, map}
use Rattle.c_tree.specs.TypedViews.{type_view}
use Rattle.type_locals.specs.declared.locals.Param.{Param as CodeParam}
use Rattle.c_typing.specs.Numbering.{Param}

-- a parameter, as the definition of typing has it
abbrev pub param_view : CodeParam → Param
param_view p = record { place = p.place; ty = type_view p.ty }

-- each of them
abbrev pub params_view : List CodeParam → List Param
params_view ps = map param_view ps
