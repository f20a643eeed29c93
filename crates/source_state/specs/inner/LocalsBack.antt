-- Where a log leads back to.
use Rattle.std.specs.Prelude.{List, [], ◌∷◌, set}
use Rattle.source_state.specs.declared.locals.Old.{Old}
use Rattle.source_state.specs.declared.locals.Variable.{Variable}

-- the last change is taken back first
abbrev pub back_by_all : List Old → List Variable → List Variable
back_by_all [] variables = variables
back_by_all (old ∷ log) variables = set (back_by_all log variables) old.number old.variable
