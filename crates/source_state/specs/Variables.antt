-- What the code's locals are.
use Rattle.std.specs.Prelude.{List}
use Rattle.c_meaning.specs.Control as control
use Rattle.source_state.specs.declared.locals.Variable.{Variable}
use Rattle.source_state.specs.declared.locals.Variable.TheVariants as variables

-- a local of a call (this project's profile)
abbrev pub variable_of : Variable → control.Variable
variable_of variables.Unset = control.unset
variable_of (variables.Holds v) = control.holds v
variable_of (variables.Lies block) = control.lies block

-- the locals of a call as they are now, and as they were kept last
pub record KeptLocals : Type 0 where
  pub now : List control.Variable
  pub kept : List control.Variable
