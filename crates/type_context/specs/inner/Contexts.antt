-- What the code's context says of names.
use Rattle.std.specs.Prelude.{ℕ, Option, Some, None}
use Rattle.c_typing.specs.Scope.{Binding, local_name}

-- the number of the local that a name is, if it is one
abbrev pub local_in : Option Binding → Option ℕ
local_in (Some (local_name n t)) = Some n
local_in m = None
