-- The sizes between the brackets behind a parameter, as the code has them.
use Rattle.std.specs.Prelude.{ℕ, List, Option, Vec}
use Rattle.std.specs.declared.alloc.Global.{Global}

-- the sizes between brackets, of which the outermost may lack
abbrev pub sizes_view : Vec (Option ℕ) Global → List (Option ℕ)
sizes_view v = v.items
