-- What the elements of a list are.
use Rattle.std.specs.Prelude.{List, map, Vec}
use Rattle.std.specs.declared.alloc.Global.{Global}

-- each element of a list of the code, seen by a view
abbrev pub each : {A B : Type 0} → (A → B) → Vec A Global → List B
each view v = map view v.items
