-- The first elements of a list.
use Rattle.std.specs.Prelude.{◌≡◌, List, ◌++◌}

-- the whole begins with this part
abbrev pub IsPrefix : {X : Type 0} → List X → List X → Type 0
IsPrefix {X = X} part whole = (rest : List X) × (whole ≡ part ++ rest)
