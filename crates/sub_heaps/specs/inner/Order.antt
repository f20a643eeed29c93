-- Objects in order of place, none overlapping the next.
use Rattle.std.specs.Prelude.{ℕ, ◌<◌, ◌≤◌, List, [], ◌∷◌}
use Rattle.sub_heaps.specs.declared.objects.Object.{Object}
use Rattle.sub_heaps.specs.ByPlace.{end_of}

-- from a place on, each object starts at or above the end of the one before it and has a byte, and none ends above the most bytes that sub-heaps have
abbrev pub InOrder : ℕ → List Object → Type 0
InOrder from [] = from ≤ 268435456
InOrder from (o ∷ os) = (from ≤ o.at) × (0 < o.size) × InOrder (end_of o) os

-- the end of the last object, or `from` where there is none
abbrev pub last_end : ℕ → List Object → ℕ
last_end from [] = from
last_end from (o ∷ os) = last_end (end_of o) os
