-- A walk over objects in order of place that makes each next move at the object which it is of.
use Rattle.std.specs.Prelude.{ℕ, ◌<◌, ◌==◌, if◌then◌else◌, List, [], ◌∷◌}
use Rattle.sub_heaps.specs.declared.moves.Move.{Move}
use Rattle.sub_heaps.specs.declared.objects.Object.{Object}

-- the objects after the walk: each that the next move is of, at its new place
abbrev pub walked : List Move → List Object → List Object
walked [] objects = objects
walked (m ∷ ms) [] = []
walked (m ∷ ms) (o ∷ os) = if m.from == o.at then record o { at = m.to } ∷ walked ms os else o ∷ walked (m ∷ ms) os

-- the moves that are left after it
abbrev pub left_over : List Move → List Object → List Move
left_over [] objects = []
left_over (m ∷ ms) [] = m ∷ ms
left_over (m ∷ ms) (o ∷ os) = if m.from == o.at then left_over ms os else left_over (m ∷ ms) os

-- the first move is of an object that starts below a place
abbrev pub StartsBelow : ℕ → List Move → Type 0
StartsBelow end [] = ⊥
StartsBelow end (m ∷ ms) = m.from < end

-- whose the objects are that the walk moves, in its order
abbrev pub owners_met : List Move → List Object → List ℕ
owners_met [] objects = []
owners_met (m ∷ ms) [] = []
owners_met (m ∷ ms) (o ∷ os) = if m.from == o.at then o.owner ∷ owners_met ms os else owners_met (m ∷ ms) os
