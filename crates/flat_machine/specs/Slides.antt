-- The moves that slide objects, as move_plan's slide pushes them.
use Rattle.std.specs.Prelude.{ℕ, ◌+◌, ◌==◌, if◌then◌else◌, Bool, List, [], ◌∷◌, ◌++◌}
use Rattle.sub_heaps.specs.declared.objects.Object.{Object}
use Rattle.sub_heaps.specs.declared.moves.Move.{Move}
use Rattle.move_plan.specs.Sliding.{slid_place}

-- the move of an object to a place, unless it stands there
abbrev pub move_to : Object → (to : ℕ) → List Move
move_to o to = if to == o.at then [] else record { from = o.at; to = to; size = o.size } ∷ []

-- the moves of all, the first of which slides down to `below`
abbrev pub slide_moves : (pinned : (at : ℕ) → Bool) → (size below : ℕ) → List Object → List Move
slide_moves pinned size below [] = []
slide_moves pinned size below (o ∷ os) = move_to o (slid_place pinned size below o) ++ slide_moves pinned size (slid_place pinned size below o + o.size) os
