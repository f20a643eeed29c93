-- The stretches of a sub-heap that its pinned objects and its two ends bound, their free bytes, and the longest gap.
use Rattle.std.specs.Prelude.{ℕ, ◌+◌, ◌-◌, ◌*◌, ◌≤◌, Bool, not, ◌&&◌, nat_lt, nat_le, List, [], ◌∷◌}
use Rattle.std.specs.List.{filter, sum_by, range_with_len}
use Rattle.sub_heaps.specs.declared.objects.Object.{Object}
use Rattle.sub_heaps.specs.ByPlace.{end_of}
use Rattle.sub_heaps.specs.SubHeaps.{SubHeaps, FitsAt, objects_in, greatest_by}

-- the bytes from a place up to another
pub record Stretch : Type 0 where
  pub from : ℕ
  pub to : ℕ

-- the stretches between two places that objects in order cut out
abbrev pub stretches : (from to : ℕ) → List Object → List Stretch
stretches from to [] = record { from = from; to = to } ∷ []
stretches from to (o ∷ os) = record { from = from; to = o.at } ∷ stretches (end_of o) to os

-- the stretches of a sub-heap: its pinned objects cut them out between its two ends
abbrev pub stretches_in : (pinned : ℕ → Bool) → SubHeaps → ℕ → List Stretch
stretches_in pinned h number = stretches (number * h.size) (number * h.size + h.size) (filter (λ o. pinned o.at) (objects_in h number))

-- the length of a stretch less the sizes of the unpinned objects in it
abbrev pub free_bytes : (pinned : ℕ → Bool) → List Object → Stretch → ℕ
free_bytes pinned objects s = s.to - s.from - sum_by (λ o. o.size) (filter (λ o. not (pinned o.at) && nat_le s.from o.at && nat_lt o.at s.to) objects)

-- the room of a sub-heap: the free bytes of the stretch that has most
abbrev pub room_in : (pinned : ℕ → Bool) → SubHeaps → ℕ → ℕ
room_in pinned h number = greatest_by (free_bytes pinned (objects_in h number)) (stretches_in pinned h number)

-- the greatest room of a sub-heap
abbrev pub room_of : (pinned : ℕ → Bool) → SubHeaps → ℕ
room_of pinned h = greatest_by (room_in pinned h) (range_with_len 0 h.count)

-- the longest gap within a sub-heap: so many bytes in a row are free at some place, and nowhere more
pub record IsLongestGap (h : SubHeaps) (bytes : ℕ) : Type 0 where
  pub is_there : (at : ℕ) × FitsAt h bytes at
  pub none_longer : (at other : ℕ) → FitsAt h other at → other ≤ bytes
