-- The gaps among objects in order: what lies between the end of one and the start of the next, as far as it lies in one sub-heap.
use Rattle.std.specs.Prelude.{ℕ, ◌+◌, ◌-◌, ◌%◌, ◌≤◌, max, min, nat_le, if◌then◌else◌, ◌⊎◌, List, [], ◌∷◌}
use Rattle.sub_heaps.specs.declared.objects.Object.{Object}
use Rattle.sub_heaps.specs.ByPlace.{end_of}

-- the end of the sub-heap that a place lies in
abbrev pub sub_heap_end : (size at : ℕ) → ℕ
sub_heap_end size at = at - at % size + size

-- the most bytes between two places that lie in one sub-heap: what is left of the lower one's, or what lies behind that, at most a whole sub-heap
abbrev pub widest : (size from to : ℕ) → ℕ
widest size from to = if nat_le to (sub_heap_end size from) then to - from else max (sub_heap_end size from - from) (min size (to - sub_heap_end size from))

-- the longest gap before an object of the list, from a place on
abbrev pub longest_from : (size from : ℕ) → List Object → ℕ
longest_from size from [] = 0
longest_from size from (o ∷ os) = max (widest size from o.at) (longest_from size (end_of o) os)

-- the longest gap between two objects of the list
abbrev pub longest_among : (size : ℕ) → List Object → ℕ
longest_among size [] = 0
longest_among size (o ∷ os) = longest_from size (end_of o) os

-- so many bytes from a place on lie in a gap before an object of the list, from `from` on
abbrev pub LiesBefore : (bytes from : ℕ) → List Object → ℕ → Type 0
LiesBefore bytes from [] at = ⊥
LiesBefore bytes from (o ∷ os) at = ((from ≤ at) × (at + bytes ≤ o.at)) ⊎ LiesBefore bytes (end_of o) os at

-- and they lie in one sub-heap
abbrev pub IsGapBefore : (size bytes from : ℕ) → List Object → ℕ → Type 0
IsGapBefore size bytes from objects at = (at % size + bytes ≤ size) × LiesBefore bytes from objects at

-- it is the lowest such place
pub record IsLowestBefore (size bytes from : ℕ) (objects : List Object) (at : ℕ) : Type 0 where
  pub gap : IsGapBefore size bytes from objects at
  pub lowest : (other : ℕ) → IsGapBefore size bytes from objects other → at ≤ other
