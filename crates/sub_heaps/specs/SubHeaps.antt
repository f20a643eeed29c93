-- The sub-heaps as four values that a contract sees, and where an object fits among the objects that are there.
use Rattle.std.specs.Prelude.{◌≡◌, ℕ, ◌+◌, ◌-◌, ◌*◌, ◌/◌, ◌%◌, ◌<◌, ◌≤◌, max, ◌==◌, ◌⊎◌, ⊤, List, [], ◌∷◌, length}
use Rattle.std.specs.List.{All, filter, fold, sum_by, range_with_len}
use Rattle.sub_heaps.specs.declared.objects.Object.{Object}
use Rattle.sub_heaps.specs.ByPlace.{end_of}

-- `count` sub-heaps of `size` bytes, one after the other from place 0; at most `most` objects live there, listed in order of place
pub record SubHeaps : Type 0 where
  pub count : ℕ
  pub size : ℕ
  pub most : ℕ
  pub objects : List Object

-- the shapes that sub-heaps may have
pub record IsShape (count size most : ℕ) : Type 0 where
  pub has_sub_heap : 1 ≤ count
  pub has_room : 1 ≤ most
  pub most_bounded : most ≤ 1048576
  pub size_multiple : size % 16 ≡ 0
  pub size_least : 16 ≤ size
  pub whole_bounded : count * size ≤ 268435456

-- the size that an object of so many bytes takes: 16 times the greater of 1 and a sixteenth of them, rounded up
abbrev pub rounded : ℕ → ℕ
rounded bytes = 16 * max 1 ((bytes + 15) / 16)

-- a size that an object can take
abbrev pub IsRounded : ℕ → Type 0
IsRounded size = (16 ≤ size) × (size % 16 ≡ 0)

-- so many bytes from a place on lie in one of `count` sub-heaps of `size` bytes: they start in one, and end within it
abbrev pub LiesInOne : (count size bytes at : ℕ) → Type 0
LiesInOne count size bytes at = (at < count * size) × (at % size + bytes ≤ size)

-- an object stands wholly below a place, or wholly above so many bytes from it on
abbrev pub IsApartFrom : (bytes at : ℕ) → Object → Type 0
IsApartFrom bytes at o = (end_of o ≤ at) ⊎ (at + bytes ≤ o.at)

-- at this place an object of so many bytes lies in one sub-heap and overlaps no object
pub record FitsAt (h : SubHeaps) (bytes at : ℕ) : Type 0 where
  pub inside : LiesInOne h.count h.size bytes at
  pub clear : All (IsApartFrom bytes at) h.objects

-- it is the lowest of all places at which an object of so many bytes does so
pub record IsLowestFit (h : SubHeaps) (bytes at : ℕ) : Type 0 where
  pub fits : FitsAt h bytes at
  pub lowest : (other : ℕ) → FitsAt h bytes other → at ≤ other

-- from a place on, each object starts at or above the end of the one before it, lies in one sub-heap and has a rounded size
abbrev pub StandFrom : (count size from : ℕ) → List Object → Type 0
StandFrom count size from [] = ⊤
StandFrom count size from (o ∷ os) = (from ≤ o.at) × LiesInOne count size o.size o.at × IsRounded o.size × StandFrom count size (end_of o) os

-- what holds of all sub-heaps: no object overlaps another, and no more live than may
pub record IsSound (h : SubHeaps) : Type 0 where
  pub shape : IsShape h.count h.size h.most
  pub few : length h.objects ≤ h.most
  pub stand : StandFrom h.count h.size 0 h.objects

-- each object starts at a multiple of 16
abbrev pub IsAligned : SubHeaps → Type 0
IsAligned h = All (λ o. o.at % 16 ≡ 0) h.objects

-- the objects that lie in the sub-heap of this number, from 0
abbrev pub objects_in : SubHeaps → ℕ → List Object
objects_in h number = filter (λ o. o.at / h.size == number) h.objects

-- the greatest of the numbers, or 0 where there is none
abbrev pub greatest_by : {X : Type 0} → (X → ℕ) → List X → ℕ
greatest_by f xs = fold (λ best x. max best (f x)) 0 xs

-- the distance from a sub-heap's start to the end of its highest object, or 0 where it holds none
abbrev pub extent_in : SubHeaps → ℕ → ℕ
extent_in h number = greatest_by (λ o. end_of o - number * h.size) (objects_in h number)

-- those distances of all sub-heaps together
abbrev pub extent_of : SubHeaps → ℕ
extent_of h = sum_by (extent_in h) (range_with_len 0 h.count)
