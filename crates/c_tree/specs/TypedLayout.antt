-- How types are laid out in memory, in bytes (C11 6.2.6.1, 6.2.8; this project's profile).
use Rattle.std.specs.Prelude.{ℕ, ◌+◌, ◌-◌, ◌*◌, ◌/◌, ◌<◌, ◌≤◌, max, List, [], ◌∷◌, Option, Some, None, slice_get, length}
use Rattle.c_tree.specs.Typed.{Ty, void, integer, atomic, mutex, pointer, array, structure, Layout}

-- the greatest object of a declared type
abbrev pub greatest_object : ℕ
greatest_object = 16777216

-- the size of a struct; 0 where there is no such struct
abbrev pub layout_size : Option Layout → ℕ
layout_size None = 0
layout_size (Some l) = l.size

-- the alignment of a struct; 1 where there is no such struct
abbrev pub layout_align : Option Layout → ℕ
layout_align None = 1
layout_align (Some l) = l.align

-- a number, also an atomic one, has the size of its bits, a pointer and a mutex 8 bytes; void and a struct that isn't declared have none
abbrev pub size_in : List Layout → Ty → ℕ
size_in structs void = 0
size_in structs (integer t) = t.bits / 8
size_in structs (atomic t) = t.bits / 8
size_in structs mutex = 8
size_in structs (pointer t) = 8
size_in structs (array t n) = size_in structs t * n
size_in structs (structure n) = layout_size (slice_get structs n)

-- alignment equals size; an array has its element's
abbrev pub align_in : List Layout → Ty → ℕ
align_in structs void = 1
align_in structs (integer t) = t.bits / 8
align_in structs (atomic t) = t.bits / 8
align_in structs mutex = 8
align_in structs (pointer t) = 8
align_in structs (array t n) = align_in structs t
align_in structs (structure n) = layout_align (slice_get structs n)

-- the type is complete (6.2.5 p22), and it, with each array and struct in it, has a byte at least and at most the greatest object's
-- size
abbrev pub IsSized : List Layout → Ty → Type 0
IsSized structs void = ⊥
IsSized structs (integer t) = Unit {0}
IsSized structs (atomic t) = Unit {0}
IsSized structs mutex = Unit {0}
IsSized structs (pointer t) = Unit {0}
IsSized structs (array t n) = IsSized structs t × (0 < n) × (size_in structs t * n ≤ greatest_object)
IsSized structs (structure n) = (n < length structs) × (0 < layout_size (slice_get structs n)) × (layout_size (slice_get structs n) ≤ greatest_object)

-- ---- structs: the members lie in order, each at the next multiple of its alignment (6.7.2.1)

-- the next multiple of an alignment, from n on
abbrev pub rounded_up : (n align : ℕ) → ℕ
rounded_up n align = (n + align - 1) / align * align

-- where the members begin, the first of them from `from` on
abbrev pub offsets_from : List Layout → (from : ℕ) → List Ty → List ℕ
offsets_from structs from [] = []
offsets_from structs from (t ∷ ts) = rounded_up from (align_in structs t) ∷ offsets_from structs (rounded_up from (align_in structs t) + size_in structs t) ts

-- where the last member ends
abbrev pub end_from : List Layout → (from : ℕ) → List Ty → ℕ
end_from structs from [] = from
end_from structs from (t ∷ ts) = end_from structs (rounded_up from (align_in structs t) + size_in structs t) ts

-- the greatest alignment among members of these types, and at least 1
abbrev pub greatest_align : List Layout → List Ty → ℕ
greatest_align structs [] = 1
greatest_align structs (t ∷ ts) = max (align_in structs t) (greatest_align structs ts)

-- a struct of these members: its size is rounded up to its greatest alignment
abbrev pub laid_out : List Layout → List Ty → Layout
laid_out structs types = record {
  offsets = offsets_from structs 0 types;
  types = types;
  size = rounded_up (end_from structs 0 types) (greatest_align structs types);
  align = greatest_align structs types;
}
