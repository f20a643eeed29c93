-- The entries of the ids taken so far, and the ids that were given back: what they stand for together.
use Rattle.std.specs.Prelude.{◌≡◌, ℕ, ◌+◌, ◌-◌, ◌≤◌, ◌==◌, if◌then◌else◌, List, ◌++◌, length, replicate, Option, Some, None, slice_index_or}
use Rattle.std.specs.BinaryHeap.{IsHeap}
use Rattle.std.specs.List.{sum_by}
use Rattle.std.specs.Ordering.{nat_cmp}
use Rattle.std.specs.declared.cmp.Ordering.{Ordering}
use Rattle.std.specs.declared.cmp.Reverse.{Reverse}

-- the entries of all ids: behind those taken so far, free ones
abbrev pub table_of : (ids : ℕ) → List (Option ℕ) → List (Option ℕ)
table_of ids taken = taken ++ replicate (ids - length taken) None

-- how many free ids an entry is, and how many in use
abbrev pub vacancy : Option ℕ → ℕ
vacancy None = 1
vacancy (Some at) = 0

abbrev pub usage : Option ℕ → ℕ
usage None = 0
usage (Some at) = 1

-- how often an id is among those given back
abbrev pub times : ℕ → List (Reverse ℕ) → ℕ
times id given = sum_by (λ (g : Reverse ℕ). if g.0 == id then 1 else 0) given

-- the lower id is the greater one
abbrev pub lowest_last : Reverse ℕ → Reverse ℕ → Ordering
lowest_last a b = nat_cmp b.0 a.0

-- each free id among those taken so far stands once among those given back, with room for the others too
pub record IsKept (ids : ℕ) (taken : List (Option ℕ)) (given : List (Reverse ℕ)) (held taken_room given_room : ℕ) : Type 0 where
  pub some : 1 ≤ ids
  pub bound : ids ≤ 1048576
  pub within : length taken ≤ ids
  pub ordered : IsHeap lowest_last given
  pub once : (id : ℕ) → times id given ≡ vacancy (slice_index_or taken id (Some 0))
  pub number : held + sum_by usage taken ≡ length taken
  pub for_taken : ids ≤ taken_room
  pub for_given : ids ≤ given_room
