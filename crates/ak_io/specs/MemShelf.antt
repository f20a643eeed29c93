-- A shelf in memory, as contracts see it.
use Rattle.std.specs.Prelude.{ℕ, ◌⊎◌, List, [], map, Option, Some, None, IsNone, position, slice_index, slice_index_or, slice_set, String, Vec, string_bytes}
use Rattle.std.specs.declared.alloc.Global.{Global}
use Rattle.std.specs.Option.{option_map, option_map_or}
use Rattle.std.specs.Str.{bytes_eq}
use Rattle.ak_io.specs.Faults.{raised}
use Rattle.ak_io.specs.Calls.{CallList, after_call, IsListed}

-- the name and the bytes of each file
abbrev pub files_of : List (String Global × Vec ℕ Global) → List (List ℕ × List ℕ)
files_of files = map (λ file. (string_bytes file.0, file.1.items)) files

-- the files, the count of faults of each in their order, one count for all other names, and the calls
pub record Files : Type 0 where
  pub files : List (List ℕ × List ℕ)
  pub counts : List ℕ
  pub others : ℕ
  pub calls : CallList

-- the place of the first file of this name
unfoldable pub place_of : List (List ℕ × List ℕ) → List ℕ → Option ℕ
place_of files name = position (λ file. bytes_eq file.0 name) files

-- the bytes of the first file of this name
abbrev pub bytes_of : Files → List ℕ → Option (List ℕ)
bytes_of shelf name = option_map (λ place. (slice_index_or shelf.files place ([], [])).1) (place_of shelf.files name)

-- how many reads of this name have failed
abbrev pub faults_of : Files → List ℕ → ℕ
faults_of shelf name = option_map_or (λ place. slice_index shelf.counts place) (place_of shelf.files name) shelf.others

-- the next read fails, if it is of this name: its number is listed, or no file has the name
abbrev pub ReadFails : Files → List ℕ → Type 0
ReadFails shelf name = IsListed shelf.calls ⊎ IsNone (bytes_of shelf name)

-- the shelf after a read
abbrev pub after_read : Files → Files
after_read shelf = record shelf { calls = after_call shelf.calls }

-- the shelf with one more fault of the file at this place, or of the other names
abbrev pub with_fault_at : Files → Option ℕ → Files
with_fault_at shelf None = record shelf { others = raised shelf.others }
with_fault_at shelf (Some place) = record shelf { counts = slice_set shelf.counts place (raised (slice_index shelf.counts place)) }

-- the shelf after a read of this name that failed
abbrev pub with_read_fault : Files → List ℕ → Files
with_read_fault shelf name = with_fault_at (after_read shelf) (place_of shelf.files name)
