-- A table as the list of its entries by id: the address of each id in use, and `None` for each free one.
use Rattle.std.specs.Prelude.{ℕ, ◌+◌, ◌%◌, ◌^◌, ◌<◌, ◌≤◌, nat_le, if◌then◌else◌, List, length, Option, Some, None, IsSome, IsNone, slice_index_or}
use Rattle.handle_words.specs.Handle.{id_of, offset_of}

-- how many ids a table may have
abbrev pub IsSound : List (Option ℕ) → Type 0
IsSound table = (1 ≤ length table) × (length table ≤ 1048576)

-- the address of an id, where the table has the id and it is in use
abbrev pub address_of : List (Option ℕ) → ℕ → Option ℕ
address_of table id = slice_index_or table id None

-- the id is in use
abbrev pub IsInUse : List (Option ℕ) → ℕ → Type 0
IsInUse table id = IsSome (address_of table id)

-- the id is one of the table's, and not in use
abbrev pub IsFree : List (Option ℕ) → ℕ → Type 0
IsFree table id = (id < length table) × IsNone (address_of table id)

-- the id is free, and no lower one is
pub record IsLeastFree (table : List (Option ℕ)) (id : ℕ) : Type 0 where
  pub free : IsFree table id
  pub least : (other : ℕ) → IsFree table other → id ≤ other

-- each of the table's ids is in use
abbrev pub IsFull : List (Option ℕ) → Type 0
IsFull table = (id : ℕ) → id < length table → IsInUse table id

-- what lies so many bytes from an address, modulo 2^64, and 0 where there is no address
abbrev pub reached : Option ℕ → ℕ → ℕ
reached None offset = 0
reached (Some at) offset = (at + offset) % 2 ^ 64

-- the translation of a word: of a handle what its offset reaches from its id's address, and each other word itself
abbrev pub translated : List (Option ℕ) → ℕ → ℕ
translated table w = if nat_le (2 ^ 63) w then reached (address_of table (id_of w)) (offset_of w) else w
