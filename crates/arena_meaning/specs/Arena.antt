-- An arena as four values that a contract sees: objects behind handles. Each object of the sub-heaps has an id for its owner, and the
-- table has the object's address for the id.
use Rattle.std.specs.Prelude.{◌≡◌, ℕ, ◌+◌, ◌*◌, ◌/◌, ◌^◌, ◌≤◌, ◌==◌, nat_le, if◌then◌else◌, List, length, Option, Some, None, IsSome}
use Rattle.std.specs.List.{All, find, filter_map}
use Rattle.std.specs.Option.{option_map}
use Rattle.handle_words.specs.Handle.{IsHandle, id_of, offset_of}
use Rattle.handle_table.specs.Table.{IsInUse, address_of}
use Rattle.flat_store.specs.Flat.{first_address}
use Rattle.sub_heaps.specs.declared.objects.Object.{Object}
use Rattle.sub_heaps.specs.SubHeaps.{SubHeaps, IsSound}

-- objects behind handles: the sub-heaps with their addresses and bytes, and where each id leads
pub record Storage : Type 0 where
  -- the address of place 0, with which the sub-heaps begin
  pub start : ℕ
  -- the address of each id in use
  pub table : List (Option ℕ)
  pub heaps : SubHeaps
  -- the bytes, from the first address on
  pub bytes : List ℕ

-- the sub-heaps begin behind so many plain bytes, at a multiple of 16
abbrev pub start_behind : ℕ → ℕ
start_behind plain = 16 * ((first_address + plain + 15) / 16)

-- the object of an id: the one that it owns
abbrev pub object_of : ℕ → List Object → Option Object
object_of id objects = find (λ o. o.owner == id) objects

-- what holds of all storage: each id in use owns an object, and each object's owner is in use, with the object's address
pub record IsConsistent (s : Storage) : Type 0 where
  pub heaps : IsSound s.heaps
  pub ids : length s.table ≡ s.heaps.most
  pub above : first_address ≤ s.start
  pub whole : first_address + length s.bytes ≡ s.start + s.heaps.count * s.heaps.size
  pub small : s.start + s.heaps.count * s.heaps.size ≤ 2 ^ 32
  pub owned : (id : ℕ) → IsInUse s.table id → IsSome (object_of id s.heaps.objects)
  pub addressed : All (λ o. address_of s.table o.owner ≡ Some (s.start + o.at)) s.heaps.objects

-- a word is the handle of an object's start: its id is in use, and its offset is 0
pub record IsLiveStart (s : Storage) (w : ℕ) : Type 0 where
  pub handle : IsHandle w
  pub start : offset_of w ≡ 0
  pub in_use : IsInUse s.table (id_of w)

-- the place of the object that a word names: a handle names the object of its id, with any offset, and another word names none
abbrev pub place_named : Storage → ℕ → Option ℕ
place_named s w = if nat_le (2 ^ 63) w then option_map (λ o. o.at) (object_of (id_of w) s.heaps.objects) else None

-- the places of the objects that words name
abbrev pub places_named : Storage → List ℕ → List ℕ
places_named s words = filter_map (place_named s) words
