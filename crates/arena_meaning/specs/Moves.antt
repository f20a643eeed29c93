-- Moves of objects with their bytes, and what they keep.
use Rattle.std.specs.Prelude.{◌≡◌, ◌≢◌, ℕ, ◌+◌, ◌<◌, ◌↔◌, Bool, true, List, [], ◌∷◌, length, Option, Some, None, slice_set}
use Rattle.std.specs.List.{All}
use Rattle.handle_table.specs.Table.{IsInUse, address_of}
use Rattle.flat_store.specs.Flat.{HasByte, byte_at, bytes_from, with_bytes}
use Rattle.sub_heaps.specs.declared.objects.Object.{Object}
use Rattle.sub_heaps.specs.ByPlace.{object_at}
use Rattle.sub_heaps.specs.declared.moves.Move.{Move}
use Rattle.sub_heaps.specs.Moving.{after_move, destination}
use Rattle.arena_meaning.specs.Arena.{Storage, object_of}

-- the storage after one move, of the object that starts where the move does: it takes its bytes along, and its owner gets its address
abbrev pub moved_with : Option Object → Move → Storage → Storage
moved_with None m s = s
moved_with (Some o) m s = record s {
  table = slice_set s.table o.owner (Some (s.start + m.to));
  heaps = after_move m s.heaps;
  bytes = with_bytes s.bytes (s.start + m.to) (bytes_from s.bytes (s.start + m.from) o.size);
}

-- the storage after the move of the object that stands where the move begins
abbrev pub moved : Move → Storage → Storage
moved m s = moved_with (object_at m.from s.heaps.objects) m s

-- the storage after all moves, in their order
abbrev pub after_plan : List Move → Storage → Storage
after_plan [] s = s
after_plan (m ∷ ms) s = after_plan ms (moved m s)

-- an object is now at a place, and so says its owner's address; the bytes there are those that it had
pub record IsCarried (old new : Storage) (o : Object) (to : ℕ) : Type 0 where
  pub object : object_of o.owner new.heaps.objects ≡ Some (record o { at = to })
  pub address : address_of new.table o.owner ≡ Some (new.start + to)
  pub bytes : bytes_from new.bytes (new.start + to) o.size ≡ bytes_from old.bytes (old.start + o.at) o.size

-- what moves keep, whichever they are. `pinned` tells the places of pinned objects
pub record KeepsObjects (pinned : ℕ → Bool) (moves : List Move) (old new : Storage) : Type 0 where
  -- the same ids are in use
  pub ids : (id : ℕ) → IsInUse new.table id ↔ IsInUse old.table id
  -- the object of each of them is where the moves took it, with its bytes
  pub carried : (id : ℕ) (o : Object) → object_of id old.heaps.objects ≡ Some o → IsCarried old new o (destination moves o.at)
  -- an object that no move is of stays, and so does each pinned one
  pub others : (at : ℕ) → All (λ m. m.from ≢ at) moves → destination moves at ≡ at
  pub unpinned : (at : ℕ) → pinned at ≡ true → destination moves at ≡ at
  -- the bytes outside the sub-heaps are as they were
  pub outside : (address : ℕ) → HasByte old.bytes address → address < old.start → byte_at new.bytes address ≡ byte_at old.bytes address
  pub start : new.start ≡ old.start
  pub size : length new.bytes ≡ length old.bytes
