-- Moves made on the ids' addresses and on the bytes alone, where it is known whose the objects are.
use Rattle.std.specs.Prelude.{ℕ, ◌+◌, ◌^◌, ◌<◌, ⊤, List, [], ◌∷◌, Option, Some, slice_set}
use Rattle.handle_table.specs.Table.{IsInUse}
use Rattle.flat_store.specs.Flat.{HasBytes, bytes_from, with_bytes}
use Rattle.sub_heaps.specs.declared.moves.Move.{Move}

-- the addresses after the moves, in their order: each gives its object's owner the address where the object goes
abbrev pub addresses_after : (start : ℕ) → List Move → (owners : List ℕ) → List (Option ℕ) → List (Option ℕ)
addresses_after start [] owners table = table
addresses_after start (m ∷ ms) [] table = table
addresses_after start (m ∷ ms) (owner ∷ owners) table = addresses_after start ms owners (slice_set table owner (Some (start + m.to)))

-- the bytes after the moves, in their order
abbrev pub bytes_after : (start : ℕ) → List Move → List ℕ → List ℕ
bytes_after start [] bytes = bytes
bytes_after start (m ∷ ms) bytes = bytes_after start ms (with_bytes bytes (start + m.to) (bytes_from bytes (start + m.from) m.size))

-- there are bytes where an object stands and where it goes, and both addresses are words
pub record HasBoth (start : ℕ) (m : Move) (bytes : List ℕ) : Type 0 where
  pub small_from : start + m.from < 2 ^ 64
  pub small_to : start + m.to < 2 ^ 64
  pub from : HasBytes bytes (start + m.from) m.size
  pub to : HasBytes bytes (start + m.to) m.size

-- each move can be made at its turn: there is an owner for it, an id in use, and there are its bytes
abbrev pub CanCarry : (start : ℕ) → List Move → (owners : List ℕ) → List (Option ℕ) → List ℕ → Type 0
CanCarry start [] owners table bytes = ⊤
CanCarry start (m ∷ ms) [] table bytes = ⊥
CanCarry start (m ∷ ms) (owner ∷ owners) table bytes = IsInUse table owner × HasBoth start m bytes × CanCarry start ms owners (slice_set table owner (Some (start + m.to))) (with_bytes bytes (start + m.to) (bytes_from bytes (start + m.from) m.size))
