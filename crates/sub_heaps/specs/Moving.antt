-- Moves that are made one after the other: where the objects then stand, and which moves are legal. `pinned` tells the places of pinned objects.
use Rattle.std.specs.Prelude.{◌≡◌, ℕ, ◌≢◌, ◌==◌, Bool, false, ⊤, List, [], ◌∷◌, if◌then◌else◌, Option, Some, IsSomeAnd, map}
use Rattle.std.specs.List.{All}
use Rattle.std.specs.Option.{option_map}
use Rattle.sub_heaps.specs.declared.objects.Object.{Object}
use Rattle.sub_heaps.specs.ByPlace.{object_at, without, shifted}
use Rattle.sub_heaps.specs.SubHeaps.{SubHeaps, FitsAt}
use Rattle.sub_heaps.specs.declared.moves.Move.{Move}

-- the sub-heaps after one move
abbrev pub after_move : Move → SubHeaps → SubHeaps
after_move m h = record h { objects = shifted m.from m.to h.objects }

-- the sub-heaps after all moves, in their order
abbrev pub after_moves : List Move → SubHeaps → SubHeaps
after_moves [] h = h
after_moves (m ∷ ms) h = after_moves ms (after_move m h)

-- a move that may be made now: an object of its size that isn't pinned starts at `from`, and at `to` it lies in one sub-heap and overlaps no other object
pub record IsAllowed (pinned : ℕ → Bool) (h : SubHeaps) (m : Move) : Type 0 where
  pub object : IsSomeAnd (object_at m.from h.objects) (λ o. o.size ≡ m.size)
  pub unpinned : pinned m.from ≡ false
  pub fits : FitsAt (record h { objects = without m.from h.objects }) m.size m.to

-- legal moves: each is allowed at its turn, and none is of the object that an earlier one moved
abbrev pub AreLegal : (pinned : ℕ → Bool) → SubHeaps → List Move → Type 0
AreLegal pinned h [] = ⊤
AreLegal pinned h (m ∷ ms) = IsAllowed pinned h m × All (λ later. later.from ≢ m.to) ms × AreLegal pinned (after_move m h) ms

-- where the moves take the object that starts at a place
abbrev pub destination : List Move → ℕ → ℕ
destination [] at = at
destination (m ∷ ms) at = if m.from == at then m.to else destination ms at

-- the objects, each at its destination, in the order in which they stood
abbrev pub carried : List Move → List Object → List Object
carried moves objects = map {A = Object} {B = Object} (λ o. record o { at = destination moves o.at }) objects

-- whose the object is that starts at a place
abbrev pub owner_at : ℕ → List Object → Option ℕ
owner_at at objects = option_map (λ o. o.owner) (object_at at objects)

-- these are the owners of the objects that the moves are of: one for each move, in the moves' order
abbrev pub AreOwners : List Move → List Object → List ℕ → Type 0
AreOwners [] objects [] = ⊤
AreOwners [] objects (owner ∷ owners) = ⊥
AreOwners (m ∷ ms) objects [] = ⊥
AreOwners (m ∷ ms) objects (owner ∷ owners) = (owner_at m.from objects ≡ Some owner) × AreOwners ms objects owners
