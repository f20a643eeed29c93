-- The spans of moves in order of place: where each starts from and where it goes, with its turn; and when moves are legal, told by them.
use Rattle.std.specs.Prelude.{◌≡◌, ℕ, suc, ◌^◌, ◌<◌, ◌≤◌, ◌⊎◌, ⊤, Bool, false, List, [], ◌∷◌, length, IsSomeAnd}
use Rattle.std.specs.List.{All}
use Rattle.sub_heaps.specs.declared.objects.Object.{Object}
use Rattle.sub_heaps.specs.ByPlace.{end_of, object_at, with_object}
use Rattle.sub_heaps.specs.SubHeaps.{SubHeaps, LiesInOne, IsApartFrom}
use Rattle.sub_heaps.specs.declared.moves.Move.{Move}

-- the first byte of the object that a move is of, with the move's turn
abbrev pub origin : ℕ → Move → Object
origin turn m = record { at = m.from; size = 1; owner = turn }

-- the bytes to which a move goes, with its turn
abbrev pub target : ℕ → Move → Object
target turn m = record { at = m.to; size = m.size; owner = turn }

-- spans, and one more for each move, in order of place; the first of these moves has this turn
abbrev pub spans_after : (span : ℕ → Move → Object) → (turn : ℕ) → List Object → List Move → List Object
spans_after span turn spans [] = spans
spans_after span turn spans (m ∷ ms) = spans_after span (suc turn) (with_object (span turn m) spans) ms

-- the first bytes of the objects that the moves are of, in order of place
abbrev pub origins_of : List Move → List Object
origins_of moves = spans_after origin 0 [] moves

-- the bytes to which the moves go, in order of place
abbrev pub targets_of : List Move → List Object
targets_of moves = spans_after target 0 [] moves

-- no span starts below the one before it
abbrev pub AreSorted : (low : ℕ) → List Object → Type 0
AreSorted low [] = ⊤
AreSorted low (s ∷ ss) = (low ≤ s.at) × AreSorted s.at ss

-- from a place on, each span starts at or above the end of the one before it
abbrev pub AreInOrder : (low : ℕ) → List Object → Type 0
AreInOrder low [] = ⊤
AreInOrder low (s ∷ ss) = (low ≤ s.at) × AreInOrder (end_of s) ss

-- a target overlaps an object nowhere, unless a move takes that away no later than the target is reached
abbrev pub IsClearOf : (origins : List Object) → (to : Object) → Object → Type 0
IsClearOf origins to o = IsApartFrom to.size to.at o ⊎ IsSomeAnd (object_at o.at origins) (λ from. from.owner ≤ to.owner)

-- a move is of an unpinned object of its size, and ends in one sub-heap
pub record IsWithin (pinned : ℕ → Bool) (h : SubHeaps) (m : Move) : Type 0 where
  pub object : IsSomeAnd (object_at m.from h.objects) (λ o. o.size ≡ m.size)
  pub unpinned : pinned m.from ≡ false
  pub inside : LiesInOne h.count h.size m.size m.to

-- moves that are legal, told from the sub-heaps as they stood before all: no two are of one object or overlap where they go, and each keeps clear of the objects that are still there
pub record KeepClear (pinned : ℕ → Bool) (h : SubHeaps) (ms : List Move) : Type 0 where
  pub within : All (IsWithin pinned h) ms
  pub origins : AreInOrder 0 (origins_of ms)
  pub targets : AreInOrder 0 (targets_of ms)
  pub clear : All (λ to. All (IsClearOf (origins_of ms) to) h.objects) (targets_of ms)

-- what a plan keeps beside its moves: their spans, and the memory for as many as it has room for
pub record IsKept (room : ℕ) (moves : List Move) (origins targets : List Object) (for_moves for_origins for_targets : ℕ) : Type 0 where
  pub few : length moves ≤ room
  pub bounded : room < 2 ^ 32
  pub in_order_from : origins ≡ origins_of moves
  pub in_order_to : targets ≡ targets_of moves
  pub moves_fit : room ≤ for_moves
  pub origins_fit : room ≤ for_origins
  pub targets_fit : room ≤ for_targets
