-- Sub-heaps whose objects have slid down, and the moves that slide them. `pinned` tells the places of pinned objects.
use Rattle.std.specs.Prelude.{◌≡◌, ℕ, ◌-◌, ◌/◌, ◌%◌, ◌<◌, ◌≢◌, ◌⊎◌, max, Bool, false, ◌&&◌, if◌then◌else◌, ⊤, List, [], ◌∷◌, is_some}
use Rattle.std.specs.List.{All, AllPairs}
use Rattle.sub_heaps.specs.declared.objects.Object.{Object}
use Rattle.sub_heaps.specs.ByPlace.{end_of, object_at}
use Rattle.sub_heaps.specs.SubHeaps.{SubHeaps}
use Rattle.sub_heaps.specs.declared.moves.Move.{Move}
use Rattle.sub_heaps.specs.Moving.{AreLegal, after_moves, carried}

-- where an object slides to above a place: a pinned one stays, any other goes to that place or to its sub-heap's start, whichever is higher
abbrev pub slid_place : (pinned : ℕ → Bool) → (size below : ℕ) → Object → ℕ
slid_place pinned size below o = if pinned o.at then o.at else max (o.at - o.at % size) below

-- each unpinned object starts where its lower neighbour ends, here at `below`, or at its sub-heap's start
abbrev pub HaveSlid : (pinned : ℕ → Bool) → (size below : ℕ) → List Object → Type 0
HaveSlid pinned size below [] = ⊤
HaveSlid pinned size below (o ∷ os) = (pinned o.at ≡ false → (o.at ≡ below) ⊎ (o.at % size ≡ 0)) × HaveSlid pinned size (end_of o) os

-- each unpinned object of the sub-heaps does
abbrev pub IsSlid : (pinned : ℕ → Bool) → SubHeaps → Type 0
IsSlid pinned h = HaveSlid pinned h.size 0 h.objects

-- the places at which pinned objects stand: a pin where no object starts pins nothing
abbrev pub holds : (pinned : ℕ → Bool) → List Object → ℕ → Bool
holds pinned objects at = pinned at && is_some (object_at at objects)

-- the moves that slide: legal ones in rising order, none to where the object stands, each within its sub-heap, after which the objects keep their order and have slid
pub record IsSlide (pinned : ℕ → Bool) (h : SubHeaps) (moves : List Move) : Type 0 where
  pub legal : AreLegal pinned h moves
  pub rising : AllPairs (λ a b. a.from < b.from) moves
  pub moving : All (λ m. m.to ≢ m.from) moves
  pub same_sub_heap : All (λ m. m.to / h.size ≡ m.from / h.size) moves
  pub same_order : (after_moves moves h).objects ≡ carried moves h.objects
  pub slid : IsSlid (holds pinned h.objects) (after_moves moves h)
