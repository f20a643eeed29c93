-- What a step touches is all that it touches: no byte changes but those that it writes, and no byte matters to it but those that it reads.
use Rattle.std.specs.Prelude.{◌≡◌, ◌⊎◌, ℕ, ◌*◌, List, [], ◌∷◌, ◌++◌, length, map, true, false}
use Rattle.flat_store.specs.Flat.{HasByte, byte_at}
use Rattle.sub_heaps.specs.SubHeaps.{rounded, FitsAt}
use Rattle.arena_meaning.specs.Arena.{Storage, IsConsistent}
use Rattle.struct_ir.specs.Nodes.{Action, calloc, realloc, step}
use Rattle.struct_ir.specs.Flow.{Here, does}
use Rattle.struct_ir.specs.Linear.{Spot}
use Rattle.flat_meaning.specs.Accesses.{Choice, plain, got}
use Rattle.flat_meaning.specs.Allowed.{MayAct, MayBeGiven}
use Rattle.flat_meaning.specs.Effects.{Effect, act_effect, look_effect, serve_effect}
use Rattle.flat_meaning.specs.Image.{Image}
use Rattle.flat_meaning.specs.Memory.{Memory, with_storage}
use Rattle.flat_meaning.specs.Stages.{Stage, thread_at}
use Rattle.flat_meaning.specs.Touched.{Touched, Touches, objects_touched_at, touched_at}
use Rattle.flat_meaning.specs.Words.{Words, word_at}

-- the same but for its bytes
abbrev pub with_other : Memory → (bytes : List ℕ) → Memory
with_other m bytes = with_storage m (record m.storage { bytes = bytes })

-- what the step at which a stage stands reads and writes with this choice, in the objects of a calloc or realloc too
abbrev pub touched_there : Image Spot → Memory → Choice → Stage Spot → List Touched
touched_there y m choice stage = let p = (thread_at y stage).top in objects_touched_at choice p.own m (y.flow.here p.at) ++ touched_at y.layout p.own m (y.flow.here p.at)

-- where an object of so many bytes is got, objects and table agree, and it fits at its place
abbrev pub HasRoom : Storage → Choice → (bytes : ℕ) → Type 0
HasRoom s (got id place) bytes = IsConsistent s × FitsAt s.heaps (rounded bytes) place
HasRoom s choice bytes = Unit {0}

-- so of the object of a calloc or realloc; of another action nothing is asked
abbrev pub HasItsRoom : Storage → Choice → Action → List ℕ → Type 0
HasItsRoom s choice calloc (count ∷ size ∷ []) = HasRoom s choice (count * size)
HasItsRoom s choice realloc (word ∷ size ∷ []) = HasRoom s choice size
HasItsRoom s choice action words = Unit {0}

-- and of the step at which a call stands
abbrev pub HasRoomHere : Storage → Choice → Words → Here → Type 0
HasRoomHere s choice l (does place (step x)) = HasItsRoom s choice x.action (map (word_at l) x.temps)
HasRoomHere s choice l here = Unit {0}

-- and a stage
abbrev pub HasRoomThere : Image Spot → Memory → Choice → Stage Spot → Type 0
HasRoomThere y m choice stage = let p = (thread_at y stage).top in HasRoomHere m.storage choice p.own (y.flow.here p.at)

-- as many bytes, of which each is as it was that isn't written
pub record ChangesWritten (touched : List Touched) (old new : List ℕ) : Type 0 where
  pub size : length new ≡ length old
  pub others : (address : ℕ) → HasByte old address → ¬ Touches touched true address → byte_at new address ≡ byte_at old address

-- as many bytes, of which each is the same that is read
pub record ReadsSame (touched : List Touched) (old other : List ℕ) : Type 0 where
  pub size : length other ≡ length old
  pub same : (address : ℕ) → HasByte old address → Touches touched false address → byte_at other address ≡ byte_at old address

-- the same came of memories with these bytes and with those: the same but for bytes, of which each is the same now, or stayed in both
pub record SameMemory (old other : List ℕ) (m n : Memory) : Type 0 where
  pub is : n ≡ with_other m n.storage.bytes
  pub bytes : (address : ℕ) → HasByte old address
      → (byte_at n.storage.bytes address ≡ byte_at m.storage.bytes address) ⊎ ((byte_at m.storage.bytes address ≡ byte_at old address) × (byte_at n.storage.bytes address ≡ byte_at other address))

-- and the same of the thread and of the run
pub record SameEffect (old other : List ℕ) (e f : Effect Spot) : Type 0 where
  pub stage : f.stage ≡ e.stage
  pub end : f.end ≡ e.end
  pub memory : SameMemory old other e.memory f.memory

-- of what is done to a memory: only the written bytes change, and whatever the bytes that aren't read, the same comes of it
pub record TouchesAlone (touched : List Touched) (effect : Memory → Effect Spot) (m : Memory) : Type 0 where
  pub writes : ChangesWritten touched m.storage.bytes (effect m).memory.storage.bytes
  pub reads : (other : List ℕ) → ReadsSame touched m.storage.bytes other → SameEffect m.storage.bytes other (effect m) (effect (with_other m other))

-- a thread's step, with whatever is chosen for it, its Look, and an allocation that is served; a calloc or realloc that gets an object gets it
-- where it fits
pub record StepTouchesAlone (y : Image Spot) (thread : ℕ) (choice : Choice) (stage : Stage Spot) (m : Memory) : Type 0 where
  pub acts : HasRoomThere y m choice stage → TouchesAlone (touched_there y m choice stage) (act_effect y thread choice stage) m
  pub looks : TouchesAlone (touched_there y m plain stage) (look_effect y thread stage) m
  pub serves : HasRoomThere y m choice stage → TouchesAlone (touched_there y m choice stage) (serve_effect y thread choice stage) m

-- whatever the code, the thread, its stage, the choice and the memory
abbrev pub StepsTouchAlone : Type 0
StepsTouchAlone = (y : Image Spot) (thread : ℕ) (choice : Choice) (stage : Stage Spot) (m : Memory) → StepTouchesAlone y thread choice stage m

-- a calloc or realloc has room for each object that it may get, at its own step or served at a barrier
pub record HaveRoom : Type 0 where
  pub acts : (s : Storage) (l : Words) (choice : Choice) (h : Here) → IsConsistent s → MayAct s l choice h → HasRoomHere s choice l h
  pub serves : (s : Storage) (l : Words) (choice : Choice) (h : Here) → IsConsistent s → MayBeGiven s l choice h → HasRoomHere s choice l h
