-- A thread in the middle of a turn: from the turn's start the source's thread comes to where the machine's is, whatever others do before.
use Rattle.std.specs.Prelude.{◌≡◌, ℕ, ◌+◌, ◌<◌, ◌≤◌, ◌^◌, ◌⊎◌, List, [], ◌∷◌, length, false, Some, Err}
use Rattle.block_store.specs.Blocks.{Block, Blocks, live}
use Rattle.c_tree.specs.TypedForm.{taken}
use Rattle.handle_table.specs.declared.frame.PinSlot.{PinSlot}
use Rattle.handle_table.specs.Table.{translated}
use Rattle.handle_table.specs.Frame.{slot_at}
use Rattle.arena_meaning.specs.Arena.{Storage}
use Rattle.struct_ir.specs.Nodes.{Ir}
use Rattle.struct_ir.specs.Flow.{Flow, Path}
use Rattle.struct_ir.specs.Machine.{Point, Steps, run}
use Rattle.struct_ir.specs.Pins.{looked, lacks_if, listing, facts}
use Rattle.struct_ir.specs.meaning.Blocks.{Own, Fault, blocks_machine}
use Rattle.flat_meaning.specs.Image.{Layout, Image}
use Rattle.flat_meaning.specs.Words.{Words, object_address}
use Rattle.flat_meaning.specs.Allowed.{list_at}
use Rattle.flat_meaning.specs.Names.{Name, plain, name_of, word_for, SlotAgrees}
use Rattle.flat_meaning.specs.Stands.{in_blocks}
use Rattle.flat_simulation.specs.inner.Aged.{Aged}
use Rattle.flat_simulation.specs.inner.Values.{KnownIn}
use Rattle.flat_simulation.specs.inner.Calls.{objects_in, object_size, CallStands}
use Rattle.flat_simulation.specs.inner.Turns.{Far}

-- the same position; and on the way on which the call came from its function's start, each slot into which the last Look was of a base
-- that wasn't assigned since, and that no list since lacks, has what its base points to
pub record StandsIn {P : Type 0} (x : Image P) (p : Ir) (thread : ℕ) (names : List Name) (K : ℕ → Type 0) (s : Storage) (k : Point P Own) (q : Point P Words) : Type 0 where
  pub here : q.at ≡ k.at
  pub call : CallStands x.layout p thread names K k.own q.own
  pub way : List P
  pub path : Path x.flow (x.start q.own.function) way q.at
  pub slots : (slot base : ℕ) → listing (lacks_if slot (list_at (x.flow.here q.at))) (facts x.flow slot way) ≡ looked base false false
      → (base < length q.own.temps) × SlotAgrees names k.own.blocks s (k.own.temps base) (slot_at q.own.slots slot)

-- the turn begins among these blocks, of which so many were made before the thread stopped last
pub data CatchesUpInTurn {P : Type 0} (x : Image P) (p : Ir) (thread before : ℕ) (first : List Name) (blocks : Blocks) (s : Storage) (k : Point P Own) (q : Point P Words) : Type 0 where
  comes : (y : Point P Own) (names : List Name) → Steps x.flow (blocks_machine p) (in_blocks blocks k) y → Far x.layout before first blocks names thread y.own q.own
      → StandsIn x p thread names (KnownIn before (length blocks)) s y q → CatchesUpInTurn x p thread before first blocks s k q
  breaks : (f : Fault) → run x.flow (blocks_machine p) (in_blocks blocks k) ≡ Err f → CatchesUpInTurn x p thread before first blocks s k q

-- from the present blocks, and from any to which they age
abbrev pub InTurn : {P : Type 0} → Image P → Ir → (thread : ℕ) → List Name → Blocks → Storage → Point P Own → Point P Words → Type 0
InTurn x p thread names blocks s k q = (all : List Name) (later : Blocks) → Aged names all blocks later → CatchesUpInTurn x p thread (length blocks) all later s k q

-- ---- what others' turns may do

-- what they made lies outside these addresses, if it is plain and lives
abbrev pub IsAside : List Name → (blocks later : Blocks) → (from to : ℕ) → Type 0
IsAside all blocks later from to = (block a : ℕ) (b : Block) → length blocks ≤ block → live later block ≡ Some b → name_of all block ≡ plain a → (a + taken (length b.cells) ≤ from) ⊎ (to ≤ a)

-- pointers to blocks from before that still live lead where they led
abbrev pub KeepsAddresses : List Name → (blocks later : Blocks) → (old new : Storage) → Type 0
KeepsAddresses all blocks later old new =
    (block offset : ℕ) (b : Block) → block < length blocks → live later block ≡ Some b → offset ≤ length b.cells
    → translated new.table (word_for (name_of all block) offset) ≡ translated old.table (word_for (name_of all block) offset)

-- the word in a slot leads where it led, if it is that of a pointer to a block from before that still lives
abbrev pub KeepsSlot : List Name → (blocks later : Blocks) → (old new : Storage) → PinSlot → Type 0
KeepsSlot all blocks later old new v =
    (block offset : ℕ) (b : Block) → block < length blocks → live later block ≡ Some b → offset ≤ length b.cells → v.word ≡ word_for (name_of all block) offset
    → translated new.table v.word ≡ translated old.table v.word

-- so do the words in the slots of a call that the list at which it stands doesn't lack
abbrev pub KeepsCall : {P : Type 0} → Flow P → List Name → (blocks later : Blocks) → (old new : Storage) → Point P Words → Type 0
KeepsCall C all blocks later old new q = (slot : ℕ) → lacks_if slot (list_at (C.here q.at)) ≡ false → KeepsSlot all blocks later old new (slot_at q.own.slots slot)

-- and in those of each call that waits
abbrev pub KeepCalls : {P : Type 0} → Flow P → List Name → (blocks later : Blocks) → (old new : Storage) → List (Point P Words) → Type 0
KeepCalls C all blocks later old new [] = Unit {0}
KeepCalls C all blocks later old new (q ∷ qs) = KeepsCall C all blocks later old new q × KeepCalls C all blocks later old new qs

-- stack objects of a call lie below all handles
abbrev pub LieLow : Layout → Ir → (thread : ℕ) → Words → Type 0
LieLow y p thread q = (i : ℕ) → i < length (objects_in p q.function) → object_address y thread q i + object_size p q.function i < 2 ^ 63
