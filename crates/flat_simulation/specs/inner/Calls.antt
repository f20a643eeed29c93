-- What a call over named blocks and one over words have in common within a turn.
use Rattle.std.specs.Prelude.{◌≡◌, ℕ, ◌+◌, ◌<◌, List, length, slice_get, Some, false}
use Rattle.block_store.specs.Blocks.{Block, Blocks, live, is_heap}
use Rattle.struct_ir.specs.Nodes.{StackObject, Ir}
use Rattle.struct_ir.specs.meaning.Blocks.{Own, objects_of, size_of}
use Rattle.flat_meaning.specs.Image.{Layout, global_address, literal_address}
use Rattle.flat_meaning.specs.Words.{Words, word_at, object_address}
use Rattle.flat_meaning.specs.Names.{Name, plain, name_of}
use Rattle.flat_simulation.specs.inner.Values.{Stands}

-- a block that was made and is known, and lies at this address
pub record LiesThere (names : List Name) (K : ℕ → Type 0) (blocks : Blocks) (block address : ℕ) : Type 0 where
  pub known : K block
  pub made : block < length blocks
  pub at : name_of names block ≡ plain address

-- globals and literals lie where they were loaded
pub record DataStands (y : Layout) (p : Ir) (names : List Name) (K : ℕ → Type 0) (blocks : Blocks) : Type 0 where
  pub globals : (n : ℕ) → n < length p.globals → LiesThere names K blocks n (global_address y n)
  pub literals : (n : ℕ) → n < length p.literals → LiesThere names K blocks (length p.globals + n) (literal_address y n)

-- the stack objects of a function
abbrev pub objects_in : Ir → (function : ℕ) → List StackObject
objects_in p function = objects_of (slice_get p.funcs function)

-- and the size of one
abbrev pub object_size : Ir → (function i : ℕ) → ℕ
object_size p function i = size_of (slice_get (objects_in p function) i)

-- a stack object that has begun has a block at its address, of its size while that lives
pub record IsObject (p : Ir) (names : List Name) (K : ℕ → Type 0) (blocks : Blocks) (function i block address : ℕ) : Type 0 where
  pub index : i < length (objects_in p function)
  pub there : LiesThere names K blocks block address
  pub size : (b : Block) → live blocks block ≡ Some b → length b.cells ≡ object_size p function i
  pub kind : (b : Block) → live blocks block ≡ Some b → is_heap b.kind ≡ false

-- the same function, registers that agree, and each stack object that has begun at its address
pub record CallStands (y : Layout) (p : Ir) (thread : ℕ) (names : List Name) (K : ℕ → Type 0) (l : Own) (q : Words) : Type 0 where
  pub function : q.function ≡ l.function
  pub temps : (r : ℕ) → r < length q.temps → Stands names K l.blocks (l.temps r) (word_at q r)
  pub objects : (i block : ℕ) → l.objects i ≡ Some block → IsObject p names K l.blocks l.function i block (object_address y thread q i)
