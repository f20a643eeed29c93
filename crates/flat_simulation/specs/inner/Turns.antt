-- What a turn has done so far to the blocks among which it began: it wrote nothing, and began and ended objects of its call alone.
use Rattle.std.specs.Prelude.{◌≡◌, ℕ, ◌+◌, ◌<◌, ◌≤◌, ◌⊎◌, List, length, Option, Some}
use Rattle.block_store.specs.declared.values.BlockKind.TheVariants as block_kinds
use Rattle.block_store.specs.declared.values.Cell.TheVariants.{Unknown}
use Rattle.block_store.specs.Blocks.{Block, Blocks, live}
use Rattle.c_tree.specs.TypedForm.{taken}
use Rattle.struct_ir.specs.meaning.Blocks.{Own}
use Rattle.flat_meaning.specs.Image.{Layout, stack_address}
use Rattle.flat_meaning.specs.Words.{Words}
use Rattle.flat_meaning.specs.Names.{Name, heap, plain, name_of, ids_in}
use Rattle.flat_simulation.specs.inner.Aged.{Aged}
use Rattle.flat_simulation.specs.inner.Values.{KnownIn}
use Rattle.flat_simulation.specs.inner.Blocks.{new_block}

-- no known plain block that lives reaches into these addresses, but for these objects
abbrev pub IsClear : List Name → (ℕ → Type 0) → Blocks → (from to : ℕ) → (ℕ → Option ℕ) → Type 0
IsClear names K blocks from to objects =
    (block a : ℕ) (b : Block) → K block → live blocks block ≡ Some b → name_of names block ≡ plain a → (a + taken (length b.cells) ≤ from) ⊎ ((to ≤ a) ⊎ ((i : ℕ) × (objects i ≡ Some block)))

-- before: as many blocks were made when the thread stopped last; first: the names of the blocks among which the turn began
pub record Far (y : Layout) (before : ℕ) (first : List Name) (blocks : Blocks) (names : List Name) (thread : ℕ) (l : Own) (q : Words) : Type 0 where
  pub aged : Aged first names blocks l.blocks
  -- what it made has no id
  pub ids : ids_in names ≡ ids_in first
  -- what lives of those blocks is as it was, and what began since was never written
  pub kept : (block : ℕ) (b : Block) → block < length blocks → live l.blocks block ≡ Some b → live blocks block ≡ Some b
  pub unwritten : (block : ℕ) (b : Block) → length blocks ≤ block → live l.blocks block ≡ Some b → (size : ℕ) × (b ≡ new_block size block_kinds.Local Unknown)
  -- no heap block has ended, and what began and lives is an object of the call
  pub heaps : (block id : ℕ) (b : Block) → name_of first block ≡ heap id → live blocks block ≡ Some b → live l.blocks block ≡ Some b
  pub begun : (block : ℕ) (b : Block) → length blocks ≤ block → live l.blocks block ≡ Some b → (i : ℕ) × (l.objects i ≡ Some block)
  -- the rest of the thread's stack is free
  pub clear : IsClear names (KnownIn before (length blocks)) l.blocks (stack_address y thread + q.below.stack) (stack_address y thread + y.limits.stack) l.objects
