-- What a value over named blocks and a word have in common within a turn: as `Agrees`, and what pointers point to was made and is known.
use Rattle.std.specs.Prelude.{◌≡◌, ◌≢◌, ℕ, ◌+◌, ◌^◌, ◌<◌, ◌≤◌, ◌⊎◌, List, length, Some}
use Rattle.block_store.specs.declared.values.Ptr.{Ptr}
use Rattle.block_store.specs.declared.values.Ptr.TheVariants.{Null, To}
use Rattle.block_store.specs.declared.values.Value.TheVariants as values
use Rattle.block_store.specs.Blocks.{Block, Blocks, live}
use Rattle.c_tree.specs.TypedForm.{taken}
use Rattle.flat_store.specs.Flat.{first_address}
use Rattle.struct_ir.specs.meaning.Blocks.{Held, value, unset, missing}
use Rattle.flat_words.specs.Words.{number_word}
use Rattle.flat_meaning.specs.Names.{Name, heap, plain, name_of, word_for, Apart}

-- ---- where blocks lie

-- of so many bytes behind this name words tell offsets apart: a handle has room for the id and the offset, and an address is low
abbrev pub IsPlaced : Name → (size : ℕ) → Type 0
IsPlaced (heap id) size = (id < 2 ^ 31) × (size < 2 ^ 32)
IsPlaced (plain address) size = (first_address ≤ address) × (address + taken size ≤ 2 ^ 32)

-- two blocks lie apart: with two ids, or with a byte between them
abbrev pub LieApart : Name → (size : ℕ) → Name → (other : ℕ) → Type 0
LieApart (heap id) size (heap key) other = id ≢ key
LieApart (heap id) size (plain address) other = Unit {0}
LieApart (plain address) size (heap id) other = Unit {0}
LieApart (plain a) size (plain c) other = Apart a (taken size) c (taken other)

-- K tells which blocks are known. Those that live are placed, and lie apart
pub record Sees (names : List Name) (K : ℕ → Type 0) (blocks : Blocks) : Type 0 where
  pub placed : (block : ℕ) (b : Block) → K block → live blocks block ≡ Some b → IsPlaced (name_of names block) (length b.cells)
  pub apart : (block other : ℕ) (b d : Block) → block ≢ other → K block → K other → live blocks block ≡ Some b → live blocks other ≡ Some d
      → LieApart (name_of names block) (length b.cells) (name_of names other) (length d.cells)

-- ---- values

-- a pointer's block is known and was made; while it lives, the pointer points into it or to its end, and the word is the pointer's
pub record Points (names : List Name) (K : ℕ → Type 0) (blocks : Blocks) (block offset word : ℕ) : Type 0 where
  pub known : K block
  pub made : block < length blocks
  pub within : (b : Block) → live blocks block ≡ Some b → offset ≤ length b.cells
  pub agrees : (b : Block) → live blocks block ≡ Some b → word ≡ word_for (name_of names block) offset

-- null is 0
abbrev pub PointerStands : List Name → (ℕ → Type 0) → Blocks → Ptr → (word : ℕ) → Type 0
PointerStands names K blocks Null word = word ≡ 0
PointerStands names K blocks (To block offset) word = Points names K blocks block offset word

-- a number is its word; an unset register and a missing value agree with any word
abbrev pub Stands : List Name → (ℕ → Type 0) → Blocks → Held → (word : ℕ) → Type 0
Stands names K blocks (value (values.Num n)) word = word ≡ number_word n
Stands names K blocks (value (values.Pointer p)) word = PointerStands names K blocks p word
Stands names K blocks unset word = Unit {0}
Stands names K blocks missing word = Unit {0}

-- each block that was ever made is known
abbrev pub AnyBlock : ℕ → Type 0
AnyBlock block = Unit {0}

-- those before a turn and those that the turn made are known, and not those that others made meanwhile
abbrev pub KnownIn : (before after : ℕ) → ℕ → Type 0
KnownIn before after block = (block < before) ⊎ (after ≤ block)
