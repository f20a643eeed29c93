-- What cells of named blocks and bytes have in common, as proofs keep it: as `ByteAgrees`, and what pointers in memory point to was made.
use Rattle.std.specs.Prelude.{◌≡◌, ℕ, ◌+◌, ◌<◌, ◌≤◌, List, [], ◌∷◌, length, slice_get, slice_index, Some}
use Rattle.ak_words.specs.Bytes.{low_bytes}
use Rattle.block_store.specs.declared.values.Cell.{Cell}
use Rattle.block_store.specs.declared.values.Cell.TheVariants.{Unknown, Byte, Part}
use Rattle.block_store.specs.Blocks.{Block, Blocks, live}
use Rattle.flat_store.specs.Flat.{byte_at}
use Rattle.arena_meaning.specs.Arena.{Storage}
use Rattle.flat_meaning.specs.Names.{Name, name_of, word_for, address_for}

-- a byte of a pointer, whose block was made; while that lives, the pointer points into it or to its end, and the byte is one of its word
pub record PartStands (names : List Name) (blocks : Blocks) (block offset part byte : ℕ) : Type 0 where
  pub made : block < length blocks
  pub within : (b : Block) → live blocks block ≡ Some b → offset ≤ length b.cells
  pub agrees : (b : Block) → live blocks block ≡ Some b → byte ≡ slice_index (low_bytes 8 (word_for (name_of names block) offset)) part

-- a byte of a number is itself, and one that was never written agrees with any byte
abbrev pub CellStands : List Name → Blocks → Cell → (byte : ℕ) → Type 0
CellStands names blocks Unknown byte = Unit {0}
CellStands names blocks (Byte n) byte = byte ≡ n
CellStands names blocks (Part block offset part) byte = PartStands names blocks block offset part byte

-- one by one
abbrev pub RowStands : List Name → Blocks → List Cell → List ℕ → Type 0
RowStands names blocks [] [] = Unit {0}
RowStands names blocks [] (byte ∷ bytes) = ⊥
RowStands names blocks (c ∷ cells) [] = ⊥
RowStands names blocks (c ∷ cells) (byte ∷ bytes) = CellStands names blocks c byte × RowStands names blocks cells bytes

-- each cell of a live block, and the byte at the block's address plus its index
abbrev pub MemoryStands : List Name → Blocks → Storage → Type 0
MemoryStands names blocks s =
    (block index : ℕ) (b : Block) (c : Cell) → live blocks block ≡ Some b → slice_get b.cells index ≡ Some c
    → CellStands names blocks c (byte_at s.bytes (address_for s (name_of names block) + index))
