-- Values that stand for words still do when the blocks have aged; and what stands agrees.
use Rattle.std.proofs.Common.{◌≡◌, ℕ, ◌<◌, ◌≤◌, List, length, Option, Some, None, refl, sym, ap, subst, ◌∙◌, arith, slice_index}
use Rattle.std.specs.Prelude.{IsSome}
use Rattle.ak_words.specs.Bytes.{low_bytes}
use Rattle.block_store.specs.declared.values.Cell.{Cell}
use Rattle.block_store.specs.declared.values.Cell.TheVariants.{Unknown, Byte, Part}
use Rattle.block_store.specs.declared.values.Ptr.{Ptr}
use Rattle.block_store.specs.declared.values.Ptr.TheVariants.{Null, To}
use Rattle.block_store.specs.declared.values.Value.TheVariants as values
use Rattle.block_store.specs.Blocks.{Block, Blocks, live}
use Rattle.struct_ir.specs.meaning.Blocks.{Held, value, unset, missing}
use Rattle.arena_meaning.specs.Arena.{Storage}
use Rattle.flat_meaning.specs.Names.{Name, word_for, PointerAgrees, Agrees, ByteAgrees, CellsStand}
use Rattle.flat_simulation.specs.inner.Aged.{Aged}
use Rattle.flat_simulation.specs.inner.Values.{Points, PointerStands, Stands}
use Rattle.flat_simulation.specs.inner.Cells.{CellStands, MemoryStands}
use Rattle.flat_simulation.proofs.Blocks.{aged_name, aged_more}

-- ---- later

module _ (names all : List Name) (blocks later : Blocks) (aged : Aged names all blocks later) where
  -- a block that lives then lived, of the same size
  within_later : (block offset : ℕ) → block < length blocks → ((b : Block) → live blocks block ≡ Some b → offset ≤ length b.cells) → (b : Block) → live later block ≡ Some b → offset ≤ length b.cells
  within_later block offset made within b e = let before = aged.ages.lives block b made e in subst (λ n. offset ≤ n) before.3 (within before.0 before.1)

  pub points_later : (K J : ℕ → Type 0) → ((block : ℕ) → block < length blocks → K block → J block) → (block offset word : ℕ) → Points names K blocks block offset word → Points all J later block offset word
  points_later K J more block offset word points = record {
    known = more block points.made points.known;
    made = omega (arith, points.made, aged_more names all blocks later aged);
    within = within_later block offset points.made points.within;
    agrees = λ b e. (let before = aged.ages.lives block b points.made e in points.agrees before.0 before.1 ∙ ap (λ n. word_for n offset) (sym (aged_name names all blocks later aged block points.made)));
  }

  pub pointer_later : (K J : ℕ → Type 0) → ((block : ℕ) → block < length blocks → K block → J block) → (p : Ptr) (word : ℕ) → PointerStands names K blocks p word → PointerStands all J later p word
  pointer_later K J more Null word stands = stands
  pointer_later K J more (To block offset) word stands = points_later K J more block offset word stands

  pub stands_later : (K J : ℕ → Type 0) → ((block : ℕ) → block < length blocks → K block → J block) → (h : Held) (word : ℕ) → Stands names K blocks h word → Stands all J later h word
  stands_later K J more (value (values.Num n)) word stands = stands
  stands_later K J more (value (values.Pointer p)) word stands = pointer_later K J more p word stands
  stands_later K J more unset word stands = tt
  stands_later K J more missing word stands = tt

  pub cell_later : (c : Cell) (byte : ℕ) → CellStands names blocks c byte → CellStands all later c byte
  cell_later Unknown byte stands = tt
  cell_later (Byte n) byte stands = stands
  cell_later (Part block offset part) byte stands = record {
    made = omega (arith, stands.made, aged_more names all blocks later aged);
    within = within_later block offset stands.made stands.within;
    agrees = λ b e. (let before = aged.ages.lives block b stands.made e in
        stands.agrees before.0 before.1 ∙ ap (λ n. slice_index (low_bytes 8 (word_for n offset)) part) (sym (aged_name names all blocks later aged block stands.made)));
  }

-- ---- what stands agrees

there : (o : Option Block) → IsSome o → (b : Block) × (o ≡ Some b)
there (Some b) e = (b, refl)
there None e = absurd cc

module _ (names : List Name) (blocks : Blocks) where
  pub pointer_agrees : (K : ℕ → Type 0) (p : Ptr) (word : ℕ) → PointerStands names K blocks p word → PointerAgrees names blocks p word
  pointer_agrees K Null word stands = stands
  pointer_agrees K (To block offset) word stands = λ lives. (let b = there (live blocks block) lives in stands.agrees b.0 b.1)

  pub agrees : (K : ℕ → Type 0) (h : Held) (word : ℕ) → Stands names K blocks h word → Agrees names blocks h word
  agrees K (value (values.Num n)) word stands = stands
  agrees K (value (values.Pointer p)) word stands = pointer_agrees K p word stands
  agrees K unset word stands = tt
  agrees K missing word stands = tt

  pub byte_agrees : (c : Cell) (byte : ℕ) → CellStands names blocks c byte → ByteAgrees names blocks c byte
  byte_agrees Unknown byte stands = tt
  byte_agrees (Byte n) byte stands = stands
  byte_agrees (Part block offset part) byte stands = λ lives. (let b = there (live blocks block) lives in stands.agrees b.0 b.1)

  pub cells_agree : (s : Storage) → MemoryStands names blocks s → CellsStand names blocks s
  cells_agree s stands block index b c lives at = byte_agrees c _ (stands block index b c lives at)
