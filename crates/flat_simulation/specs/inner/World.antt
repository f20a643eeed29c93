-- What is shared, over named blocks and over flat memory, as proofs keep it.
use Rattle.std.specs.Prelude.{◌≡◌, ℕ, ◌+◌, ◌%◌, ◌^◌, List, Some}
use Rattle.block_store.specs.declared.values.Ptr.{Ptr}
use Rattle.block_store.specs.declared.values.Ptr.TheVariants.{Null, To}
use Rattle.block_store.specs.Blocks.{Block, Blocks, live}
use Rattle.arena_meaning.specs.Arena.{IsConsistent, Storage}
use Rattle.flat_meaning.specs.Names.{Name, name_of, address_for, NamesStand}
use Rattle.flat_simulation.specs.inner.Cells.{MemoryStands}

-- objects and table agree, live blocks have names, and their cells stand for bytes
pub record BlocksStand (names : List Name) (blocks : Blocks) (s : Storage) : Type 0 where
  pub consistent : IsConsistent s
  pub names_stand : NamesStand names blocks s
  pub memory : MemoryStands names blocks s

-- an address is that of a pointer's block, plus its offset in the block, while that lives
abbrev pub GoesTo : List Name → Blocks → Storage → Ptr → (address : ℕ) → Type 0
GoesTo names blocks s Null address = Unit {0}
GoesTo names blocks s (To block offset) address = (b : Block) → live blocks block ≡ Some b → address ≡ (address_for s (name_of names block) + offset) % 2 ^ 64
