-- The operands of an action over named blocks and over words, and what it touches and reaches.
use Rattle.std.specs.Prelude.{◌≡◌, ◌≢◌, ℕ, List, [], ◌∷◌, Some}
use Rattle.block_store.specs.declared.values.Ptr.{Ptr}
use Rattle.block_store.specs.declared.values.Ptr.TheVariants.{Null, To}
use Rattle.block_store.specs.declared.values.Value.{Value}
use Rattle.block_store.specs.Blocks.{Block, Blocks, live}
use Rattle.block_store.specs.Actions as source
use Rattle.block_store.specs.Actions.{World, reads_of}
use Rattle.arena_meaning.specs.Arena.{Storage}
use Rattle.struct_ir.specs.meaning.Blocks.{value}
use Rattle.flat_meaning.specs.Words.{Target}
use Rattle.flat_meaning.specs.Names.{Name}
use Rattle.flat_meaning.specs.Touched.{Touched}
use Rattle.flat_meaning.specs.Reaching.{StaysInBlocks}
use Rattle.flat_simulation.specs.inner.Values.{AnyBlock, Stands}
use Rattle.flat_simulation.specs.inner.World.{GoesTo}

-- where an access goes: its address is that of its pointer; and the word in its base is null where the pointer is, and nowhere else
pub record TargetStands (names : List Name) (blocks : Blocks) (s : Storage) (p : Ptr) (a : Target) : Type 0 where
  pub goes : GoesTo names blocks s p a.address
  pub null : p ≡ Null → a.pointer ≡ 0
  pub some : (block offset : ℕ) (b : Block) → p ≡ To block offset → live blocks block ≡ Some b → a.pointer ≢ 0

-- one by one
abbrev pub TargetsStand : List Name → Blocks → Storage → List Ptr → List Target → Type 0
TargetsStand names blocks s [] [] = Unit {0}
TargetsStand names blocks s [] (a ∷ rest) = ⊥
TargetsStand names blocks s (p ∷ ps) [] = ⊥
TargetsStand names blocks s (p ∷ ps) (a ∷ rest) = TargetStands names blocks s p a × TargetsStand names blocks s ps rest

-- values stand for words, one by one
abbrev pub WordsStand : List Name → Blocks → List Value → List ℕ → Type 0
WordsStand names blocks [] [] = Unit {0}
WordsStand names blocks [] (w ∷ ws) = ⊥
WordsStand names blocks (v ∷ vs) [] = ⊥
WordsStand names blocks (v ∷ vs) (w ∷ ws) = Stands names AnyBlock blocks (value v) w × WordsStand names blocks vs ws

-- where an action is done or waits, what is touched is what it reaches
abbrev pub StaysIf : List Name → Storage → List Touched → World → source.SharedAction → source.Done → Type 0
StaysIf names s touched w action (source.went v to) = StaysInBlocks names s touched to.reached
StaysIf names s touched w action source.blocked = StaysInBlocks names s touched (reads_of w action)
StaysIf names s touched w action source.unfit = Unit {0}
StaysIf names s touched w action (source.broke rule) = Unit {0}
