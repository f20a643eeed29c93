-- Pointers to blocks that live lead where they led: behind writes, mallocs and frees.
use Rattle.std.proofs.Common.{◌≡◌, ℕ, ◌+◌, ◌*◌, ◌^◌, ◌<◌, ◌≤◌, false, List, length, Option, Some, None, refl, sym, ap, ◌∙◌, inl, inr, arith, get_or-set_other}
use Rattle.std.specs.Prelude.{if◌then◌else◌, nat_le}
use Rattle.std.proofs.lemmas.Bool.Decides.{nat_tests}
use Rattle.block_store.specs.Blocks.{Block, Blocks}
use Rattle.handle_words.specs.Handle.{id_of, offset_of}
use Rattle.handle_table.specs.Table.{IsFree, address_of, translated, reached}
use Rattle.sub_heaps.specs.SubHeaps.{rounded, FitsAt}
use Rattle.arena_meaning.specs.Arena.{Storage}
use Rattle.flat_meaning.specs.Memory.{Memory}
use Rattle.flat_meaning.specs.Names.{Name, heap, plain, name_of, word_for}
use Rattle.flat_simulation.specs.inner.Values.{IsPlaced}
use Rattle.flat_simulation.specs.inner.Lags.{KeepsAddresses}
use Rattle.flat_simulation.specs.inner.World.{BlocksStand}
use Rattle.flat_simulation.proofs.Placed.{sees_all}
use Rattle.flat_simulation.proofs.Heap as got
use Rattle.flat_simulation.proofs.Frees.{IsFreed}

-- a word of an id that leads where it led does so, too
pub translated_alike : (old new : List (Option ℕ)) (n : Name) (size offset : ℕ) → IsPlaced n size → offset ≤ size → ((key : ℕ) → n ≡ heap key → address_of new key ≡ address_of old key)
    → translated new (word_for n offset) ≡ translated old (word_for n offset)
translated_alike old new (heap key) size offset placed within same =
    let w : ℕ = 2 ^ 63 + key * 2 ^ 32 + offset in
    let one : id_of w ≡ key = omega (arith, placed.0, placed.1) in
    let id : address_of new (id_of w) ≡ address_of old (id_of w) = ap (address_of new) one ∙ same key refl ∙ ap (address_of old) (sym one) in
    ap (λ a. if nat_le (2 ^ 63) w then reached a (offset_of w) else w) id
translated_alike old new (plain a) size offset placed within same =
    let low : nat_le (2 ^ 63) (a + offset) ≡ false = grind (arith, nat_tests, placed.1) in
    ap (λ b. if b then reached (address_of new (id_of (a + offset))) (offset_of (a + offset)) else a + offset) low
    ∙ sym (ap (λ b. if b then reached (address_of old (id_of (a + offset))) (offset_of (a + offset)) else a + offset) low)

-- the table is as it was
pub keeps_table : (names : List Name) (blocks later : Blocks) (old new : Storage) → new.table ≡ old.table → KeepsAddresses names blocks later old new
keeps_table names blocks later old new same block offset b below e within = ap (λ t. translated t (word_for (name_of names block) offset)) same

-- an object more
module _ (names : List Name) (blocks : Blocks) (s : Storage) (stand : BlocksStand names blocks s) (id at size : ℕ) (free : IsFree s.table id) (fits : FitsAt s.heaps (rounded size) at) where
  abbrev all : List Name
  all = got.named names blocks s stand id at size free fits

  abbrev new : Storage
  new = got.now names blocks s stand id at size free fits

  keeps_old : (block offset : ℕ) (b : Block) → block < length blocks → offset ≤ length b.cells → got.Which names blocks s stand id at size free fits block b
      → translated new.table (word_for (name_of all block) offset) ≡ translated s.table (word_for (name_of all block) offset)
  keeps_old block offset b below within (inl is) = absurd (omega (arith, is.0, below))
  keeps_old block offset b below within (inr old) =
      let name = got.old_name names blocks s stand id at size free fits block b old in
      let sees = sees_all names blocks s stand.consistent stand.names_stand in
      ap (λ n. translated new.table (word_for n offset)) name
      ∙ translated_alike s.table new.table (name_of names block) (length b.cells) offset (sees.placed block b tt old) within
      (λ key n. get_or-set_other s.table id key (Some (s.start + at)) None (got.not_named names blocks s stand id at size free fits block key b old n))
      ∙ ap (λ n. translated s.table (word_for n offset)) (sym name)

  pub keeps_got : KeepsAddresses all blocks (got.later names blocks s stand id at size free fits) s new
  keeps_got block offset b below e within = keeps_old block offset b below within (got.which names blocks s stand id at size free fits block b e)

-- an object less
pub keeps_freed : (names : List Name) (blocks : Blocks) (m : Memory) (stand : BlocksStand names blocks m.storage) (word : ℕ) (later : Blocks) (freed : IsFreed names blocks m stand word later) → KeepsAddresses names blocks later m.storage freed.storage
keeps_freed names blocks m stand word later freed block offset b below e within =
    let sees = sees_all names later freed.storage freed.stands.consistent freed.stands.names_stand in
    translated_alike m.storage.table freed.storage.table (name_of names block) (length b.cells) offset (sees.placed block b tt e) within (λ key n. freed.others block key b e n)
