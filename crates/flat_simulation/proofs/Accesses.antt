-- Loads and stores that break no rule, over named blocks and over bytes.
use Rattle.std.proofs.Common.{◌≡◌, ℕ, ◌+◌, ◌%◌, ◌<◌, ◌≤◌, Bool, true, false, ◌==◌, List, length, Option, Some, None, Result, Ok, Err, is_some, inl, inr, refl, sym, ap, subst, ◌∙◌, arith, length-set}
use Rattle.std.specs.Prelude.{if◌then◌else◌, nat_le}
use Rattle.std.proofs.lemmas.Bool.{leb-true, cases_eq}
use Rattle.std.proofs.Math.Nat.{mod-eq_of_lt}
use Rattle.ak_words.specs.declared.rule.Rule.{Rule}
use Rattle.ak_words.specs.declared.rule.Rule.TheVariants.{C5, C6, C12}
use Rattle.ak_words.specs.Bytes.{low_bytes}
use Rattle.ak_words.proofs.Bytes.{length-low_bytes}
use Rattle.ak_words.proofs.Types.{width_bounds}
use Rattle.block_store.specs.declared.values.Access.{Access}
use Rattle.block_store.specs.declared.values.Access.TheVariants as accesses
use Rattle.block_store.specs.declared.values.Cell.{Cell}
use Rattle.block_store.specs.declared.values.Cell.TheVariants.{Unknown}
use Rattle.block_store.specs.declared.values.Ptr.{Ptr}
use Rattle.block_store.specs.declared.values.Ptr.TheVariants.{Null, To}
use Rattle.block_store.specs.declared.values.Value.{Value}
use Rattle.block_store.specs.Blocks as source
use Rattle.block_store.specs.Blocks.{Block, Blocks, live, is_literal, Range, range_in, range_at, spot_at, cells_at, read_at, with_cells_at, written_at}
use Rattle.block_store.specs.Cells.{size_of, access_of, cells_of, read}
use Rattle.flat_store.specs.Flat.{bytes_from, with_bytes, first_outside}
use Rattle.arena_meaning.specs.Arena.{Storage}
use Rattle.struct_ir.specs.meaning.Blocks.{value}
use Rattle.ak_trace.specs.declared.endings.TrapKind.TheVariants as kinds
use Rattle.flat_meaning.specs.Words.{Target}
use Rattle.flat_meaning.specs.Memory.{Memory, written}
use Rattle.flat_meaning.specs.Accesses as words
use Rattle.flat_meaning.specs.Accesses.{went, within, word_read}
use Rattle.flat_meaning.specs.Names.{Name, name_of, address_for, Lives}
use Rattle.flat_simulation.specs.inner.Aged.{Aged}
use Rattle.flat_simulation.specs.inner.Values.{AnyBlock, Stands, Sees}
use Rattle.flat_simulation.specs.inner.Cells.{RowStands}
use Rattle.flat_simulation.specs.inner.World.{BlocksStand, GoesTo}
use Rattle.flat_simulation.proofs.Actions.{written_agrees}
use Rattle.flat_simulation.proofs.Blocks.{live_in, written_block, written_same, written_other, aged_written}
use Rattle.flat_simulation.proofs.Names.{names_alike}
use Rattle.flat_simulation.proofs.Cells.{stored_stands, read_stands}
use Rattle.flat_simulation.proofs.Rows.{row_length, part_length}
use Rattle.flat_simulation.proofs.Placed.{in_bytes, sees_all}
use Rattle.flat_simulation.proofs.Memory.{none_outside, row_read, memory_written}

-- ---- a range that was found

-- it is in a live block
pub record IsFound (blocks : Blocks) (size : ℕ) (p : Ptr) (at : Range) : Type 0 where
  pub is : p ≡ To at.name at.offset
  pub lives : live blocks at.name ≡ Some at.block
  pub within : at.offset + size ≤ length at.block.cells

found_if : (blocks : Blocks) (size name offset : ℕ) (b : Block) (inside aligned : Bool) (at : Range) → live blocks name ≡ Some b → nat_le (offset + size) (length b.cells) ≡ inside
    → (if inside then (if aligned then Ok (record { name = name; block = b; offset = offset }) else Err C6) else Err C5) ≡ Ok at → IsFound blocks size (To name offset) at
found_if blocks size name offset b true true at lives inside e =
    let is : (record { name = name; block = b; offset = offset }) ≡ at = cc in
    subst (IsFound blocks size (To name offset)) is (record { is = refl; lives = lives; within = leb-true (offset + size) (length b.cells) inside })
found_if blocks size name offset b true false at lives inside e = absurd cc
found_if blocks size name offset b false aligned at lives inside e = absurd cc

found_in : (blocks : Blocks) (size align name offset : ℕ) (o : Option Block) (at : Range) → live blocks name ≡ o → range_in size align name offset o ≡ Ok at → IsFound blocks size (To name offset) at
found_in blocks size align name offset None at lives e = absurd cc
found_in blocks size align name offset (Some b) at lives e = found_if blocks size name offset b (nat_le (offset + size) (length b.cells)) (offset % align == 0) at lives refl e

pub found : (blocks : Blocks) (size align : ℕ) (p : Ptr) (at : Range) → range_at blocks size align p ≡ Ok at → IsFound blocks size p at
found blocks size align Null at e = absurd cc
found blocks size align (To name offset) at e = found_in blocks size align name offset (live blocks name) at refl e

-- ---- cells are written

module _ (names : List Name) (blocks : Blocks) (m : Memory) (stand : BlocksStand names blocks m.storage) where
  abbrev s : Storage
  s = m.storage

  abbrev address : ℕ → ℕ
  address block = address_for s (name_of names block)

  sees : Sees names AnyBlock blocks
  sees = sees_all names blocks s stand.consistent stand.names_stand

  -- where a pointer goes that has a range
  pub reaches : (size : ℕ) (p : Ptr) (at : Range) (a : ℕ) → 0 < size → IsFound blocks size p at → GoesTo names blocks s p a → a ≡ address at.name + at.offset
  reaches size p at a some at_found goes =
      let there = in_bytes names blocks s stand.consistent stand.names_stand at.name at.block at_found.lives in
      let to : GoesTo names blocks s (To at.name at.offset) a = subst (λ q. GoesTo names blocks s q a) at_found.is goes in
      to at.block at_found.lives ∙ mod-eq_of_lt (omega (arith, there.1, at_found.within, stand.consistent.whole, stand.consistent.small))

  pub there_at : (size : ℕ) (p : Ptr) (at : Range) (a : ℕ) → 0 < size → IsFound blocks size p at → GoesTo names blocks s p a → first_outside s.bytes a size ≡ None
  there_at size p at a some at_found goes =
      ap (λ x. first_outside s.bytes x size) (reaches size p at a some at_found goes) ∙ none_outside names blocks s stand.consistent stand.names_stand stand.memory at.name at.block at_found.lives at.offset size at_found.within

  -- what is kept where cells were written
  pub record IsWritten (later : Blocks) (at : ℕ) (bytes : List ℕ) : Type 0 where
    pub stands : BlocksStand names later (written m at bytes).storage
    pub ages : Aged names names blocks later

  pub write_stands : (new : List Cell) (at : Range) (bytes : List ℕ) → live blocks at.name ≡ Some at.block → at.offset + length new ≤ length at.block.cells → RowStands names blocks new bytes
      → IsWritten (with_cells_at blocks new at) (address at.name + at.offset) bytes
  write_stands new at bytes here fits row =
      let later = with_cells_at blocks new at in
      let ages = aged_written names blocks new at here fits stand.names_stand.each in
      let as_many : length later ≡ length blocks = length-set blocks at.name (Some (written_block blocks new at here fits)) in
      record {
        ages = ages;
        stands = record {
          consistent = written_agrees m stand.consistent (address at.name + at.offset) (length new) bytes (sym (row_length names blocks new bytes row)) (none_outside names blocks s stand.consistent stand.names_stand stand.memory at.name at.block here at.offset (length new) fits);
          names_stand = names_alike names blocks later s (with_bytes s.bytes (address at.name + at.offset) bytes) stand.names_stand as_many (λ block b e. ages.ages.lives block b (omega (arith, live_in later block b e, as_many)) e) (λ block e. still block e);
          memory = memory_written names blocks s stand.consistent stand.names_stand stand.memory new at here fits bytes row;
        };
      }
    where
      still : (block : ℕ) → Lives blocks block → Lives (with_cells_at blocks new at) block
      still block e = elim (cases_eq block at.name) [
        | inl same ↦ ap is_some (ap (live (with_cells_at blocks new at)) same ∙ written_same blocks new at here fits)
        | inr ne ↦ ap is_some (written_other blocks new at here fits block ne) ∙ e
      ]

  -- ---- a load

  -- bytes that are there are loaded
  pub record IsLoaded (how : Access) (a : Target) (v : Value) : Type 0 where
    pub word : ℕ
    pub went : words.loaded how a m ≡ went (Some word) m
    pub stands : Stands names AnyBlock blocks (value v) word

  pub size_some : (how : Access) → 0 < size_of how
  size_some (accesses.Number t) = omega (arith, (width_bounds t.bits t.known_width).0)
  size_some accesses.Pointer = omega arith

  pub was_read : (how : Access) (r : Result Range Rule) (v : Value) → read_at how r ≡ Ok v → (at : Range) × (r ≡ Ok at) × (read how (cells_at (size_of how) at) ≡ Ok v)
  was_read how (Ok at) v e = (at, refl, e)
  was_read how (Err rule) v e = absurd cc

  pub load_stands : (how : Access) (p : Ptr) (v : Value) (a : Target) → GoesTo names blocks s p a.address → source.loaded blocks p how ≡ Ok v → IsLoaded how a v
  load_stands how p v a goes e =
      let size = size_of how in
      let r = was_read how (spot_at blocks size p) v e in
      let at = r.0 in
      let f = found blocks size size p at r.1 in
      let there = there_at size p at a.address (size_some how) f goes in
      let here = reaches size p at a.address (size_some how) f goes in
      let row = row_read names blocks s stand.consistent stand.names_stand stand.memory at.name at.block f.lives at.offset size f.within in
      let long : length (cells_at size at) ≡ size = part_length at.block.cells at.offset size Unknown f.within in
      record {
        word = word_read how (bytes_from s.bytes a.address size);
        went = ap (λ o. within kinds.Load o (went (Some (word_read how (bytes_from s.bytes a.address size))) m)) there;
        stands = read_stands names blocks sees how (cells_at size at) (bytes_from s.bytes a.address size) v long (subst (λ x. RowStands names blocks (cells_at size at) (bytes_from s.bytes x size)) (sym here) row) r.2;
      }

  -- ---- a store

  pub record IsStored (v : Value) (a : Target) (word : ℕ) (later : Blocks) : Type 0 where
    pub there : first_outside s.bytes a.address (size_of (access_of v)) ≡ None
    pub went : words.stored (access_of v) a word m ≡ went None (written m a.address (low_bytes (size_of (access_of v)) word))
    pub after : IsWritten later a.address (low_bytes (size_of (access_of v)) word)

  pub was_written : (new : List Cell) (r : Result Range Rule) (later : Blocks) → written_at blocks new r ≡ Ok later → (at : Range) × (r ≡ Ok at) × (with_cells_at blocks new at ≡ later)
  was_written new (Ok at) later e = (at, refl, unless (is_literal at.block.kind) (with_cells_at blocks new at) e)
    where
      unless : (b : Bool) (x : Blocks) → (if b then Err C12 else Ok x) ≡ Ok later → x ≡ later
      unless true x e = absurd cc
      unless false x e = cc
  was_written new (Err rule) later e = absurd cc

  pub store_stands : (v : Value) (p : Ptr) (a : Target) (word : ℕ) (later : Blocks) → GoesTo names blocks s p a.address → Stands names AnyBlock blocks (value v) word → source.stored blocks p v ≡ Ok later → IsStored v a word later
  store_stands v p a word later goes stands e =
      let how = access_of v in
      let size = size_of how in
      let r = was_written (cells_of v) (spot_at blocks size p) later e in
      let at = r.0 in
      let f = found blocks size size p at r.1 in
      let there = there_at size p at a.address (size_some how) f goes in
      let here = reaches size p at a.address (size_some how) f goes in
      let row = stored_stands names blocks v word stands in
      let long : length (cells_of v) ≡ size = row_length names blocks (cells_of v) (low_bytes size word) row ∙ length-low_bytes size word in
      record {
        there = there;
        went = ap (λ o. within kinds.Store o (went None (written m a.address (low_bytes size word)))) there;
        after = subst (λ x. IsWritten x a.address (low_bytes size word)) r.2 (subst (λ x. IsWritten (with_cells_at blocks (cells_of v) at) x (low_bytes size word)) (sym here)
            (write_stands (cells_of v) at (low_bytes size word) f.lives (subst (λ n. at.offset + n ≤ length at.block.cells) (sym long) f.within) row));
      }
