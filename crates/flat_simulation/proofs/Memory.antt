-- Cells that are read and written over named blocks, and the bytes at their addresses.
use Rattle.std.proofs.Common.{◌≡◌, ◌≢◌, ℕ, ◌+◌, ◌-◌, ◌<◌, ◌≤◌, ◌⊎◌, inl, inr, List, length, get_or, take, drop, Some, None, refl, sym, ap, subst, ◌∙◌, arith}
use Rattle.std.proofs.lemmas.Bool.{cases_eq, cases_lt}
use Rattle.std.proofs.lemmas.Option.{slice_get_within, get_or_from_slice_get, slice_get-get_or}
use Rattle.block_store.specs.declared.values.Cell.{Cell}
use Rattle.block_store.specs.declared.values.Cell.TheVariants.{Unknown}
use Rattle.block_store.specs.Blocks.{Block, Blocks, live, Range, with_cells, with_cells_at}
use Rattle.flat_store.specs.Flat.{first_address, HasBytes, byte_at, bytes_from, with_bytes, first_outside}
use Rattle.flat_store.proofs.Firsts.{none_meant}
use Rattle.arena_meaning.specs.Arena.{IsConsistent, Storage}
use Rattle.flat_meaning.specs.Names.{Name, heap, plain, name_of, address_for, Apart, NamesStand}
use Rattle.flat_simulation.specs.inner.Cells.{CellStands, RowStands, MemoryStands}
use Rattle.flat_simulation.proofs.Blocks.{written_block, written_same, written_other, written_size, aged_written, one_live}
use Rattle.flat_simulation.proofs.Values.{cell_later}
use Rattle.flat_simulation.proofs.Rows.{over_inside, over_outside, part_at, part_length, row_length, row_each, each_row}
use Rattle.flat_simulation.proofs.Placed.{in_bytes, lie_apart}

module _ (names : List Name) (blocks : Blocks) (s : Storage) (consistent : IsConsistent s) (names_stand : NamesStand names blocks s) (stands : MemoryStands names blocks s) where
  -- the address of a block
  abbrev pub address : ℕ → ℕ
  address block = address_for s (name_of names block)

  -- what is known of one cell
  cell_at : (block : ℕ) (b : Block) → live blocks block ≡ Some b → (i : ℕ) → i < length b.cells → CellStands names blocks (get_or b.cells i Unknown) (byte_at s.bytes (address block + i))
  cell_at block b e i below = stands block i b (get_or b.cells i Unknown) e (slice_get-get_or b.cells i Unknown below)

  module _ (block : ℕ) (b : Block) (e : live blocks block ≡ Some b) (offset n : ℕ) (within : offset + n ≤ length b.cells) where
    -- there are bytes for the cells
    pub bytes_there : HasBytes s.bytes (address block + offset) n
    bytes_there k below = let at = in_bytes names blocks s consistent names_stand block b e in (omega (arith, at.0), omega (arith, at.1))

    pub none_outside : first_outside s.bytes (address block + offset) n ≡ None
    none_outside = (none_meant s.bytes (address block + offset) n).1 bytes_there

    -- cells that are read stand for the bytes that are read
    pub row_read : RowStands names blocks (take n (drop offset b.cells)) (bytes_from s.bytes (address block + offset) n)
    row_read =
        let at = in_bytes names blocks s consistent names_stand block b e in
        let from = address block + offset - first_address in
        let fits : from + n ≤ length s.bytes = omega (arith, at.0, at.1) in
        let long : length (take n (drop offset b.cells)) ≡ n = part_length b.cells offset n Unknown within in
        each_row names blocks (take n (drop offset b.cells)) (bytes_from s.bytes (address block + offset) n) (long ∙ sym (part_length s.bytes from n 0 fits)) (λ i below.
        let inside : i < n = omega (arith, below, long) in
        let same : from + i ≡ address block + (offset + i) - first_address = omega (arith, at.0) in
        let byte : byte_at s.bytes (address block + (offset + i)) ≡ get_or (bytes_from s.bytes (address block + offset) n) i 0 = sym (part_at s.bytes from n 0 i inside ∙ ap (λ k. get_or s.bytes k 0) same) in
        let cell : get_or b.cells (offset + i) Unknown ≡ get_or (take n (drop offset b.cells)) i Unknown = sym (part_at b.cells offset n Unknown i inside) in
        subst (λ c. CellStands names blocks c (get_or (bytes_from s.bytes (address block + offset) n) i 0)) cell
        (subst (λ x. CellStands names blocks (get_or b.cells (offset + i) Unknown) x) byte (cell_at block b e (offset + i) (omega (arith, inside)))))

  -- ---- a row is written

  module _ (new : List Cell) (at : Range) (here : live blocks at.name ≡ Some at.block) (within : at.offset + length new ≤ length at.block.cells) (bytes : List ℕ) (row : RowStands names blocks new bytes) where
    abbrev later : Blocks
    later = with_cells_at blocks new at

    abbrev stored : Storage
    stored = record s { bytes = with_bytes s.bytes (address at.name + at.offset) bytes }

    there : (first_address ≤ address at.name) × (address at.name + length at.block.cells ≤ first_address + length s.bytes)
    there = in_bytes names blocks s consistent names_stand at.name at.block here

    as_many : length new ≡ length bytes
    as_many = row_length names blocks new bytes row

    abbrev from : ℕ
    from = address at.name + at.offset - first_address

    fits : from + length bytes ≤ length s.bytes
    fits = omega (arith, there.0, there.1, as_many)

    -- the bytes that were written, and the others
    byte_in : (i : ℕ) → i < length bytes → byte_at stored.bytes (address at.name + (at.offset + i)) ≡ get_or bytes i 0
    byte_in i below =
        let same : address at.name + (at.offset + i) - first_address ≡ from + i = omega (arith, there.0) in
        ap (λ k. get_or stored.bytes k 0) same ∙ over_inside s.bytes bytes from 0 fits i below

    byte_out : (a : ℕ) → first_address ≤ a → (a < address at.name + at.offset) ⊎ (address at.name + at.offset + length bytes ≤ a) → byte_at stored.bytes a ≡ byte_at s.bytes a
    byte_out a low side = over_outside s.bytes bytes from 0 fits (a - first_address) (moved side)
      where
        moved : (a < address at.name + at.offset) ⊎ (address at.name + at.offset + length bytes ≤ a) → (a - first_address < from) ⊎ (from + length bytes ≤ a - first_address)
        moved (inl h) = inl (omega (arith, there.0))
        moved (inr h) = inr (omega (arith, there.0))

    same_address : (n : Name) → address_for stored n ≡ address_for s n
    same_address (heap id) = refl
    same_address (plain a) = refl

    kept : (c : Cell) (byte : ℕ) → CellStands names blocks c byte → CellStands names later c byte
    kept c byte stands = cell_later names names blocks later (aged_written names blocks new at here within names_stand.each) c byte stands

    -- a cell of the block that was written in
    abbrev Stands : Cell → ℕ → Type 0
    Stands c a = CellStands names later c (byte_at stored.bytes a)

    written_cell : (index : ℕ) → index < length at.block.cells → Stands (get_or (with_cells at.block.cells at.offset new) index Unknown) (address at.name + index)
    written_cell index below = elim (cases_lt index at.offset) [
      | inl before ↦ outside (inl before) (inl (omega arith))
      | inr behind ↦ elim (cases_lt index (at.offset + length new)) [
        | inl inside ↦
            let i : ℕ = index - at.offset in
            let is : at.offset + i ≡ index = omega arith in
            let cell : get_or new i Unknown ≡ get_or (with_cells at.block.cells at.offset new) index Unknown =
            sym (over_inside at.block.cells new at.offset Unknown within i (omega arith)) ∙ ap (λ k. get_or (with_cells at.block.cells at.offset new) k Unknown) is in
            let byte : get_or bytes i 0 ≡ byte_at stored.bytes (address at.name + index) = sym (byte_in i (omega (arith, as_many))) ∙ ap (λ k. byte_at stored.bytes (address at.name + k)) is in
            subst (λ c. Stands c (address at.name + index)) cell (subst (λ x. CellStands names later (get_or new i Unknown) x) byte (kept (get_or new i Unknown) (get_or bytes i 0) (row_each names blocks new bytes row i (omega arith))))
        | inr past ↦ outside (inr past) (inr (omega (arith, as_many)))
      ]
    ]
      where
        outside : (index < at.offset) ⊎ (at.offset + length new ≤ index) → (address at.name + index < address at.name + at.offset) ⊎ (address at.name + at.offset + length bytes ≤ address at.name + index)
            → Stands (get_or (with_cells at.block.cells at.offset new) index Unknown) (address at.name + index)
        outside side far =
            let cell : get_or at.block.cells index Unknown ≡ get_or (with_cells at.block.cells at.offset new) index Unknown = sym (over_outside at.block.cells new at.offset Unknown within index side) in
            let byte : byte_at s.bytes (address at.name + index) ≡ byte_at stored.bytes (address at.name + index) = sym (byte_out (address at.name + index) (omega (arith, there.0)) far) in
            subst (λ c. Stands c (address at.name + index)) cell
            (subst (λ x. CellStands names later (get_or at.block.cells index Unknown) x) byte (kept (get_or at.block.cells index Unknown) _ (cell_at at.name at.block here index below)))

    -- a cell of another block
    other_cell : (block : ℕ) (b : Block) → block ≢ at.name → live blocks block ≡ Some b → (index : ℕ) → index < length b.cells → Stands (get_or b.cells index Unknown) (address block + index)
    other_cell block b ne e index below =
        let apart = lie_apart names blocks s consistent names_stand block at.name b at.block ne e here in
        let mine = in_bytes names blocks s consistent names_stand block b e in
        let byte : byte_at s.bytes (address block + index) ≡ byte_at stored.bytes (address block + index) = sym (byte_out (address block + index) (omega (arith, mine.0)) (far apart)) in
        subst (λ x. CellStands names later (get_or b.cells index Unknown) x) byte (kept (get_or b.cells index Unknown) _ (cell_at block b e index below))
      where
        far : Apart (address block) (length b.cells) (address at.name) (length at.block.cells) → (address block + index < address at.name + at.offset) ⊎ (address at.name + at.offset + length bytes ≤ address block + index)
        far (inl h) = inl (omega arith)
        far (inr h) = inr (omega (arith, h, as_many, within))

    -- memory stands for the blocks that were written in
    pub memory_written : MemoryStands names later stored
    memory_written block index b c e f =
        let is : get_or b.cells index Unknown ≡ c = get_or_from_slice_get b.cells index c Unknown f in
        let below : index < length b.cells = slice_get_within b.cells index c f in
        let where_ : address block + index ≡ address_for stored (name_of names block) + index = ap (λ a. a + index) (sym (same_address (name_of names block))) in
        subst (λ a. Stands c a) where_ (subst (λ d. Stands d (address block + index)) is (elim (cases_eq block at.name) [
          | inl same ↦
              let written : written_block blocks new at here within ≡ b = one_live later at.name (written_block blocks new at here within) b (written_same blocks new at here within) (ap (live later) (sym same) ∙ e) in
              let cells : with_cells at.block.cells at.offset new ≡ b.cells = ap (λ (x : Block). x.cells) written in
              let long : length b.cells ≡ length at.block.cells = ap length (sym cells) ∙ written_size blocks new at here within in
              subst (λ n. Stands (get_or b.cells index Unknown) (address n + index)) (sym same) (subst (λ cs. Stands (get_or cs index Unknown) (address at.name + index)) cells (written_cell index (omega (arith, below, long))))
          | inr ne ↦ other_cell block b ne (sym (written_other blocks new at here within block ne) ∙ e) index below
        ]))
