-- The bytes of globals and literals as they are loaded: each stands for the cell that its block begins with.
use Rattle.std.proofs.Common.{◌≡◌, ℕ, zero, suc, ◌+◌, ◌-◌, ◌<◌, ◌≤◌, ◌⊎◌, inl, inr, List, [], ◌∷◌, length, get_or, take, map, replicate, true, Some, refl, sym, ap, subst, ◌∙◌, arith}
use Rattle.std.specs.Prelude.{slice_get, sum_by}
use Rattle.std.proofs.lemmas.Bool.{ltb-true}
use Rattle.std.proofs.lemmas.List.{length-replicate, get_or-replicate}
use Rattle.std.proofs.lemmas.List.Sums.{sum_by-cons}
use Rattle.std.proofs.lemmas.Option.{slice_get_within, get_or_from_slice_get}
use Rattle.ak_words.specs.Num.{num}
use Rattle.block_store.specs.declared.values.Cell.{Cell}
use Rattle.block_store.specs.declared.values.Cell.TheVariants.{Unknown, Byte}
use Rattle.block_store.specs.declared.values.Ptr.TheVariants.{To}
use Rattle.block_store.specs.declared.values.Value.TheVariants as values
use Rattle.block_store.specs.Blocks.{Blocks, first_cells}
use Rattle.block_store.specs.Cells.{cells_of}
use Rattle.c_tree.specs.Typed.{Init}
use Rattle.c_tree.specs.Typed as inits
use Rattle.c_tree.specs.TypedForm.{taken}
use Rattle.flat_store.specs.Flat.{first_address, byte_at, with_bytes}
use Rattle.defrag_move.proofs.Bytes.{length-with_bytes}
use Rattle.struct_ir.specs.Nodes.{Global}
use Rattle.struct_ir.specs.Whole.{is_init_in}
use Rattle.struct_ir.specs.meaning.Start.{first_value}
use Rattle.flat_meaning.specs.Image.{Layout, literal_address, first_bytes, globals_written, literals_written}
use Rattle.flat_meaning.specs.Names.{Name}
use Rattle.flat_simulation.specs.inner.Cells.{CellStands, RowStands}
use Rattle.flat_simulation.specs.inner.Values.{AnyBlock, PointerStands}
use Rattle.flat_simulation.proofs.Cells.{stored_stands}
use Rattle.flat_simulation.proofs.Loaded.{few_first}
use Rattle.flat_simulation.proofs.Rows.{over_inside, over_outside, row_length, row_each}

-- ---- bytes that are written over

-- there
byte_over : (bytes new : List ℕ) (at i : ℕ) → first_address ≤ at → at + length new ≤ first_address + length bytes → i < length new → byte_at (with_bytes bytes at new) (at + i) ≡ get_or new i 0
byte_over bytes new at i low fits below =
    let same : at + i - first_address ≡ at - first_address + i = omega (arith, low) in
    ap (λ k. get_or (with_bytes bytes at new) k 0) same ∙ over_inside bytes new (at - first_address) 0 (omega (arith, low, fits)) i below

-- and beside them
byte_beside : (bytes new : List ℕ) (at a : ℕ) → first_address ≤ at → at + length new ≤ first_address + length bytes → first_address ≤ a → (a < at) ⊎ (at + length new ≤ a) → byte_at (with_bytes bytes at new) a ≡ byte_at bytes a
byte_beside bytes new at a low fits above (inl lt) = over_outside bytes new (at - first_address) 0 (omega (arith, low, fits)) (a - first_address) (inl (omega (arith, low, above, lt)))
byte_beside bytes new at a low fits above (inr ge) = over_outside bytes new (at - first_address) 0 (omega (arith, low, fits)) (a - first_address) (inr (omega (arith, low, above, ge)))

-- so many bytes from an address on are 0
abbrev pub AreZero : List ℕ → (at n : ℕ) → Type 0
AreZero bytes at n = (i : ℕ) → i < n → byte_at bytes (at + i) ≡ 0

-- the bytes that globals take, and literals
abbrev pub globals_size : List Global → ℕ
globals_size gs = sum_by (λ g. taken g.size) gs

abbrev pub literals_size : List (List ℕ) → ℕ
literals_size ls = sum_by (λ l. taken (length l)) ls

module _ (y : Layout) where
  -- beside the globals nothing is written
  pub globals_beside : (gs : List Global) (at : ℕ) (bytes : List ℕ) (a : ℕ) → first_address ≤ at → at + globals_size gs ≤ first_address + length bytes → first_address ≤ a → (a < at) ⊎ (at + globals_size gs ≤ a) → byte_at (globals_written y at gs bytes) a ≡ byte_at bytes a
  globals_beside [] at bytes a low fits above beside = refl
  globals_beside (g ∷ gs) at bytes a low fits above beside =
      let sum = sum_by-cons (λ (g : Global). taken g.size) g gs in
      let few = few_first y g.init in
      let one = length-with_bytes bytes (first_bytes y g.init) at low (omega (arith, sum, few, fits)) in
      globals_beside gs (at + taken g.size) (with_bytes bytes at (first_bytes y g.init)) a (omega (arith, low)) (omega (arith, sum, one, fits)) above (elim beside [ inl lt ↦ inl (omega (arith, lt)) | inr ge ↦ inr (omega (arith, sum, ge)) ])
      ∙ byte_beside bytes (first_bytes y g.init) at a low (omega (arith, sum, few, fits)) above (elim beside [ inl lt ↦ inl lt | inr ge ↦ inr (omega (arith, sum, ge, few)) ])

-- nor beside literals
pub literals_beside : (ls : List (List ℕ)) (at : ℕ) (bytes : List ℕ) (a : ℕ) → first_address ≤ at → at + literals_size ls ≤ first_address + length bytes → first_address ≤ a → (a < at) ⊎ (at + literals_size ls ≤ a) → byte_at (literals_written at ls bytes) a ≡ byte_at bytes a
literals_beside [] at bytes a low fits above beside = refl
literals_beside (l ∷ ls) at bytes a low fits above beside =
    let sum = sum_by-cons (λ (l : List ℕ). taken (length l)) l ls in
    let one = length-with_bytes bytes l at low (omega (arith, sum, fits)) in
    literals_beside ls (at + taken (length l)) (with_bytes bytes at l) a (omega (arith, low)) (omega (arith, sum, one, fits)) above (elim beside [ inl lt ↦ inl (omega (arith, lt)) | inr ge ↦ inr (omega (arith, sum, ge)) ])
    ∙ byte_beside bytes l at a low (omega (arith, sum, fits)) above (elim beside [ inl lt ↦ inl lt | inr ge ↦ inr (omega (arith, sum, ge)) ])

-- ---- cells

module _ (y : Layout) (names : List Name) (blocks : Blocks) (globals : ℕ) (literals : ℕ) (pointers : (n : ℕ) → n < literals → PointerStands names AnyBlock blocks (To (globals + n) 0) (literal_address y n)) where
  -- cells stand for the bytes from an address on
  abbrev pub CellsAt : List Cell → List ℕ → (at : ℕ) → Type 0
  CellsAt cells bytes at = (i : ℕ) (c : Cell) → slice_get cells i ≡ Some c → CellStands names blocks c (byte_at bytes (at + i))

  byte_row : (bs : List ℕ) → RowStands names blocks (map Byte bs) bs
  byte_row [] = tt
  byte_row (b ∷ bs) = (refl, byte_row bs)

  -- a row that was written
  row_written : (cells : List Cell) (new bytes : List ℕ) (at : ℕ) → first_address ≤ at → at + length new ≤ first_address + length bytes → RowStands names blocks cells new → CellsAt cells (with_bytes bytes at new) at
  row_written cells new bytes at low fits row i c e =
      let below : i < length cells = slice_get_within cells i c e in
      let long = row_length names blocks cells new row in
      let stand = row_each names blocks cells new row i below in
      subst (λ d. CellStands names blocks d (byte_at (with_bytes bytes at new) (at + i))) (get_or_from_slice_get cells i c Unknown e)
      (subst (λ b. CellStands names blocks (get_or cells i Unknown) b) (sym (byte_over bytes new at i low fits (omega (arith, below, long)))) stand)

  -- zeros that stay
  zero_cells : (size : ℕ) (bytes : List ℕ) (at : ℕ) → AreZero bytes at size → CellsAt (replicate size (Byte 0)) bytes at
  zero_cells size bytes at zeros i c e =
      let below : i < size = omega (arith, slice_get_within (replicate size (Byte 0)) i c e, length-replicate size (Byte 0)) in
      let is : Byte 0 ≡ c = sym (get_or-replicate size i (Byte 0) Unknown below) ∙ get_or_from_slice_get (replicate size (Byte 0)) i c Unknown e in
      subst (λ d. CellStands names blocks d (byte_at bytes (at + i))) is (zeros i below)

  nothing_over : (bytes : List ℕ) (at size : ℕ) → first_address ≤ at → at ≤ first_address + length bytes → AreZero bytes at size → AreZero (with_bytes bytes at []) at size
  nothing_over bytes at size low fits zeros i below = byte_beside bytes [] at (at + i) low (omega (arith, fits)) (omega (arith, low)) (inr (omega arith)) ∙ zeros i below

  -- a first value takes no more than its global does
  pub cells_fit : (size : ℕ) (init : Init) → taken (length (first_cells size (first_value globals init))) ≤ taken size
  cells_fit size inits.zero_bytes = omega (arith, ap taken (length-replicate size (Byte 0)))
  cells_fit size (inits.number t z) =
      let few = few_first y (inits.number t z) in
      let long = row_length names blocks (map Byte (first_bytes y (inits.number t z))) (first_bytes y (inits.number t z)) (byte_row (first_bytes y (inits.number t z))) in
      omega (arith, few, long)
  cells_fit size (inits.literal_at n) = omega arith

  -- a global
  first_stands : (g : Global) (bytes : List ℕ) (at : ℕ) → is_init_in literals g.init ≡ true → first_address ≤ at → at + taken g.size ≤ first_address + length bytes → AreZero bytes at g.size
      → CellsAt (first_cells g.size (first_value globals g.init)) (with_bytes bytes at (first_bytes y g.init)) at
  first_stands g bytes at ok low fits zeros = by_init g.init ok
    where
      by_init : (init : Init) → is_init_in literals init ≡ true → CellsAt (first_cells g.size (first_value globals init)) (with_bytes bytes at (first_bytes y init)) at
      by_init inits.zero_bytes ok = zero_cells g.size (with_bytes bytes at []) at (nothing_over bytes at g.size low (omega (arith, fits)) zeros)
      by_init (inits.number t z) ok =
          let few = few_first y (inits.number t z) in
          row_written (cells_of (values.Num (num t z))) (first_bytes y (inits.number t z)) bytes at low (omega (arith, few, fits)) (byte_row (first_bytes y (inits.number t z)))
      by_init (inits.literal_at n) ok =
          let few = few_first y (inits.literal_at n) in
          row_written (cells_of (values.Pointer (To (globals + n) 0))) (first_bytes y (inits.literal_at n)) bytes at low (omega (arith, few, fits))
          (stored_stands names blocks (values.Pointer (To (globals + n) 0)) (literal_address y n) (pointers n (ltb-true n literals ok)))

  -- all globals: the one of a number begins behind those before it
  pub globals_stand : (gs : List Global) (at : ℕ) (bytes : List ℕ) → first_address ≤ at → at + globals_size gs ≤ first_address + length bytes → AreZero bytes at (globals_size gs) → (n : ℕ) (g : Global) → slice_get gs n ≡ Some g → is_init_in literals g.init ≡ true
      → CellsAt (first_cells g.size (first_value globals g.init)) (globals_written y at gs bytes) (at + globals_size (take n gs))
  globals_stand [] at bytes low fits zeros n g e ok = absurd cc
  globals_stand (h ∷ gs) at bytes low fits zeros zero g e ok =
      let same : h ≡ g = cc in
      let sum = sum_by-cons (λ (g : Global). taken g.size) h gs in
      let few = few_first y h.init in
      let one = length-with_bytes bytes (first_bytes y h.init) at low (omega (arith, sum, few, fits)) in
      subst (λ (k : Global). CellsAt (first_cells k.size (first_value globals k.init)) (globals_written y at (h ∷ gs) bytes) (at + 0)) same
      (λ i c f.
      let all = first_stands h bytes at (subst (λ (k : Global). is_init_in literals k.init ≡ true) (sym same) ok) low (omega (arith, sum, fits)) (λ j below. zeros j (omega (arith, sum, below))) i c f in
      let inside : i < length (first_cells h.size (first_value globals h.init)) = slice_get_within (first_cells h.size (first_value globals h.init)) i c f in
      let below : i < taken h.size = omega (arith, inside, cells_fit h.size h.init) in
      let nothing : at + 0 + i ≡ at + i = omega arith in
      let still = globals_beside y gs (at + taken h.size) (with_bytes bytes at (first_bytes y h.init)) (at + i) (omega (arith, low)) (omega (arith, sum, one, fits)) (omega (arith, low)) (inl (omega (arith, below))) in
      subst (λ b. CellStands names blocks c b) (sym (ap (byte_at (globals_written y at (h ∷ gs) bytes)) nothing ∙ still)) all)
  globals_stand (h ∷ gs) at bytes low fits zeros (suc n) g e ok =
      let sum = sum_by-cons (λ (g : Global). taken g.size) h gs in
      let few = few_first y h.init in
      let one = length-with_bytes bytes (first_bytes y h.init) at low (omega (arith, sum, few, fits)) in
      let before = sum_by-cons (λ (g : Global). taken g.size) h (take n gs) in
      let same : at + taken h.size + globals_size (take n gs) ≡ at + globals_size (take (suc n) (h ∷ gs)) = omega (arith, before) in
      subst (CellsAt (first_cells g.size (first_value globals g.init)) (globals_written y at (h ∷ gs) bytes)) same
      (globals_stand gs (at + taken h.size) (with_bytes bytes at (first_bytes y h.init)) (omega (arith, low)) (omega (arith, sum, one, fits))
      (λ i below. byte_beside bytes (first_bytes y h.init) at (at + taken h.size + i) low (omega (arith, sum, few, fits)) (omega (arith, low)) (inr (omega (arith, few))) ∙ ap (byte_at bytes) (omega arith) ∙ zeros (taken h.size + i) (omega (arith, sum, below))) n g e ok)

  -- all literals
  pub literals_stand : (ls : List (List ℕ)) (at : ℕ) (bytes : List ℕ) → first_address ≤ at → at + literals_size ls ≤ first_address + length bytes → (n : ℕ) (l : List ℕ) → slice_get ls n ≡ Some l → CellsAt (map Byte l) (literals_written at ls bytes) (at + literals_size (take n ls))
  literals_stand [] at bytes low fits n l e = absurd cc
  literals_stand (h ∷ ls) at bytes low fits zero l e =
      let same : h ≡ l = cc in
      let sum = sum_by-cons (λ (l : List ℕ). taken (length l)) h ls in
      let one = length-with_bytes bytes h at low (omega (arith, sum, fits)) in
      subst (λ (k : List ℕ). CellsAt (map Byte k) (literals_written at (h ∷ ls) bytes) (at + 0)) same
      (λ i c f.
      let all = row_written (map Byte h) h bytes at low (omega (arith, sum, fits)) (byte_row h) i c f in
      let long = row_length names blocks (map Byte h) h (byte_row h) in
      let below = slice_get_within (map Byte h) i c f in
      let nothing : at + 0 + i ≡ at + i = omega arith in
      let still = literals_beside ls (at + taken (length h)) (with_bytes bytes at h) (at + i) (omega (arith, low)) (omega (arith, sum, one, fits)) (omega (arith, low)) (inl (omega (arith, below, long))) in
      subst (λ b. CellStands names blocks c b) (sym (ap (byte_at (literals_written at (h ∷ ls) bytes)) nothing ∙ still)) all)
  literals_stand (h ∷ ls) at bytes low fits (suc n) l e =
      let sum = sum_by-cons (λ (l : List ℕ). taken (length l)) h ls in
      let one = length-with_bytes bytes h at low (omega (arith, sum, fits)) in
      let before = sum_by-cons (λ (l : List ℕ). taken (length l)) h (take n ls) in
      let same : at + taken (length h) + literals_size (take n ls) ≡ at + literals_size (take (suc n) (h ∷ ls)) = omega (arith, before) in
      subst (CellsAt (map Byte l) (literals_written at (h ∷ ls) bytes)) same (literals_stand ls (at + taken (length h)) (with_bytes bytes at h) (omega (arith, low)) (omega (arith, sum, one, fits)) n l e)
