-- Values that are stored as cells and as bytes, and read from them.
use Rattle.std.proofs.Common.{◌≡◌, ℕ, ℤ, zero, suc, ◌+◌, ◌-◌, ◌*◌, ◌/◌, ◌%◌, ◌^◌, ◌<◌, pos, Bool, true, false, ◌&&◌, ◌==◌, List, [], ◌∷◌, length, map, Option, Some, None, Ok, Err, refl, sym, ap, subst, ◌∙◌, arith}
use Rattle.std.specs.Prelude.{IsTrue, slice_index, if◌then◌else◌}
use Rattle.std.specs.Option.{option_map, ok_or}
use Rattle.std.proofs.lemmas.Bool.{eqb-true}
use Rattle.std.proofs.lemmas.Bool.Decides.{nat_tests}
use Rattle.std.proofs.lemmas.Int.{ints}
use Rattle.std.proofs.Math.Nat.{mul_assoc, add-mul-mod_self_right}
use Rattle.std.proofs.Math.Pow.{pow_pos}
use Rattle.ak_words.specs.declared.int_type.IntType.{IntType}
use Rattle.ak_words.specs.declared.number.Num.{Num}
use Rattle.ak_words.specs.declared.rule.Rule.TheVariants.{C4, C16}
use Rattle.ak_words.specs.Bytes as bytes
use Rattle.ak_words.specs.Bytes.{low_bytes}
use Rattle.ak_words.specs.Num.{num}
use Rattle.ak_words.specs.Width.{is_width}
use Rattle.ak_words.specs.Wrapped.{bit_pattern}
use Rattle.ak_words.proofs.Bytes.{length-low_bytes, number_of-low_bytes, number_of-low_bytes-fits, low_bytes-number_of, low_bytes-AreBytes}
use Rattle.ak_words.proofs.Residues.{powers, residue_is}
use Rattle.ak_words.proofs.Types.{width_bounds}
use Rattle.block_store.specs.declared.values.Access.{Access}
use Rattle.block_store.specs.declared.values.Access.TheVariants as accesses
use Rattle.block_store.specs.declared.values.Cell.{Cell}
use Rattle.block_store.specs.declared.values.Cell.TheVariants.{Unknown, Byte, Part}
use Rattle.block_store.specs.declared.values.Ptr.{Ptr}
use Rattle.block_store.specs.declared.values.Ptr.TheVariants.{Null, To}
use Rattle.block_store.specs.declared.values.Value.{Value}
use Rattle.block_store.specs.declared.values.Value.TheVariants as values
use Rattle.block_store.specs.Blocks.{Block, Blocks, live}
use Rattle.block_store.specs.Cells.{size_of, access_of, cells_of, number_of, are_parts, are_zeros, pointer_of, read, has_unknown}
use Rattle.struct_ir.specs.meaning.Blocks.{value}
use Rattle.flat_words.specs.Words.{word_of, number_word, word_in}
use Rattle.flat_meaning.specs.Accesses.{word_read}
use Rattle.flat_meaning.specs.Names.{Name, name_of, word_for}
use Rattle.flat_simulation.specs.inner.Values.{Sees, AnyBlock, Points, PointerStands, Stands}
use Rattle.flat_simulation.specs.inner.Cells.{PartStands, RowStands}
use Rattle.flat_simulation.proofs.Numbers.{word_apart}
use Rattle.flat_simulation.proofs.Pointers.{word_from, word_bounds}

-- ---- bytes of words

-- a width in bits is eight times one in bytes
width_bytes : (n : ℕ) → IsTrue (is_width n) → 256 ^ (n / 8) ≡ 2 ^ n
width_bytes n h = grind (arith, nat_tests)

-- low bytes tell no more of a number than its remainder
pub low_again : (k a : ℕ) → low_bytes k a ≡ low_bytes k (a % 256 ^ k)
low_again k a = sym (low_bytes-number_of (low_bytes k a) (low_bytes-AreBytes k a)) ∙ (λ i. low_bytes (length-low_bytes k a i) (number_of-low_bytes k a i))

-- the low bits of a number's word are those of the number
low_word : (t : IntType) (z : ℤ) → word_of z % 2 ^ t.bits ≡ bit_pattern t z
low_word t z =
    let m = 2 ^ t.bits in
    let q = 2 ^ (64 - t.bits) in
    let w = word_of z in
    let x = word_apart z in
    let whole : q * m ≡ 2 ^ 64 = powers t.bits 64 (width_bounds t.bits t.known_width).1 in
    let left : x.0 * q * m ≡ x.0 * 2 ^ 64 = mul_assoc x.0 q m ∙ ap (λ k. x.0 * k) whole in
    let right : x.1 * q * m ≡ x.1 * 2 ^ 64 = mul_assoc x.1 q m ∙ ap (λ k. x.1 * k) whole in
    sym (residue_is m z (x.0 * q) (w + x.1 * q * m) (pow_pos t.bits) (omega (arith, ints, x.2, left, right)) ∙ add-mul-mod_self_right w (x.1 * q) m)

-- so its low bytes are those of its bits
pub word_bytes : (t : IntType) (z : ℤ) → low_bytes (t.bits / 8) (word_of z) ≡ low_bytes (t.bits / 8) (bit_pattern t z)
word_bytes t z =
    let k = t.bits / 8 in
    low_again k (word_of z) ∙ ap (λ m. low_bytes k (word_of z % m)) (width_bytes t.bits t.known_width) ∙ ap (low_bytes k) (low_word t z)

number_bytes : (n : Num) → low_bytes (n.ty.bits / 8) (number_word n) ≡ low_bytes (n.ty.bits / 8) (bit_pattern n.ty n.value)
number_bytes n = word_bytes n.ty n.value

both_true : (a b : Bool) → (a && b) ≡ true → (a ≡ true) × (b ≡ true)
both_true true b e = (refl, e)
both_true false b e = absurd cc

if_some : {A : Type 0} (b : Bool) (x y : A) → (if b then Some x else None) ≡ Some y → (b ≡ true) × (x ≡ y)
if_some true x y e = (refl, cc)
if_some false x y e = absurd cc

mapped : {A B : Type 0} (f : A → B) (o : Option A) (y : B) → option_map f o ≡ Some y → (x : A) × (o ≡ Some x) × (f x ≡ y)
mapped f (Some x) y e = (x, refl, cc)
mapped f None y e = absurd cc

was_read : (b : Bool) (o : Option Value) (v : Value) → (if b then Err C4 else ok_or o C16) ≡ Ok v → o ≡ Some v
was_read true o v e = absurd cc
was_read false (Some u) v e = let is : u ≡ v = cc in ap Some is
was_read false None v e = absurd cc

-- so many of the eight bytes of a word, from one on
abbrev bytes_at : (w k n : ℕ) → List ℕ
bytes_at w k zero = []
bytes_at w k (suc n) = slice_index (low_bytes 8 w) k ∷ bytes_at w (k + 1) n

-- ---- rows

module _ (names : List Name) (blocks : Blocks) where
  -- bytes are stored as they are
  pub bytes_stand : (bs : List ℕ) → RowStands names blocks (map Byte bs) bs
  bytes_stand [] = tt
  bytes_stand (b ∷ bs) = (refl, bytes_stand bs)

  part_stands : (block offset word : ℕ) → Points names AnyBlock blocks block offset word → (part byte : ℕ) → ((w : ℕ) → w ≡ word → byte ≡ slice_index (low_bytes 8 word) part) → PartStands names blocks block offset part byte
  part_stands block offset word points part byte is = record {
    made = points.made;
    within = points.within;
    agrees = λ b lives. is word refl ∙ ap (λ w. slice_index (low_bytes 8 w) part) (points.agrees b lives);
  }

  -- what a value is stored as
  pub stored_stands : (v : Value) (word : ℕ) → Stands names AnyBlock blocks (value v) word → RowStands names blocks (cells_of v) (low_bytes (size_of (access_of v)) word)
  stored_stands (values.Num n) word stands =
      subst (λ bs. RowStands names blocks (cells_of (values.Num n)) bs) (sym (ap (low_bytes (n.ty.bits / 8)) stands ∙ number_bytes n)) (bytes_stand (low_bytes (n.ty.bits / 8) (bit_pattern n.ty n.value)))
  stored_stands (values.Pointer Null) word stands = subst (λ w. RowStands names blocks (cells_of (values.Pointer Null)) (low_bytes 8 w)) (sym stands) (refl, (refl, (refl, (refl, (refl, (refl, (refl, (refl, tt))))))))
  stored_stands (values.Pointer (To block offset)) word points =
      (at 0 _ refl, (at 1 _ refl, (at 2 _ refl, (at 3 _ refl, (at 4 _ refl, (at 5 _ refl, (at 6 _ refl, (at 7 _ refl, tt))))))))
    where
      at : (part byte : ℕ) → byte ≡ slice_index (low_bytes 8 word) part → PartStands names blocks block offset part byte
      at part byte is = record {
        made = points.made;
        within = points.within;
        agrees = λ b lives. is ∙ ap (λ w. slice_index (low_bytes 8 w) part) (points.agrees b lives);
      }

  -- ---- what cells are read as

  low_stands : (low b : ℕ) → b ≡ low → (bs : List ℕ) (high : Option ℕ) → ((h : ℕ) → high ≡ Some h → bytes.number_of bs ≡ h) → (n : ℕ) → option_map (λ h. low + 256 * h) high ≡ Some n → bytes.number_of (b ∷ bs) ≡ n
  low_stands low b same bs None rest n e = absurd cc
  low_stands low b same bs (Some h) rest n e =
      let is : low + 256 * h ≡ n = cc in
      omega (arith, same, rest h refl, is)

  -- a number, where each cell is a byte
  pub number_stands : (cells : List Cell) (bs : List ℕ) (n : ℕ) → RowStands names blocks cells bs → number_of cells ≡ Some n → bytes.number_of bs ≡ n
  number_stands [] [] n row e = cc
  number_stands [] (b ∷ bs) n row e = absurd row
  number_stands (c ∷ cells) [] n row e = absurd row
  number_stands (Byte low ∷ cells) (b ∷ bs) n row e = low_stands low b row.0 bs (number_of cells) (λ h q. number_stands cells bs h row.1 q) n e
  number_stands (Unknown ∷ cells) (b ∷ bs) n row e = absurd cc
  number_stands (Part block offset part ∷ cells) (b ∷ bs) n row e = absurd cc

  -- zeros are null
  zeros_stand : (cells : List Cell) (bs : List ℕ) → RowStands names blocks cells bs → are_zeros cells ≡ true → bytes.number_of bs ≡ 0
  zeros_stand [] [] row e = refl
  zeros_stand [] (b ∷ bs) row e = absurd row
  zeros_stand (c ∷ cells) [] row e = absurd row
  zeros_stand (Byte n ∷ cells) (b ∷ bs) row e =
      let both = both_true (n == 0) (are_zeros cells) e in
      omega (arith, row.0, eqb-true n 0 both.0, zeros_stand cells bs row.1 both.1)
  zeros_stand (Unknown ∷ cells) (b ∷ bs) row e = absurd cc
  zeros_stand (Part block offset part ∷ cells) (b ∷ bs) row e = absurd cc

  -- the parts of a pointer from part k on are the bytes of its word from there on
  parts_stand : (block offset w k : ℕ) (cells : List Cell) (bs : List ℕ) → (b : Block) → live blocks block ≡ Some b → w ≡ word_for (name_of names block) offset → RowStands names blocks cells bs → are_parts block offset k cells ≡ true
      → bs ≡ bytes_at w k (length cells)
  parts_stand block offset w k [] [] b lives is row e = refl
  parts_stand block offset w k [] (x ∷ bs) b lives is row e = absurd row
  parts_stand block offset w k (c ∷ cells) [] b lives is row e = absurd row
  parts_stand block offset w k (Part d u p ∷ cells) (x ∷ bs) b lives is row e =
      let more = both_true ((d == block) && (u == offset) && (p == k)) (are_parts block offset (k + 1) cells) e in
      let third = both_true ((d == block) && (u == offset)) (p == k) more.0 in
      let first = both_true (d == block) (u == offset) third.0 in
      let one : d ≡ block = eqb-true d block first.0 in
      let two : u ≡ offset = eqb-true u offset first.1 in
      let three : p ≡ k = eqb-true p k third.1 in
      let here : x ≡ slice_index (low_bytes 8 w) k =
      row.0.agrees b (ap (live blocks) one ∙ lives)
      ∙ (λ i. slice_index (low_bytes 8 (word_for (name_of names (one i)) (two i))) (three i))
      ∙ ap (λ v. slice_index (low_bytes 8 v) k) (sym is) in
      let rest : bs ≡ bytes_at w (k + 1) (length cells) = parts_stand block offset w (k + 1) cells bs b lives is row.1 more.1 in
      (λ i. here i ∷ rest i)
  parts_stand block offset w k (Unknown ∷ cells) (x ∷ bs) b lives is row e = absurd cc
  parts_stand block offset w k (Byte n ∷ cells) (x ∷ bs) b lives is row e = absurd cc

  module _ (sees : Sees names AnyBlock blocks) where
    -- eight parts of one pointer
    pointer_stands : (block offset : ℕ) (part : ℕ) (cells : List Cell) (bs : List ℕ) → length (Part block offset part ∷ cells) ≡ 8 → RowStands names blocks (Part block offset part ∷ cells) bs
        → are_parts block offset 0 (Part block offset part ∷ cells) ≡ true → Points names AnyBlock blocks block offset (bytes.number_of bs)
    pointer_stands block offset part cells [] eight row e = absurd row
    pointer_stands block offset part cells (x ∷ bs) eight row e = record {
      known = tt;
      made = row.0.made;
      within = row.0.within;
      agrees = λ b lives. (let w = word_for (name_of names block) offset in
          let bounds = word_bounds (name_of names block) (length b.cells) offset (sees.placed block b tt lives) (row.0.within b lives) in
          let small : w < 2 ^ 64 = omega (arith, bounds.1, word_from (name_of names block) offset) in
          let all : x ∷ bs ≡ bytes_at w 0 (length (Part block offset part ∷ cells)) = parts_stand block offset w 0 (Part block offset part ∷ cells) (x ∷ bs) b lives refl row e in
          ap bytes.number_of (all ∙ ap (bytes_at w 0) eight) ∙ number_of-low_bytes-fits 8 w small);
    }

    cells_stand : (cells : List Cell) (bs : List ℕ) (p : Ptr) → length cells ≡ 8 → RowStands names blocks cells bs → pointer_of cells ≡ Some p → PointerStands names AnyBlock blocks p (bytes.number_of bs)
    cells_stand [] bs p eight row e = absurd (omega (arith, eight))
    cells_stand (Part block offset part ∷ cells) bs p eight row e =
        let is = if_some (are_parts block offset 0 (Part block offset part ∷ cells)) (To block offset) p e in
        subst (λ q. PointerStands names AnyBlock blocks q (bytes.number_of bs)) is.1 (pointer_stands block offset part cells bs eight row is.0)
    cells_stand (Byte n ∷ cells) bs p eight row e =
        let is = if_some (are_zeros (Byte n ∷ cells)) Null p e in
        subst (λ q. PointerStands names AnyBlock blocks q (bytes.number_of bs)) is.1 (zeros_stand (Byte n ∷ cells) bs row is.0)
    cells_stand (Unknown ∷ cells) bs p eight row e = absurd cc

    -- what an access reads
    pub read_stands : (how : Access) (cells : List Cell) (bs : List ℕ) (v : Value) → length cells ≡ size_of how → RowStands names blocks cells bs → read how cells ≡ Ok v → Stands names AnyBlock blocks (value v) (word_read how bs)
    read_stands (accesses.Number t) cells bs v long row e =
        let is = mapped (λ bits. values.Num (num t (pos bits))) (number_of cells) v (was_read (has_unknown cells) _ v e) in
        subst (λ u. Stands names AnyBlock blocks (value u) (word_read (accesses.Number t) bs)) is.2 (ap (word_in t) (number_stands cells bs is.0 row is.1))
    read_stands accesses.Pointer cells bs v long row e =
        let is = mapped values.Pointer (pointer_of cells) v (was_read (has_unknown cells) _ v e) in
        subst (λ u. Stands names AnyBlock blocks (value u) (word_read accesses.Pointer bs)) is.2 (cells_stand cells bs is.0 long row is.1)
