-- The blocks of globals and literals at the start.
use Rattle.std.proofs.Common.{◌≡◌, ◌≤◌, ◌<◌, ◌+◌, ℕ, List, [], ◌∷◌, ◌++◌, length, map, drop, get_or, replicate, Option, Some, Ok, refl, sym, ap, ◌∙◌, arith, append_assoc, append-nil, le-leb}
use Rattle.std.proofs.lemmas.List.{length-map, length-replicate, drop_all}
use Rattle.std.proofs.Math.Nat.{zero-add, zero-mod}
use Rattle.std.proofs.Math.Seq.{set-append_seam}
use Rattle.ak_words.proofs.Bytes.{length-low_bytes}
use Rattle.ak_words.specs.Bytes.{low_bytes}
use Rattle.ak_words.specs.Wrapped.{bit_pattern}
use Rattle.block_store.specs.declared.values.BlockKind.TheVariants.{Global}
use Rattle.block_store.specs.declared.values.Cell.{Cell}
use Rattle.block_store.specs.declared.values.Cell.TheVariants.{Byte}
use Rattle.block_store.specs.declared.values.Ptr.TheVariants.{Null, To}
use Rattle.block_store.specs.declared.values.Value.{Value}
use Rattle.block_store.specs.declared.values.Value.TheVariants as values
use Rattle.block_store.specs.declared.values.BlockKind.TheVariants as kinds
use Rattle.block_store.specs.Blocks.{Block, Blocks, live, range_in, stored, with_cells, made, literal_block, store_after}
use Rattle.block_store.specs.Cells.{size_of, access_of, cells_of}
use Rattle.c_tree.specs.TypedViews.{global_view, layout_view, literal_view}
use Rattle.c_meaning.specs.Meaning.{first_blocks}
use Rattle.source_tree.specs.declared.tree.SharedProgram.{SharedProgram}
use Rattle.source_tree.specs.SharedViews.{program_of}
use Rattle.block_meaning.proofs.Lists.{drop_read}
use Rattle.block_meaning.specs.inner.Starts.{global_in}

-- so many cells
cells_count : (v : Value) → length (cells_of v) ≡ size_of (access_of v)
cells_count (values.Num n) = length-map (low_bytes (size_of (access_of (values.Num n))) (bit_pattern n.ty n.value)) Byte ∙ length-low_bytes (size_of (access_of (values.Num n))) (bit_pattern n.ty n.value)
cells_count (values.Pointer Null) = refl
cells_count (values.Pointer (To block offset)) = refl

-- the newest block
newest : (B : Blocks) (b : Block) → live (B ++ Some b ∷ []) (length B) ≡ Some b
newest [] b = refl
newest (x ∷ B) b = newest B b

-- a whole block is a range
whole : (n name : ℕ) (b : Block) → length b.cells ≡ n → range_in n n name 0 (Some b) ≡ Ok (record { name = name; block = b; offset = 0 })
whole n name b e = rw e (rw (zero-add n, le-leb n n (omega arith), zero-mod n) refl)

-- all cells are new
replaced : (n : ℕ) (c : Cell) (new : List Cell) → length new ≡ n → with_cells (replicate n c) 0 new ≡ new
replaced n c new e = rw e (ap (λ l. new ++ l) (drop_all (0 + n) (replicate n c) (omega (arith, length-replicate n c))) ∙ append-nil new)

pub stored_in_newest : (B : Blocks) (v : Value) → stored (B ++ Some (record { kind = Global; cells = replicate (size_of (access_of v)) (Byte 0) }) ∷ []) (To (length B) 0) v ≡ Ok (B ++ Some (record { kind = Global; cells = cells_of v }) ∷ [])
stored_in_newest B v =
    let n = size_of (access_of v) in
    let b : Block = record { kind = Global; cells = replicate n (Byte 0) } in
    rw (newest B b, whole n (length B) b (length-replicate n (Byte 0)), replaced n (Byte 0) (cells_of v) (cells_count v), set-append_seam B (Some b) [] (Some (record { kind = Global; cells = cells_of v }))) refl

-- the next block holds exactly this value
pub value_made : (B mid new : Blocks) (v : Value) (block size : ℕ) → block ≡ length B → mid ≡ made B size kinds.Global (Byte 0) → new ≡ store_after (stored mid (To block 0) v) mid → size ≡ size_of (access_of v)
    → new ≡ B ++ Some (record { kind = kinds.Global; cells = cells_of v }) ∷ []
value_made B mid new v block size e g h f =
    h ∙ ap (λ (m : Blocks). store_after (stored m (To block 0) v) m) (g ∙ ap (λ n. made B n kinds.Global (Byte 0)) f)
    ∙ ap (λ n. store_after (stored (made B (size_of (access_of v)) kinds.Global (Byte 0)) (To n 0) v) (made B (size_of (access_of v)) kinds.Global (Byte 0))) e
    ∙ ap (λ r. store_after r (made B (size_of (access_of v)) kinds.Global (Byte 0))) (stored_in_newest B v)

-- the block of one thing more, behind those before it
pub one_more : {A : Type 0} (block : A → Option Block) (B new : Blocks) (x : A) (all : List A) (i : ℕ) → i < length all → x ≡ get_or all i x → new ≡ B ++ block x ∷ []
    → new ++ map block (drop (i + 1) all) ≡ B ++ map block (drop i all)
one_more block B new x all i h e n =
    ap (λ (l : Blocks). l ++ map block (drop (i + 1) all)) n
    ∙ append_assoc B (block x ∷ []) (map block (drop (i + 1) all))
    ∙ ap (λ l. B ++ map block l) (sym (drop_read all i x h e))

-- those of all
pub no_more : {A : Type 0} (block : A → Option Block) (B first : Blocks) (all : List A) (i : ℕ) → length all ≤ i → B ++ map block (drop i all) ≡ first ++ map block all → B ≡ first ++ map block all
no_more block B first all i h e = sym (append-nil B) ∙ ap (λ l. B ++ map block l) (sym (drop_all i all h)) ∙ e

-- the blocks of a program: its globals, of which there are so many, and then its literals
pub first_are : (p : SharedProgram) (globals all : Blocks) → globals ≡ map (global_in (map layout_view p.structs.items) (length p.globals.items)) (map global_view p.globals.items) → all ≡ globals ++ map literal_block (map literal_view p.literals.items)
    → all ≡ first_blocks (program_of p)
first_are p globals all e f =
    f ∙ ap (λ (l : Blocks). l ++ map literal_block (map literal_view p.literals.items)) (e ∙ ap (λ n. map (global_in (map layout_view p.structs.items) n) (map global_view p.globals.items)) (sym (length-map p.globals.items global_view)))
