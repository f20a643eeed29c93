-- Texts that break no rule: what is read of them over cells, and over bytes with room for so many.
use Rattle.std.proofs.Common.{◌≡◌, ℕ, zero, suc, ◌+◌, ◌-◌, ◌%◌, ◌^◌, ◌<◌, true, false, ◌&&◌, List, [], ◌∷◌, ◌++◌, length, take, drop, Option, Some, None, Result, Ok, Err, refl, sym, ap, ◌∙◌, inl, inr, arith}
use Rattle.std.specs.Prelude.{if◌then◌else◌, nat_le, nat_lt}
use Rattle.std.proofs.Math.Nat.{mod-eq_of_lt}
use Rattle.std.proofs.lemmas.Bool.{cases_lt, le-leb, lt-ltb}
use Rattle.std.proofs.lemmas.Bool.Decides.{nat_tests}
use Rattle.std.proofs.lemmas.List.{length-drop, take_all, take-append-drop}
use Rattle.ak_words.specs.declared.rule.Rule.{Rule}
use Rattle.block_store.specs.declared.values.Cell.{Cell}
use Rattle.block_store.specs.declared.values.Cell.TheVariants.{Unknown, Byte, Part}
use Rattle.block_store.specs.declared.values.Ptr.{Ptr}
use Rattle.block_store.specs.declared.values.Ptr.TheVariants.{Null, To}
use Rattle.block_store.specs.Blocks.{Block, Blocks, live}
use Rattle.block_store.specs.Texts as source
use Rattle.block_store.specs.Texts.{behind_byte, text_of}
use Rattle.flat_store.specs.Flat.{first_address}
use Rattle.arena_meaning.specs.Arena.{Storage}
use Rattle.flat_meaning.specs.Names.{Name, name_of, address_for}
use Rattle.flat_meaning.specs.Printing.{Read, reads, outside, too_long, behind, text_in, text_at}
use Rattle.flat_simulation.specs.inner.Cells.{RowStands}
use Rattle.flat_simulation.specs.inner.World.{BlocksStand, GoesTo}
use Rattle.flat_simulation.proofs.Placed.{in_bytes}
use Rattle.flat_simulation.proofs.Memory.{row_read}

-- what is read where so many bytes may come
abbrev pub fitted : (room : ℕ) → List ℕ → Read
fitted room all = if nat_le (length all) room then reads all else too_long

-- one byte more
one_more : (b room : ℕ) (all : List ℕ) → behind (b ∷ []) (fitted room all) ≡ fitted (suc room) (b ∷ all)
one_more b room all = elim (cases_lt room (length all)) [
  | inl long ↦
      let here : nat_le (length all) room ≡ false = grind (arith, nat_tests) in
      let there : nat_le (suc (length all)) (suc room) ≡ false = grind (arith, nat_tests) in
      rw (here, there) refl
  | inr fits ↦
      let here : nat_le (length all) room ≡ true = le-leb (length all) room fits in
      let there : nat_le (suc (length all)) (suc room) ≡ true = le-leb (suc (length all)) (suc room) (omega arith) in
      rw (here, there) refl
]

pub behind_one : (b : ℕ) (r : Result (List ℕ) Rule) (all : List ℕ) → behind_byte b r ≡ Ok all → (rest : List ℕ) × (r ≡ Ok rest) × (b ∷ rest ≡ all)
behind_one b (Ok rest) all e = (rest, refl, cc)
behind_one b (Err rule) all e = absurd cc

module _ (names : List Name) (blocks : Blocks) where
  -- the bytes of a row that the cells stand for, and more behind them
  pub text_row : (cells : List Cell) (row rest : List ℕ) (at room : ℕ) (all : List ℕ) → RowStands names blocks cells row → text_of cells ≡ Ok all → text_in at (row ++ rest) room ≡ fitted room all
  text_row [] row rest at room all stands e = absurd cc
  text_row (c ∷ cells) [] rest at room all stands e = absurd stands
  text_row (Byte zero ∷ cells) (b ∷ row) rest at room all stands e =
      let none : [] ≡ all = cc in
      ap (λ x. text_in at (x ∷ (row ++ rest)) room) stands.0 ∙ sym (ap (λ t. if t then reads [] else too_long) (le-leb 0 room (omega arith))) ∙ ap (fitted room) none
  text_row (Byte (suc n) ∷ cells) (b ∷ row) rest at zero all stands e =
      let more = behind_one (suc n) (text_of cells) all e in
      let long : nat_le (suc (length more.0)) 0 ≡ false = grind (arith, nat_tests) in
      ap (λ x. text_in at (x ∷ (row ++ rest)) 0) stands.0 ∙ sym (ap (λ t. if t then reads (suc n ∷ more.0) else too_long) long) ∙ ap (fitted 0) more.2
  text_row (Byte (suc n) ∷ cells) (b ∷ row) rest at (suc room) all stands e =
      let more = behind_one (suc n) (text_of cells) all e in
      ap (λ x. text_in at (x ∷ (row ++ rest)) (suc room)) stands.0
      ∙ ap (behind (suc n ∷ [])) (text_row cells row rest (suc at) room more.0 stands.1 more.1)
      ∙ one_more (suc n) room more.0
      ∙ ap (fitted (suc room)) more.2
  text_row (Unknown ∷ cells) (b ∷ row) rest at room all stands e = absurd cc
  text_row (Part block offset part ∷ cells) (b ∷ row) rest at room all stands e = absurd cc

-- ---- a text at a pointer

pub has_some : (cells : List Cell) (all : List ℕ) → text_of cells ≡ Ok all → 0 < length cells
has_some [] all e = absurd cc
has_some (c ∷ cells) all e = omega arith

module _ (names : List Name) (blocks : Blocks) (s : Storage) (stand : BlocksStand names blocks s) where
  text_in_block : (block offset a room : ℕ) (b : Block) (all : List ℕ) → live blocks block ≡ Some b → a ≡ (address_for s (name_of names block) + offset) % 2 ^ 64 → text_of (drop offset b.cells) ≡ Ok all → text_at s.bytes a room ≡ fitted room all
  text_in_block block offset a room b all lives at e =
      let n : ℕ = length b.cells - offset in
      let short = length-drop offset b.cells in
      let some : offset < length b.cells = omega (arith, has_some (drop offset b.cells) all e, short) in
      let there = in_bytes names blocks s stand.consistent stand.names_stand block b lives in
      let here : a ≡ address_for s (name_of names block) + offset = at ∙ mod-eq_of_lt (omega (arith, there.1, stand.consistent.whole, stand.consistent.small)) in
      let k : ℕ = address_for s (name_of names block) + offset - first_address in
      let row = row_read names blocks s stand.consistent stand.names_stand stand.memory block b lives offset n (omega arith) in
      let cells : take n (drop offset b.cells) ≡ drop offset b.cells = take_all n (drop offset b.cells) (omega (arith, short)) in
      let low : nat_le first_address (address_for s (name_of names block) + offset) ≡ true = le-leb first_address (address_for s (name_of names block) + offset) (omega (arith, there.0)) in
      let high : nat_lt (address_for s (name_of names block) + offset) (first_address + length s.bytes) ≡ true = lt-ltb (address_for s (name_of names block) + offset) (first_address + length s.bytes) (omega (arith, there.1)) in
      ap (λ x. text_at s.bytes x room) here
      ∙ (λ i. if low i && high i then text_in (address_for s (name_of names block) + offset) (drop k s.bytes) room else outside (address_for s (name_of names block) + offset))
      ∙ ap (λ bs. text_in (address_for s (name_of names block) + offset) bs room) (sym (take-append-drop n (drop k s.bytes)))
      ∙ text_row names blocks (take n (drop offset b.cells)) (take n (drop k s.bytes)) (drop n (drop k s.bytes)) (address_for s (name_of names block) + offset) room all row (ap text_of cells ∙ e)

  -- a text is read that has room, and one that hasn't ends the print
  pub text_stands : (p : Ptr) (a room : ℕ) (all : List ℕ) → GoesTo names blocks s p a → source.text_at blocks p ≡ Ok all → text_at s.bytes a room ≡ fitted room all
  text_stands Null a room all goes e = absurd cc
  text_stands (To block offset) a room all goes e = by_block (live blocks block) refl e
    where
      by_block : (o : Option Block) → live blocks block ≡ o → source.text_in offset o ≡ Ok all → text_at s.bytes a room ≡ fitted room all
      by_block None lives e = absurd cc
      by_block (Some b) lives e = text_in_block block offset a room b all lives (goes b lives) e
