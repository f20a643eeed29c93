-- Copies that break no rule, over named blocks and over bytes.
use Rattle.std.proofs.Common.{◌≡◌, ℕ, zero, suc, ◌+◌, ◌-◌, ◌<◌, ◌≤◌, Bool, true, false, ◌==◌, List, [], ◌∷◌, ◌++◌, length, take, drop, None, Result, Ok, Err, refl, sym, ap, subst, ◌∙◌, arith}
use Rattle.std.specs.Prelude.{if◌then◌else◌}
use Rattle.std.proofs.lemmas.Bool.{ne_eqb}
use Rattle.std.proofs.lemmas.List.{take-append-drop}
use Rattle.ak_words.specs.declared.rule.Rule.{Rule}
use Rattle.ak_words.specs.declared.rule.Rule.TheVariants.{C11, C12}
use Rattle.block_store.specs.declared.values.Cell.TheVariants.{Unknown}
use Rattle.block_store.specs.declared.values.Ptr.{Ptr}
use Rattle.block_store.specs.Blocks as source
use Rattle.block_store.specs.Blocks.{Blocks, Range, range_at, cells_at, with_cells_at, is_literal, clash, copied_between}
use Rattle.flat_store.specs.Flat.{first_address, bytes_from, with_bytes, first_of}
use Rattle.ak_trace.specs.declared.endings.TrapKind.TheVariants as kinds
use Rattle.flat_meaning.specs.Words.{Target}
use Rattle.flat_meaning.specs.Memory.{Memory, with_storage, written}
use Rattle.flat_meaning.specs.Accesses as words
use Rattle.flat_meaning.specs.Accesses.{went, within}
use Rattle.flat_meaning.specs.Names.{Name}
use Rattle.flat_simulation.specs.inner.Cells.{RowStands}
use Rattle.flat_simulation.specs.inner.World.{BlocksStand, GoesTo}
use Rattle.flat_simulation.proofs.Blocks.{aged_still}
use Rattle.flat_simulation.proofs.Rows.{part_length}
use Rattle.flat_simulation.proofs.Memory.{row_read}
use Rattle.flat_simulation.proofs.Accesses.{found, reaches, there_at, IsWritten, write_stands}

-- no byte is written
nothing_over : (bytes : List ℕ) (at : ℕ) → with_bytes bytes at [] ≡ bytes
nothing_over bytes at =
    let k = at - first_address in
    let same : k + 0 ≡ k = omega arith in
    ap (λ n. take k bytes ++ [] ++ drop n bytes) same ∙ ap (λ xs. xs ++ drop k bytes) (append_nothing (take k bytes)) ∙ take-append-drop k bytes
  where
    append_nothing : (xs : List ℕ) → xs ++ [] ≡ xs
    append_nothing [] = refl
    append_nothing (x ∷ xs) = ap (λ z. x ∷ z) (append_nothing xs)

nothing_written : (m : Memory) (at : ℕ) → written m at [] ≡ m
nothing_written m at = ap (λ bytes. with_storage m (record m.storage { bytes = bytes })) (nothing_over m.storage.bytes at)

-- both ranges were found
pub record WereFound (blocks : Blocks) (n : ℕ) (to from : Result Range Rule) (later : Blocks) : Type 0 where
  pub target : Range
  pub source : Range
  pub to_is : to ≡ Ok target
  pub from_is : from ≡ Ok source
  pub later_is : with_cells_at blocks (cells_at n source) target ≡ later

unless : (literal clashes : Bool) (x later : Blocks) → (if literal then Err C12 else (if clashes then Err C11 else Ok x)) ≡ Ok later → x ≡ later
unless true clashes x later e = absurd cc
unless false true x later e = absurd cc
unless false false x later e = cc

pub were_found : (blocks : Blocks) (n : ℕ) (same : Bool) (to from : Result Range Rule) (later : Blocks) → copied_between blocks n same to from ≡ Ok later → WereFound blocks n to from later
were_found blocks n same (Err rule) from later e = absurd cc
were_found blocks n same (Ok to) (Err rule) later e = absurd cc
were_found blocks n same (Ok to) (Ok from) later e = record { target = to; source = from; to_is = refl; from_is = refl; later_is = unless (is_literal to.block.kind) (clash n same to from) _ later e }

module _ (names : List Name) (blocks : Blocks) (m : Memory) (stand : BlocksStand names blocks m.storage) where
  pub record IsCopied (to from : Target) (n : ℕ) (later : Blocks) : Type 0 where
    pub went : words.copied to from n m ≡ went None (written m to.address (bytes_from m.storage.bytes from.address n))
    pub after : IsWritten names blocks m stand later to.address (bytes_from m.storage.bytes from.address n)

  none_copied : (to from : Target) → IsCopied to from 0 blocks
  none_copied to from = record {
    went = refl;
    after = record {
      stands = subst (λ (x : Memory). BlocksStand names blocks x.storage) (sym (nothing_written m to.address)) stand;
      ages = aged_still names blocks stand.names_stand.each;
    };
  }

  some_copied : (to from : Ptr) (a b : Target) (n align : ℕ) (same : Bool) (later : Blocks) → 0 < n → GoesTo names blocks m.storage to a.address → GoesTo names blocks m.storage from b.address
      → copied_between blocks n same (range_at blocks n align to) (range_at blocks n align from) ≡ Ok later → IsCopied a b n later
  some_copied to from a b n align same later some goes comes e =
      let w = were_found blocks n same (range_at blocks n align to) (range_at blocks n align from) later e in
      let f = found blocks n align to w.target w.to_is in
      let g = found blocks n align from w.source w.from_is in
      let no_target = there_at names blocks m stand n to w.target a.address some f goes in
      let no_source = there_at names blocks m stand n from w.source b.address some g comes in
      let here = reaches names blocks m stand n to w.target a.address some f goes in
      let there = reaches names blocks m stand n from w.source b.address some g comes in
      let row = row_read names blocks m.storage stand.consistent stand.names_stand stand.memory w.source.name w.source.block g.lives w.source.offset n g.within in
      let long : length (cells_at n w.source) ≡ n = part_length w.source.block.cells w.source.offset n Unknown g.within in
      let bytes : List ℕ = bytes_from m.storage.bytes b.address n in
      let read : RowStands names blocks (cells_at n w.source) bytes = subst (λ x. RowStands names blocks (cells_at n w.source) (bytes_from m.storage.bytes x n)) (sym there) row in
      record {
        went = (λ i. within kinds.Copy (first_of (no_target i) (no_source i)) (went None (written m a.address bytes)));
        after = subst (λ x. IsWritten names blocks m stand x a.address bytes) w.later_is (subst (λ x. IsWritten names blocks m stand (with_cells_at blocks (cells_at n w.source) w.target) x bytes) (sym here)
            (write_stands names blocks m stand (cells_at n w.source) w.target bytes f.lives (subst (λ k. w.target.offset + k ≤ length w.target.block.cells) (sym long) f.within) read));
      }

  -- a copy
  pub copy_stands : (to from : Ptr) (a b : Target) (n align : ℕ) (same : Bool) (later : Blocks) → GoesTo names blocks m.storage to a.address → GoesTo names blocks m.storage from b.address → source.copied blocks to from n align same ≡ Ok later → IsCopied a b n later
  copy_stands to from a b zero align same later goes comes e = let is : blocks ≡ later = cc in subst (IsCopied a b 0) is (none_copied a b)
  copy_stands to from a b (suc n) align same later goes comes e =
      let some : (suc n == 0) ≡ false = ne_eqb (suc n) 0 (λ q. omega (arith, q)) in
      some_copied to from a b (suc n) align same later (omega arith) goes comes
      (subst (λ c. (if c then Ok blocks else copied_between blocks (suc n) same (range_at blocks (suc n) align to) (range_at blocks (suc n) align from)) ≡ Ok later) some e)
