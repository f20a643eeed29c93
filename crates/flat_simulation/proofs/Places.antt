-- Where accesses go, over named blocks and over words: through the address in a slot, or without one.
use Rattle.std.proofs.Common.{◌≡◌, ℕ, ◌+◌, ◌*◌, ◌%◌, ◌^◌, ◌<◌, ◌≤◌, ℤ, pos, negsuc, ◌+ℤ◌, ◌*ℤ◌, Bool, true, false, ◌&&◌, ◌==◌, List, length, Option, Some, None, Result, Ok, Err, refl, sym, ap, subst, ◌∙◌, arith}
use Rattle.std.specs.Prelude.{if◌then◌else◌, nat_le, nat_lt}
use Rattle.std.proofs.lemmas.Bool.{ltb-true, eqb-true, le-leb}
use Rattle.std.proofs.lemmas.Bool.Decides.{nat_tests}
use Rattle.std.proofs.lemmas.Int.{ints}
use Rattle.std.proofs.Math.Nat.{mod-eq_of_lt}
use Rattle.ak_words.specs.declared.number.Num.{Num}
use Rattle.block_store.specs.declared.values.Ptr.{Ptr}
use Rattle.block_store.specs.declared.values.Ptr.TheVariants.{Null, To}
use Rattle.block_store.specs.declared.values.Value.{Value}
use Rattle.block_store.specs.declared.values.Value.TheVariants as values
use Rattle.block_store.specs.Blocks.{live}
use Rattle.handle_words.specs.Handle.{id_of, offset_of}
use Rattle.handle_table.specs.Table.{address_of, translated, reached}
use Rattle.arena_meaning.specs.Arena.{Storage}
use Rattle.struct_ir.specs.Nodes.{Place, Ir}
use Rattle.struct_ir.specs.Valid.{Scope, is_place, is_below_if}
use Rattle.struct_ir.specs.meaning.Blocks.{value, Fault, Own}
use Rattle.struct_ir.specs.meaning.Threads as source
use Rattle.struct_ir.specs.meaning.Threads.{offset_in, further, indexed_if, moved_if, on_ok}
use Rattle.flat_words.specs.Words.{word_of, number_word}
use Rattle.flat_meaning.specs.Image.{Layout}
use Rattle.flat_meaning.specs.Words.{Words, word_at, base_address, index_bytes, target_of}
use Rattle.flat_meaning.specs.Names.{Name, heap, plain, name_of, word_for, address_if, address_for}
use Rattle.flat_simulation.specs.inner.Values.{IsPlaced, Stands}
use Rattle.flat_simulation.specs.inner.Calls.{CallStands}
use Rattle.flat_simulation.specs.inner.World.{GoesTo}
use Rattle.flat_simulation.proofs.Numbers.{word_apart}
use Rattle.flat_simulation.proofs.Registers.{scaled, was_value, was_number, was_pointer}

-- ---- a Look

-- the translation of a pointer's word is its block's address, plus its offset
pub translated_word : (s : Storage) (n : Name) (size offset : ℕ) → IsPlaced n size → ((id : ℕ) → n ≡ heap id → (at : ℕ) × (address_of s.table id ≡ Some at)) → offset ≤ size
    → translated s.table (word_for n offset) ≡ (address_for s n + offset) % 2 ^ 64
translated_word s (heap id) size offset p used within =
    let w : ℕ = 2 ^ 63 + id * 2 ^ 32 + offset in
    let one : id_of w ≡ id = omega (arith, p.1) in
    let two : offset_of w ≡ offset = omega (arith, p.1) in
    let at = used id refl in
    let high : nat_le (2 ^ 63) w ≡ true = le-leb (2 ^ 63) w (omega arith) in
    ap (λ b. if b then reached (address_of s.table (id_of w)) (offset_of w) else w) high
    ∙ (λ i. reached (address_of s.table (one i)) (two i))
    ∙ ap (λ a. reached a offset) at.1
    ∙ ap (λ a. (address_if a + offset) % 2 ^ 64) (sym at.1)
translated_word s (plain a) size offset p used within =
    let low : nat_le (2 ^ 63) (a + offset) ≡ false = grind (arith, nat_tests, p.1) in
    rw low (sym (mod-eq_of_lt (omega (arith, p.1))))

-- ---- sums of addresses

-- an index is added, and then an offset
summed : (at o to off scale base : ℕ) (z : ℤ) → base ≡ (at + o) % 2 ^ 64 → pos o +ℤ z *ℤ pos scale ≡ pos to → (base + word_of z * scale + off) % 2 ^ 64 ≡ (at + (to + off)) % 2 ^ 64
summed at o to off scale base z e f =
    let x = word_apart z in
    let w : ℕ = word_of z * scale in
    let g : z *ℤ pos scale +ℤ pos (x.0 * scale * 2 ^ 64) ≡ pos w +ℤ pos (x.1 * scale * 2 ^ 64) = scaled z (word_of z) (2 ^ 64) x.0 x.1 scale x.2 in
    let j : ℕ = x.0 * scale in
    let k : ℕ = x.1 * scale in
    let sums : o + w + k * 2 ^ 64 ≡ to + j * 2 ^ 64 = omega (arith, ints, f, g) in
    omega (arith, e, sums)

-- without an index
unindexed : (at o off base : ℕ) → base ≡ (at + o) % 2 ^ 64 → (base + 0 + off) % 2 ^ 64 ≡ (at + (o + off)) % 2 ^ 64
unindexed at o off base e = omega (arith, e)

-- ---- pointers that an access moves

-- so many bytes further on in one block; null stays
abbrev pub IsFurther : Ptr → ℤ → Ptr → Type 0
IsFurther Null by Null = Unit {0}
IsFurther Null by (To name offset) = ⊥
IsFurther (To block offset) by Null = ⊥
IsFurther (To block offset) by (To name to) = (block ≡ name) × (pos offset +ℤ by ≡ pos to)

offset_further : (place block offset : ℕ) (by z : ℤ) (q : Ptr) → pos offset +ℤ by ≡ z → offset_in place block z ≡ Ok q → IsFurther (To block offset) by q
offset_further place block offset by (negsuc n) q sum e = absurd cc
offset_further place block offset by (pos to) q sum e = let is : To block to ≡ q = cc in subst (IsFurther (To block offset) by) is (refl, sum)

pub is_further : (place : ℕ) (by : ℤ) (p q : Ptr) → further place by p ≡ Ok q → IsFurther p by q
is_further place by Null q e = let is : Null ≡ q = cc in subst (IsFurther Null by) is tt
is_further place by (To block offset) q e = offset_further place block offset by (pos offset +ℤ by) q refl e

pub moved_further : (place off : ℕ) (p q : Ptr) → moved_if place off p ≡ Ok q → IsFurther p (pos off) q
moved_further place off p q e = by_test (off == 0) refl e
  where
    stays : (r : Ptr) → off ≡ 0 → IsFurther r (pos off) r
    stays Null z = tt
    stays (To block offset) z = (refl, omega (arith, ints, z))

    by_test : (b : Bool) → (off == 0) ≡ b → (if b then Ok p else further place (pos off) p) ≡ Ok q → IsFurther p (pos off) q
    by_test true z e = let is : p ≡ q = cc in subst (IsFurther p (pos off)) is (stays p (eqb-true off 0 z))
    by_test false z e = is_further place (pos off) p q e

pub ok_then : {A B : Type 0} (r : Result A Fault) (go : A → Result B Fault) (y : B) → on_ok r go ≡ Ok y → (x : A) × (r ≡ Ok x) × (go x ≡ Ok y)
ok_then (Ok x) go y e = (x, refl, e)
ok_then (Err f) go y e = absurd cc

-- ---- where an access goes

module _ (y : Layout) (p : Ir) (x : Scope) (thread place : ℕ) (names : List Name) (K : ℕ → Type 0) (l : Own) (q : Words) (stands : CallStands y p thread names K l q) (temps : length q.temps ≡ x.temps) (s : Storage) where
  index_word : (i : ℕ) (n : Num) (v : Value) → nat_lt i x.temps ≡ true → l.temps i ≡ value v → v ≡ values.Num n → word_at q i ≡ number_word n
  index_word i n v below e f = subst (λ u. Stands names K l.blocks (value u) (word_at q i)) f (subst (λ h. Stands names K l.blocks h (word_at q i)) e (stands.temps i (subst (λ k. i < k) (sym temps) (ltb-true i x.temps below))))

  -- with an index
  with_index : (n off scale base word : ℕ) (z : ℤ) (from mid to : Ptr) → word ≡ word_of z → GoesTo names l.blocks s from base → IsFurther from (z *ℤ pos scale) mid → IsFurther mid (pos off) to
      → GoesTo names l.blocks s to ((base + word * scale + off) % 2 ^ 64)
  with_index n off scale base word z from mid Null is goes one two = tt
  with_index n off scale base word z Null Null (To c u) is goes one two = absurd two
  with_index n off scale base word z Null (To b o) (To c u) is goes one two = absurd one
  with_index n off scale base word z (To b o) Null (To c u) is goes one two = absurd one
  with_index n off scale base word z (To b o) (To d w) (To c u) is goes one two = λ block lives.
      let same : b ≡ c = one.0 ∙ two.0 in
      let start : base ≡ (address_for s (name_of names b) + o) % 2 ^ 64 = goes block (ap (live l.blocks) same ∙ lives) in
      let sum : w + off ≡ u = omega (arith, ints, two.1) in
      ap (λ k. (base + k * scale + off) % 2 ^ 64) is
      ∙ summed (address_for s (name_of names b)) o w off scale base z start one.1
      ∙ (λ i. (address_for s (name_of names (same i)) + sum i) % 2 ^ 64)

  -- without
  without_index : (off base : ℕ) (from to : Ptr) → GoesTo names l.blocks s from base → IsFurther from (pos off) to → GoesTo names l.blocks s to ((base + 0 + off) % 2 ^ 64)
  without_index off base from Null goes two = tt
  without_index off base Null (To c u) goes two = absurd two
  without_index off base (To b o) (To c u) goes two = λ block lives.
      let start : base ≡ (address_for s (name_of names b) + o) % 2 ^ 64 = goes block (ap (live l.blocks) two.0 ∙ lives) in
      let sum : o + off ≡ u = omega (arith, ints, two.1) in
      unindexed (address_for s (name_of names b)) o off base start ∙ (λ i. (address_for s (name_of names (two.0 i)) + sum i) % 2 ^ 64)

  indexed_goes : (index : Option ℕ) (off scale base : ℕ) (from mid to : Ptr) → is_below_if x.temps index ≡ true → GoesTo names l.blocks s from base → indexed_if place l index scale from ≡ Ok mid → IsFurther mid (pos off) to
      → GoesTo names l.blocks s to ((base + index_bytes q index scale + off) % 2 ^ 64)
  indexed_goes None off scale base from mid to below goes e two = let is : from ≡ mid = cc in without_index off base from to goes (subst (λ r. IsFurther r (pos off) to) (sym is) two)
  indexed_goes (Some i) off scale base from mid to below goes e two =
      let v = was_value place (l.temps i) _ mid e in
      let n = was_number _ v.0 mid v.2 in
      with_index i off scale base (word_at q i) n.0.value from mid to (index_word i n.0 v.0 below v.1 n.1) goes (is_further place (n.0.value *ℤ pos scale) from mid n.2) two

  -- from where its base leads, an access goes to its pointer's address
  pub place_goes : (a : Place) (to : Ptr) → is_place x a ≡ true → ((from : Ptr) → l.temps a.base ≡ value (values.Pointer from) → GoesTo names l.blocks s from (base_address q a.base a.slot)) → source.address_of place l a ≡ Ok to
      → GoesTo names l.blocks s to (target_of q a).address
  place_goes a to ok base e =
      let v = was_value place (l.temps a.base) _ to e in
      let from = was_pointer _ v.0 to v.2 in
      let mid = ok_then (indexed_if place l a.index a.scale from.0) (moved_if place a.offset) to from.2 in
      let below = both (is_below_if x.temps a.index) _ (both (nat_lt a.base x.temps) _ ok).1 in
      indexed_goes a.index a.offset a.scale (base_address q a.base a.slot) from.0 mid.0 to below.0 (base from.0 (v.1 ∙ ap value from.1)) mid.1 (moved_further place a.offset mid.0 to mid.2)
    where
      both : (a b : Bool) → (a && b) ≡ true → (a ≡ true) × (b ≡ true)
      both true b e = (refl, e)
      both false b e = absurd cc
