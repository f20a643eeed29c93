-- The operands of a step over named blocks stand for those over words.
use Rattle.std.proofs.Common.{◌≡◌, ◌≢◌, ℕ, ℤ, ◌<◌, pos, negsuc, ◌*ℤ◌, true, List, [], ◌∷◌, length, map, Option, Some, None, Ok, refl, sym, ap, subst, ◌∙◌, inl, inr, arith}
use Rattle.std.specs.Prelude.{nat_lt, unsigned_abs}
use Rattle.std.specs.List.{list_all}
use Rattle.std.proofs.lemmas.Bool.{ltb-true, and_parts}
use Rattle.std.proofs.lemmas.Int.{ints}
use Rattle.ak_words.specs.declared.number.Num.{Num}
use Rattle.ak_words.specs.IntType.{IsInRange, unsigned_long}
use Rattle.block_store.specs.declared.values.Access.{Access}
use Rattle.block_store.specs.declared.values.Access.TheVariants as accesses
use Rattle.block_store.specs.declared.values.Ptr.{Ptr}
use Rattle.block_store.specs.declared.values.Ptr.TheVariants.{Null, To}
use Rattle.block_store.specs.declared.values.Value.{Value}
use Rattle.block_store.specs.declared.values.Value.TheVariants as values
use Rattle.block_store.specs.Blocks.{Block, live}
use Rattle.block_store.specs.Cells.{access_of}
use Rattle.arena_meaning.specs.Arena.{Storage}
use Rattle.struct_ir.specs.Nodes.{Place, Ir}
use Rattle.struct_ir.specs.Valid.{Scope, is_place, are_below}
use Rattle.struct_ir.specs.Pins.{Among}
use Rattle.struct_ir.specs.meaning.Blocks.{Held, value, unset, missing, Own, known, same_type}
use Rattle.struct_ir.specs.meaning.Threads.{address_of, all_of, indexed_if, moved_if, fits, number_of}
use Rattle.flat_words.specs.Words.{word_of, number_word}
use Rattle.flat_meaning.specs.Image.{Layout}
use Rattle.flat_meaning.specs.Words.{Words, word_at, base_address, target_of}
use Rattle.flat_meaning.specs.Names.{Name, name_of}
use Rattle.flat_simulation.specs.inner.Values.{AnyBlock, PointerStands, Stands, Sees}
use Rattle.flat_simulation.specs.inner.Calls.{CallStands}
use Rattle.flat_simulation.specs.inner.World.{GoesTo}
use Rattle.flat_simulation.specs.inner.Operands.{TargetStands, TargetsStand, WordsStand}
use Rattle.flat_simulation.proofs.Numbers.{word_small, same_types}
use Rattle.flat_simulation.proofs.Pointers.{word_from, word_bounds}
use Rattle.flat_simulation.proofs.Registers.{was_value, was_number, was_pointer}
use Rattle.flat_simulation.proofs.Places.{IsFurther, is_further, moved_further, ok_then, place_goes}
use Rattle.flat_simulation.proofs.Printed.{HaveWords}

-- ---- numbers

-- a size or a thread's number is its word
pub count_word : (n : Num) → same_type unsigned_long n.ty ≡ true → number_word n ≡ unsigned_abs n.value
count_word n same = of_value n.value (subst (λ t. IsInRange t n.value) (sym (same_types unsigned_long n.ty same)) n.in_range)
  where
    of_value : (z : ℤ) → IsInRange unsigned_long z → word_of z ≡ unsigned_abs z
    of_value (pos k) range = word_small k (omega (arith, ints, range.1))
    of_value (negsuc k) range = absurd (omega (arith, ints, range.0))

-- a value fits its own access alone
pub fits_own : (how : Access) (v : Value) → fits how v ≡ true → how ≡ access_of v
fits_own (accesses.Number t) (values.Num n) e = ap accesses.Number (same_types t n.ty e)
fits_own (accesses.Number t) (values.Pointer p) e = absurd cc
fits_own accesses.Pointer (values.Num n) e = absurd cc
fits_own accesses.Pointer (values.Pointer p) e = refl

-- ---- pointers

-- a pointer that was moved points into the block that it pointed into
still_null : (p : Ptr) (by : ℤ) (q : Ptr) → IsFurther p by q → q ≡ Null → p ≡ Null
still_null Null by Null far is = refl
still_null Null by (To block offset) far is = absurd far
still_null (To block offset) by Null far is = absurd far
still_null (To block offset) by (To name to) far is = absurd cc

abbrev PointsInto : Ptr → (block : ℕ) → Type 0
PointsInto Null block = ⊥
PointsInto (To name offset) block = name ≡ block

still_in : (p : Ptr) (by : ℤ) (q : Ptr) (block : ℕ) → IsFurther p by q → PointsInto q block → PointsInto p block
still_in Null by Null block far is = is
still_in Null by (To name offset) block far is = absurd far
still_in (To name offset) by Null block far is = absurd far
still_in (To name offset) by (To other to) block far is = far.0 ∙ is

module _ (y : Layout) (p : Ir) (x : Scope) (thread place : ℕ) (names : List Name) (l : Own) (q : Words) (stands : CallStands y p thread names AnyBlock l q) (temps : length q.temps ≡ x.temps) (s : Storage) (sees : Sees names AnyBlock l.blocks) where
  -- ---- registers

  was_known : (h : Held) (v : Value) → known place h ≡ Ok v → h ≡ value v
  was_known (value u) v e = let is : u ≡ v = cc in ap value is
  was_known unset v e = absurd cc
  was_known missing v e = absurd cc

  pub register_stands : (r : ℕ) (v : Value) → nat_lt r x.temps ≡ true → l.temps r ≡ value v → Stands names AnyBlock l.blocks (value v) (word_at q r)
  register_stands r v below e = subst (λ h. Stands names AnyBlock l.blocks h (word_at q r)) e (stands.temps r (subst (λ n. r < n) (sym temps) (ltb-true r x.temps below)))

  pub words_stand : (rs : List ℕ) (vs : List Value) → are_below x.temps rs ≡ true → all_of (λ r. known place (l.temps r)) rs ≡ Ok vs → WordsStand names l.blocks vs (map (word_at q) rs)
  words_stand [] [] below e = tt
  words_stand [] (v ∷ vs) below e = absurd cc
  words_stand (r ∷ rs) vs below e =
      let two = and_parts (nat_lt r x.temps) (are_below x.temps rs) below in
      let one = ok_then (known place (l.temps r)) _ vs e in
      let rest = ok_then (all_of (λ k. known place (l.temps k)) rs) _ vs one.2 in
      let is : one.0 ∷ rest.0 ≡ vs = cc in
      subst (λ us. WordsStand names l.blocks us (word_at q r ∷ map (word_at q) rs)) is (register_stands r one.0 two.0 (was_known (l.temps r) one.0 one.1), words_stand rs rest.0 two.1 rest.1)

  -- ---- places

  indexed_further : (index : Option ℕ) (scale : ℕ) (from mid : Ptr) → indexed_if place l index scale from ≡ Ok mid → (by : ℤ) × IsFurther from by mid
  indexed_further None scale from mid e = let is : from ≡ mid = cc in (pos 0, subst (IsFurther from (pos 0)) is (stays from))
    where
      stays : (r : Ptr) → IsFurther r (pos 0) r
      stays Null = tt
      stays (To block offset) = (refl, omega (arith, ints))
  indexed_further (Some i) scale from mid e =
      let v = was_value place (l.temps i) _ mid e in
      let n = was_number _ v.0 mid v.2 in
      (n.0.value *ℤ pos scale, is_further place (n.0.value *ℤ pos scale) from mid n.2)

  base_some : (from : Ptr) (word block : ℕ) (b : Block) → PointerStands names AnyBlock l.blocks from word → PointsInto from block → live l.blocks block ≡ Some b → word ≢ 0
  base_some Null word block b points into lives zero = into
  base_some (To name offset) word block b points into lives zero =
      let here : live l.blocks name ≡ Some b = ap (live l.blocks) into ∙ lives in
      let bounds = word_bounds (name_of names name) (length b.cells) offset (sees.placed name b tt here) (points.within b here) in
      omega (arith, bounds.0, word_from (name_of names name) offset, points.agrees b here, zero)

  pub target_stands : (a : Place) (to : Ptr) → is_place x a ≡ true → ((from : Ptr) → l.temps a.base ≡ value (values.Pointer from) → GoesTo names l.blocks s from (base_address q a.base a.slot)) → address_of place l a ≡ Ok to
      → TargetStands names l.blocks s to (target_of q a)
  target_stands a to ok leads e =
      let v = was_value place (l.temps a.base) _ to e in
      let from = was_pointer _ v.0 to v.2 in
      let mid = ok_then (indexed_if place l a.index a.scale from.0) (moved_if place a.offset) to from.2 in
      let one = indexed_further a.index a.scale from.0 mid.0 mid.1 in
      let two = moved_further place a.offset mid.0 to mid.2 in
      let points : PointerStands names AnyBlock l.blocks from.0 (word_at q a.base) = register_stands a.base (values.Pointer from.0) (and_parts (nat_lt a.base x.temps) _ ok).0 (v.1 ∙ ap value from.1) in
      record {
        goes = place_goes y p x thread place names AnyBlock l q stands temps s a to ok leads e;
        null = λ is. null_word from.0 points (still_null from.0 one.0 mid.0 one.1 (still_null mid.0 (pos a.offset) to two is));
        some = λ block offset b is lives. base_some from.0 (word_at q a.base) block b points (still_in from.0 one.0 mid.0 block one.1 (still_in mid.0 (pos a.offset) to block two (subst (λ r. PointsInto r block) (sym is) refl))) lives;
      }
    where
      null_word : (from : Ptr) → PointerStands names AnyBlock l.blocks from (word_at q a.base) → from ≡ Null → word_at q a.base ≡ 0
      null_word Null points is = points
      null_word (To block offset) points is = absurd cc

  pub targets_stand : (places : List Place) (ps : List Ptr) → list_all (is_place x) places ≡ true
      → ((a : Place) → Among places a → (from : Ptr) → l.temps a.base ≡ value (values.Pointer from) → GoesTo names l.blocks s from (base_address q a.base a.slot)) → all_of (address_of place l) places ≡ Ok ps
      → TargetsStand names l.blocks s ps (map (target_of q) places)
  targets_stand [] [] ok leads e = tt
  targets_stand [] (r ∷ ps) ok leads e = absurd cc
  targets_stand (a ∷ places) ps ok leads e =
      let two = and_parts (is_place x a) (list_all (is_place x) places) ok in
      let one = ok_then (address_of place l a) _ ps e in
      let rest = ok_then (all_of (address_of place l) places) _ ps one.2 in
      let is : one.0 ∷ rest.0 ≡ ps = cc in
      subst (λ us. TargetsStand names l.blocks s us (target_of q a ∷ map (target_of q) places)) is
      (target_stands a one.0 two.0 (leads a (inl refl)) one.1, targets_stand places rest.0 two.1 (λ c among. leads c (inr among)) rest.1)

-- ---- what a print takes

pub have_words : (names : List Name) (l : Own) (vs : List Value) (ws : List ℕ) (zs : List ℤ) → WordsStand names l.blocks vs ws → all_of number_of vs ≡ Ok zs → HaveWords zs ws
have_words names l [] [] [] stand e = tt
have_words names l [] [] (z ∷ zs) stand e = absurd cc
have_words names l [] (w ∷ ws) zs stand e = absurd stand
have_words names l (v ∷ vs) [] zs stand e = absurd stand
have_words names l (values.Pointer p ∷ vs) (w ∷ ws) zs stand e = absurd cc
have_words names l (values.Num n ∷ vs) (w ∷ ws) zs stand e =
    let rest = ok_then (all_of number_of vs) _ zs e in
    let is : n.value ∷ rest.0 ≡ zs = cc in
    subst (λ us. HaveWords us (w ∷ ws)) is (stand.0, have_words names l vs ws rest.0 stand.1 rest.1)
