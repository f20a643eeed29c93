-- Pointers into named blocks, and their words: moved, tested, told apart and subtracted.
use Rattle.std.proofs.Common.{◌≡◌, ◌≢◌, ℕ, ◌+◌, ◌*◌, ◌%◌, ◌^◌, ◌<◌, ◌≤◌, ℤ, pos, negsuc, ◌+ℤ◌, Bool, true, false, ◌==◌, leb, List, length, Option, Some, None, Ok, Err, refl, sym, ap, subst, ◌∙◌, arith, inl, inr}
use Rattle.std.specs.Prelude.{if◌then◌else◌, nat_le}
use Rattle.std.proofs.lemmas.Int.{ints}
use Rattle.std.proofs.lemmas.Bool.{eqb-true, le-leb, leb-true}
use Rattle.std.proofs.lemmas.Bool.Decides.{nat_tests}
use Rattle.ak_words.specs.declared.rule.Rule.TheVariants.{C7}
use Rattle.block_store.specs.declared.values.Ptr.{Ptr}
use Rattle.block_store.specs.declared.values.Ptr.TheVariants.{Null, To}
use Rattle.block_store.specs.Blocks.{Block, Blocks, live}
use Rattle.block_store.specs.Pointers.{within, moved_in, moved_null, moved, lives_in, is_usable}
use Rattle.handle_words.specs.Handle.{handle_of, id_of, offset_of, added}
use Rattle.flat_words.specs.Words.{word_of}
use Rattle.flat_meaning.specs.Names.{Name, heap, plain, name_of, word_for}
use Rattle.flat_simulation.specs.inner.Values.{IsPlaced, LieApart, Sees, Points, PointerStands}
use Rattle.flat_simulation.proofs.Blocks.{one_live}
use Rattle.flat_simulation.proofs.Numbers.{word_apart, word_small}

-- ---- words of placed blocks

-- the word of a block's start
abbrev pub start_word : Name → ℕ
start_word (heap id) = 2 ^ 63 + id * 2 ^ 32
start_word (plain address) = address

pub word_from : (n : Name) (offset : ℕ) → word_for n offset ≡ start_word n + offset
word_from (heap id) offset = refl
word_from (plain address) offset = refl

-- within the block it is below 2^64, and isn't 0
pub word_bounds : (n : Name) (size offset : ℕ) → IsPlaced n size → offset ≤ size → (0 < start_word n + offset) × (start_word n + offset < 2 ^ 64) × (size ≤ 2 ^ 32)
word_bounds (heap id) size offset p within = (omega arith, omega (arith, p.0, p.1), omega (arith, p.1))
word_bounds (plain address) size offset p within = (omega (arith, p.0), omega (arith, p.0, p.1), omega (arith, p.1))

-- ---- a pointer is moved

high_sum : (w n : ℕ) → 2 ^ 63 ≤ w → added w n ≡ handle_of (id_of w) ((offset_of w + n) % 2 ^ 32)
high_sum w n high = rw (le-leb (2 ^ 63) w high) refl

low_sum : (w n : ℕ) → w < 2 ^ 63 → added w n ≡ (w + n) % 2 ^ 64
low_sum w n low = let fails : leb (2 ^ 63) w ≡ false = grind (arith, nat_tests) in rw fails refl

moved_word : (n : Name) (size offset to : ℕ) (by : ℤ) → IsPlaced n size → offset ≤ size → to ≤ size → pos offset +ℤ by ≡ pos to → added (word_for n offset) (word_of by) ≡ word_for n to
moved_word (heap id) size offset to by p within inside e =
    let w : ℕ = 2 ^ 63 + id * 2 ^ 32 + offset in
    let k = word_of by in
    let x = word_apart by in
    let small : offset < 2 ^ 32 = omega (arith, p.1) in
    let short : to < 2 ^ 32 = omega (arith, p.1) in
    let one : id_of w ≡ id = omega arith in
    let two : offset_of w ≡ offset = omega arith in
    let sum : pos (offset + k) +ℤ pos (x.1 * 2 ^ 64) ≡ pos to +ℤ pos (x.0 * 2 ^ 64) = omega (arith, ints, x.2, e) in
    let sums : offset + k + x.1 * 2 ^ 64 ≡ to + x.0 * 2 ^ 64 = omega (arith, ints, sum) in
    let three : (offset + k) % 2 ^ 32 ≡ to = omega (arith, sums) in
    high_sum w k (omega arith) ∙ rw (one, two, three) refl
moved_word (plain address) size offset to by p within inside e =
    let k = word_of by in
    let x = word_apart by in
    let sum : pos (offset + k) +ℤ pos (x.1 * 2 ^ 64) ≡ pos to +ℤ pos (x.0 * 2 ^ 64) = omega (arith, ints, x.2, e) in
    let sums : offset + k + x.1 * 2 ^ 64 ≡ to + x.0 * 2 ^ 64 = omega (arith, ints, sum) in
    low_sum (address + offset) k (omega (arith, p.1)) ∙ omega (arith, sums, p.1)

-- a result under a test, where it is one
pub if_ok : {A E : Type 0} (c : Bool) (x y : A) (f : E) → (if c then Ok x else Err f) ≡ Ok y → (c ≡ true) × (x ≡ y)
if_ok true x y f e = (refl, cc)
if_ok false x y f e = absurd cc

-- nothing is added
nothing_added : added 0 (word_of (pos 0)) ≡ 0
nothing_added = ap (added 0) (word_small 0 (omega arith))

module _ (names : List Name) (K : ℕ → Type 0) (blocks : Blocks) (sees : Sees names K blocks) where
  within_stands : (block offset word : ℕ) (b : Block) (by : ℤ) (p : Ptr) → live blocks block ≡ Some b → Points names K blocks block offset word → (z : ℤ) → pos offset +ℤ by ≡ z → within (length b.cells) block z ≡ Ok p
      → PointerStands names K blocks p (added word (word_of by))
  within_stands block offset word b by p lives points (negsuc n) sum e = absurd cc
  within_stands block offset word b by p lives points (pos to) sum e =
      let fits = if_ok (nat_le to (length b.cells)) (To block to) p C7 e in
      let inside : to ≤ length b.cells = leb-true to (length b.cells) fits.0 in
      let word_is = ap (λ w. added w (word_of by)) (points.agrees b lives) ∙ moved_word (name_of names block) (length b.cells) offset to by (sees.placed block b points.known lives) (points.within b lives) inside sum in
      subst (λ q. PointerStands names K blocks q (added word (word_of by))) fits.1 (record {
        known = points.known;
        made = points.made;
        within = λ d f. subst (λ (c : Block). to ≤ length c.cells) (one_live blocks block b d lives f) inside;
        agrees = λ d f. word_is;
      })

  null_stands : (to : Ptr) (by : ℤ) → moved_null by ≡ Ok to → PointerStands names K blocks to (added 0 (word_of by))
  null_stands to (negsuc n) e = absurd cc
  null_stands to (pos n) e =
      let fits = if_ok (n == 0) Null to C7 e in
      subst (λ q. PointerStands names K blocks q (added 0 (word_of (pos n)))) fits.1 (ap (λ k. added 0 (word_of (pos k))) (eqb-true n 0 fits.0) ∙ nothing_added)

  -- a pointer that is moved within its block, and its word
  pub moved_stands : (p to : Ptr) (by : ℤ) (word : ℕ) → PointerStands names K blocks p word → moved blocks p by ≡ Ok to → PointerStands names K blocks to (added word (word_of by))
  moved_stands Null to by word stands e = subst (λ w. PointerStands names K blocks to (added w (word_of by))) (sym stands) (null_stands to by e)
  moved_stands (To block offset) to by word points e = by_block (live blocks block) refl e
    where
      by_block : (o : Option Block) → live blocks block ≡ o → moved_in block offset by o ≡ Ok to → PointerStands names K blocks to (added word (word_of by))
      by_block None lives e = absurd cc
      by_block (Some b) lives e = within_stands block offset word b by to lives points (pos offset +ℤ by) refl e

  -- ---- a pointer that may be used

  -- where it points to, and its word
  pub record IsThere (block offset word : ℕ) : Type 0 where
    pub b : Block
    pub lives : live blocks block ≡ Some b
    pub known : K block
    pub within : offset ≤ length b.cells
    pub is : word ≡ start_word (name_of names block) + offset
    pub some : 0 < word
    pub small : word < 2 ^ 64
    pub size : length b.cells ≤ 2 ^ 32

  pub used : (block offset word : ℕ) → Points names K blocks block offset word → is_usable blocks (To block offset) ≡ true → IsThere block offset word
  used block offset word points e = by_block (live blocks block) refl e
    where
      by_block : (o : Option Block) → live blocks block ≡ o → lives_in o ≡ true → IsThere block offset word
      by_block None lives e = absurd cc
      by_block (Some b) lives e =
          let within = points.within b lives in
          let bounds = word_bounds (name_of names block) (length b.cells) offset (sees.placed block b points.known lives) within in
          let is : word ≡ start_word (name_of names block) + offset = points.agrees b lives ∙ word_from (name_of names block) offset in
          record { b = b; lives = lives; known = points.known; within = within; is = is; some = omega (arith, is, bounds.0); small = omega (arith, is, bounds.1); size = bounds.2 }

  -- two that point into different blocks have different words
  pub told_apart : (block other offset offset2 word word2 : ℕ) → block ≢ other → IsThere block offset word → IsThere other offset2 word2 → word ≢ word2
  told_apart block other offset offset2 word word2 ne p q same =
      apart_words (name_of names block) (name_of names other) (length p.b.cells) (length q.b.cells) offset offset2 (sees.placed block p.b p.known p.lives) (sees.placed other q.b q.known q.lives)
      (sees.apart block other p.b q.b ne p.known q.known p.lives q.lives) p.within q.within (sym p.is ∙ same ∙ q.is)
    where
      apart_words : (n m : Name) (size size2 o u : ℕ) → IsPlaced n size → IsPlaced m size2 → LieApart n size m size2 → o ≤ size → u ≤ size2 → start_word n + o ≡ start_word m + u → ⊥
      apart_words (heap id) (heap key) size size2 o u a b apart le lf e = apart (omega (arith, a.1, b.1))
      apart_words (heap id) (plain c) size size2 o u a b apart le lf e = omega (arith, a.1, b.1)
      apart_words (plain c) (heap id) size size2 o u a b apart le lf e = omega (arith, a.1, b.1)
      apart_words (plain c) (plain d) size size2 o u a b apart le lf e = elim apart [ inl x ↦ omega (arith, x) | inr x ↦ omega (arith, x) ]
