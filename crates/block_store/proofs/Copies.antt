-- Copies of cells inside a block, and from one block to another.
use Rattle.std.proofs.Common.{◌≡◌, ◌≢◌, refl, sym, ◌∙◌, ap, ℕ, zero, suc, ◌+◌, ◌-◌, ◌<◌, ◌≤◌, List, [], ◌∷◌, ◌++◌, length, take, drop, set, get_or, append_assoc, drop-cons, Some, arith, ◌⊎◌, inl, inr}
use Rattle.std.specs.Prelude.{false, Option, None, IsSomeAnd}
use Rattle.std.proofs.lemmas.Bool.Decides.{nat_tests}
use Rattle.std.proofs.lemmas.List.{set-set, set_comm, set-get_or, set_at, get_or-set_other, get_or_append_left, get_or-append_right, get_or-take, get_or-drop, length-take-le, length-append, length-drop, take_more}
use Rattle.block_store.specs.declared.values.Cell.{Cell}
use Rattle.block_store.specs.Blocks.{Block, Blocks, live, with_cells}
use Rattle.block_store.specs.inner.Copying.{is_read_late, overwritten, overwritten_if, held}

-- ---- between blocks: one is taken out while the other is written, and put back

pub put_back : {X : Type 0} (B : List X) (f t : ℕ) (x y none : X) → f ≢ t → get_or B f x ≡ x → set (set (set B f none) t y) f x ≡ set B t y
put_back B f t x y none ne e =
    let stays : get_or (set B t y) f x ≡ x = get_or-set_other B t f y x ne ∙ e in
    ap (λ l. set l f x) (set_comm B f t none y ne) ∙ set-set (set B t y) f none x ∙ ap (λ z. set (set B t y) f z) (sym stays) ∙ set-get_or (set B t y) f x

-- the live block of a name is what stands there
pub live-get : (B : Blocks) (f : ℕ) (c : Block) → live B f ≡ Some c → get_or B f (Some c) ≡ Some c
live-get [] f c e = refl
live-get (x ∷ B) zero c e = by x e
  where
    by : (x : Option Block) → live (x ∷ []) 0 ≡ Some c → x ≡ Some c
    by None e = cc
    by (Some b) e = e
live-get (x ∷ B) (suc f) c e = live-get B f c e

-- the live block of another name stays
live-set_other : (B : Blocks) (f t : ℕ) (x : Option Block) → f ≢ t → live (set B f x) t ≡ live B t
live-set_other [] f t x ne = refl
live-set_other (y ∷ B) zero zero x ne = absurd (ne refl)
live-set_other (y ∷ B) zero (suc t) x ne = refl
live-set_other (y ∷ B) (suc f) zero x ne = refl
live-set_other (y ∷ B) (suc f) (suc t) x ne = live-set_other B f t x (λ e. ne (ap suc e))

-- what is written elsewhere while a block is out is the same as with it in
pub written_across : (B : Blocks) (f t o : ℕ) (b : Block) (new : List Cell) → f ≢ t → live B f ≡ Some b
    → set (overwritten (set B f None) t o new) f (Some b) ≡ overwritten B t o new
written_across B f t o b new ne lives =
    let there : get_or B f (Some b) ≡ Some b = live-get B f b lives in
    ap (λ r. set (overwritten_if (set B f None) t o new r) f (Some b)) (live-set_other B f t None ne) ∙ by there (live B t)
  where
    by : get_or B f (Some b) ≡ Some b → (r : Option Block) → set (overwritten_if (set B f None) t o new r) f (Some b) ≡ overwritten_if B t o new r
    by there None = set-set B f None (Some b) ∙ ap (λ z. set B f z) (sym there) ∙ set-get_or B f (Some b)
    by there (Some x) = put_back B f t (Some b) (Some (record { kind = x.kind; cells = with_cells x.cells o new })) None ne there

-- the live block of a name is what stands there, and something does
lives_there : (B : Blocks) (f : ℕ) (d : Option Block) (c : Block) → live B f ≡ Some c → get_or B f d ≡ Some c
lives_there [] f d c e = cc
lives_there (None ∷ B) zero d c e = cc
lives_there (Some b ∷ B) zero d c e = e
lives_there (x ∷ B) (suc f) d c e = lives_there B f d c e

-- the block that stands there lives
pub stands_live : (P : Block → Type 0) (B : Blocks) (t : ℕ) (d : Option Block) (s : Block) → Some s ≡ get_or B t d → IsSomeAnd (live B t) P → live B t ≡ Some s
stands_live P B t d s e h = by (live B t) refl h
  where
    by : (r : Option Block) → live B t ≡ r → IsSomeAnd r P → r ≡ Some s
    by None is h = absurd h
    by (Some b) is h = sym (lives_there B t d b is) ∙ sym e

-- the whole copy from another block
pub copied_across : (P : Block → Type 0) (B B1 B2 : Blocks) (f t o n fo : ℕ) (s : Block) (d x : Option Block) (cells : List Cell) → B1 ≡ B → f ≢ t
    → IsSomeAnd (live B f) P → Some s ≡ get_or B1 f d → x ≡ None → cells ≡ take n (drop fo s.cells) → B2 ≡ overwritten (set B1 f x) t o cells
    → set B2 f (Some s) ≡ overwritten B t o (held n fo (live B f))
copied_across P B B1 B2 f t o n fo s d x cells e1 ne lives e2 e3 e4 e5 =
    let is : live B f ≡ Some s = stands_live P B f d s (e2 ∙ ap (λ l. get_or l f d) e1) lives in
    ap (λ l. set l f (Some s)) (e5 ∙ ap (λ l. overwritten (set l f x) t o cells) e1 ∙ ap (λ y. overwritten (set B f y) t o cells) e3)
    ∙ written_across B f t o s cells ne is
    ∙ ap (λ new. overwritten B t o new) (e4 ∙ ap (λ r. held n fo r) (sym is))

-- ---- inside a block

-- the stretches are one, or one lies behind the other
not_late : (n to from : ℕ) → is_read_late n to from ≡ false → (from + n ≤ to) ⊎ (to ≤ from)
not_late n to from e = grind (arith, nat_tests)

-- a cell before the new ones, and one behind them
before : (c new : List Cell) (o i : ℕ) (d : Cell) → i < o → o + length new ≤ length c → get_or (with_cells c o new) i d ≡ get_or c i d
before c new o i d h le =
    let l : length (take o c) ≡ o = length-take-le o c (omega arith) in
    let m : i < length (take o c) = omega (arith, l, h) in
    let n : i < length (take o c ++ new) = omega (arith, length-append (take o c) new, m) in
    get_or_append_left (take o c ++ new) (drop (o + length new) c) d i n ∙ get_or_append_left (take o c) new d i m ∙ get_or-take o c i d h

behind : (c new : List Cell) (o i : ℕ) (d : Cell) → o + length new ≤ i → o + length new ≤ length c → get_or (with_cells c o new) i d ≡ get_or c i d
behind c new o i d h le =
    let l : length (take o c) ≡ o = length-take-le o c (omega arith) in
    let m : length (take o c ++ new) ≡ o + length new = length-append (take o c) new ∙ ap (λ n. n + length new) l in
    let s : o + length new + (i - (o + length new)) ≡ i = omega arith in
    get_or-append_right (take o c ++ new) (drop (o + length new) c) (o + length new) i d m h ∙ get_or-drop (o + length new) c (i - (o + length new)) d ∙ ap (λ j. get_or c j d) s

-- one cell more
one_more : (c new : List Cell) (o : ℕ) (x : Cell) → o + length new < length c → set (with_cells c o new) (o + length new) x ≡ with_cells c o (new ++ x ∷ [])
one_more c new o x h =
    let m = o + length new in
    let l : length (take o c) ≡ o = length-take-le o c (omega arith) in
    let p : length (take o c ++ new) ≡ o + length new = length-append (take o c) new ∙ ap (λ n. n + length new) l in
    let q : suc (o + length new) ≡ o + length (new ++ x ∷ []) = omega (arith, length-append new (x ∷ [])) in
    ap (λ (t : List Cell). set (take o c ++ new ++ t) m x) (drop-cons c m x h)
    ∙ set_at (take o c ++ new) (get_or c m x) (drop (suc m) c) x m p
    ∙ ap (λ n. take o c ++ new ++ x ∷ drop n c) q
    ∙ sym (append_assoc (take o c ++ new) (x ∷ []) (drop (o + length (new ++ x ∷ [])) c))
    ∙ ap (λ (t : List Cell). t ++ drop (o + length (new ++ x ∷ [])) c) (append_assoc (take o c) new (x ∷ []))

-- the next cell is copied
pub copied-next : (c : List Cell) (to from n k : ℕ) (x : Cell) → k < n → to + n ≤ length c → from + n ≤ length c → is_read_late n to from ≡ false
    → x ≡ get_or (with_cells c to (take k (drop from c))) (from + k) x
    → set (with_cells c to (take k (drop from c))) (to + k) x ≡ with_cells c to (take (k + 1) (drop from c))
copied-next c to from n k x h t s late e =
    let new = take k (drop from c) in
    let ls : k < length (drop from c) = omega (arith, length-drop from c, h, s) in
    let ln : length (take k (drop from c)) ≡ k = length-take-le k (drop from c) (omega (arith, ls)) in
    let le : to + length (take k (drop from c)) ≤ length c = omega (arith, ln, h, t) in
    let lt : to + length (take k (drop from c)) < length c = omega (arith, ln, h, t) in
    let unchanged : get_or (with_cells c to (take k (drop from c))) (from + k) x ≡ get_or c (from + k) x =
    elim (not_late n to from late) [
      | inl low ↦ before c new to (from + k) x (omega (arith, low, h)) le
      | inr high ↦ behind c new to (from + k) x (omega (arith, high, ln)) le
    ] in
    let same : get_or (drop from c) k x ≡ x = get_or-drop from c k x ∙ sym unchanged ∙ sym e in
    ap (λ j. set (with_cells c to (take k (drop from c))) (to + j) x) (sym ln)
    ∙ one_more c new to x lt
    ∙ ap (λ (y : Cell). with_cells c to (take k (drop from c) ++ y ∷ [])) (sym same)
    ∙ ap (λ (l : List Cell). with_cells c to l) (sym (take_more (drop from c) k x ls))
