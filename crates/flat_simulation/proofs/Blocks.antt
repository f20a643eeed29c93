-- What is live after a change of the blocks, and that each change ages them.
use Rattle.std.proofs.Common.{◌≡◌, ◌≢◌, ℕ, zero, suc, ◌+◌, ◌-◌, ◌<◌, ◌≤◌, List, [], ◌∷◌, ◌++◌, length, Option, Some, None, refl, sym, ap, subst, ◌∙◌, arith, ◌⊎◌, inl, inr, append_assoc}
use Rattle.std.specs.Prelude.{set, slice_get, take, drop}
use Rattle.std.specs.Option.{option_flatten}
use Rattle.std.proofs.lemmas.Bool.{cases_eq, cases_lt}
use Rattle.std.proofs.lemmas.List.{length-append, length-set, length-take-le, length-drop, get_or_append_left}
use Rattle.std.proofs.lemmas.Option.{slice_get_within}
use Rattle.ak_words.specs.Prefix.{IsPrefix}
use Rattle.block_store.specs.declared.values.BlockKind.{BlockKind}
use Rattle.block_store.specs.declared.values.Cell.{Cell}
use Rattle.block_store.specs.Blocks.{Block, Blocks, live, made, ended, with_cells, with_cells_at, Range}
use Rattle.flat_meaning.specs.Names.{Name, plain, name_of}
use Rattle.flat_meaning.specs.Stands.{Ages}
use Rattle.flat_simulation.specs.inner.Aged.{Aged}
use Rattle.flat_simulation.specs.inner.Blocks.{new_block}

-- ---- elements of lists

get_old : {A : Type 0} (xs ys : List A) (i : ℕ) → i < length xs → slice_get (xs ++ ys) i ≡ slice_get xs i
get_old [] ys i h = absurd (omega (arith, h))
get_old (x ∷ xs) ys zero h = refl
get_old (x ∷ xs) ys (suc i) h = get_old xs ys i (omega (arith, h))

get_new : {A : Type 0} (xs : List A) (y : A) → slice_get (xs ++ y ∷ []) (length xs) ≡ Some y
get_new [] y = refl
get_new (x ∷ xs) y = get_new xs y

get_set : {A : Type 0} (xs : List A) (k : ℕ) (y : A) → k < length xs → slice_get (set xs k y) k ≡ Some y
get_set [] k y h = absurd (omega (arith, h))
get_set (x ∷ xs) zero y h = refl
get_set (x ∷ xs) (suc k) y h = get_set xs k y (omega (arith, h))

get_other : {A : Type 0} (xs : List A) (k : ℕ) (y : A) (i : ℕ) → i ≢ k → slice_get (set xs k y) i ≡ slice_get xs i
get_other [] k y i ne = refl
get_other (x ∷ xs) zero y zero ne = absurd (ne refl)
get_other (x ∷ xs) zero y (suc i) ne = refl
get_other (x ∷ xs) (suc k) y zero ne = refl
get_other (x ∷ xs) (suc k) y (suc i) ne = get_other xs k y i (λ e. ne (ap suc e))

-- ---- live blocks

pub live_in : (blocks : Blocks) (n : ℕ) (b : Block) → live blocks n ≡ Some b → n < length blocks
live_in blocks n b e = go (slice_get blocks n) refl e
  where
    go : (o : Option (Option Block)) → slice_get blocks n ≡ o → option_flatten o ≡ Some b → n < length blocks
    go (Some x) d e = slice_get_within blocks n x d
    go None d e = absurd cc

-- one live block
pub one_live : (blocks : Blocks) (block : ℕ) (b d : Block) → live blocks block ≡ Some b → live blocks block ≡ Some d → b ≡ d
one_live blocks block b d e f = let both : Some b ≡ Some d = sym e ∙ f in cc

-- after a new block was made
module _ (blocks : Blocks) (size : ℕ) (kind : BlockKind) (first : Cell) where
  pub length-made : length (made blocks size kind first) ≡ length blocks + 1
  length-made = length-append blocks (Some (new_block size kind first) ∷ [])

  pub made_other : (n : ℕ) → n < length blocks → live (made blocks size kind first) n ≡ live blocks n
  made_other n below = ap option_flatten (get_old blocks (Some (new_block size kind first) ∷ []) n below)

  pub made_new : live (made blocks size kind first) (length blocks) ≡ Some (new_block size kind first)
  made_new = ap option_flatten (get_new blocks (Some (new_block size kind first)))

  pub made_live : (n : ℕ) (b : Block) → live (made blocks size kind first) n ≡ Some b → ((n ≡ length blocks) × (b ≡ new_block size kind first)) ⊎ (live blocks n ≡ Some b)
  made_live n b e = elim (cases_lt n (length blocks)) [
    | inl below ↦ inr (sym (made_other n below) ∙ e)
    | inr past ↦
        let within = live_in (made blocks size kind first) n b e in
        let same : n ≡ length blocks = omega (arith, past, within, length-made) in
        let new : live (made blocks size kind first) n ≡ Some (new_block size kind first) = rw same made_new in
        let both : Some b ≡ Some (new_block size kind first) = sym e ∙ new in
        inl (same, cc)
  ]

  pub made_still : (n : ℕ) (b : Block) → live blocks n ≡ Some b → live (made blocks size kind first) n ≡ Some b
  made_still n b e = made_other n (live_in blocks n b e) ∙ e

-- after one has ended
module _ (blocks : Blocks) (k : ℕ) where
  pub ended_other : (n : ℕ) → n ≢ k → live (ended blocks k) n ≡ live blocks n
  ended_other n ne = ap option_flatten (get_other blocks k None n ne)

  pub ended_live : (n : ℕ) (b : Block) → live (ended blocks k) n ≡ Some b → (n ≢ k) × (live blocks n ≡ Some b)
  ended_live n b e = elim (cases_eq n k) [
    | inl same ↦
        let below : n < length blocks = omega (arith, live_in (ended blocks k) n b e, length-set blocks k None) in
        let gone : live (ended blocks k) n ≡ None = rw same (ap option_flatten (get_set blocks k None (subst (λ z. z < length blocks) same below))) in
        let both : Some b ≡ None = sym e ∙ gone in
        absurd cc
    | inr ne ↦ (ne, sym (ended_other n ne) ∙ e)
  ]

-- after cells were written in one
module _ (blocks : Blocks) (new : List Cell) (s : Range) (here : live blocks s.name ≡ Some s.block) (within : s.offset + length new ≤ length s.block.cells) where
  -- the block then
  abbrev pub written_block : Block
  written_block = record { kind = s.block.kind; cells = with_cells s.block.cells s.offset new }

  pub written_same : live (with_cells_at blocks new s) s.name ≡ Some written_block
  written_same = ap option_flatten (get_set blocks s.name (Some written_block) (live_in blocks s.name s.block here))

  pub written_other : (n : ℕ) → n ≢ s.name → live (with_cells_at blocks new s) n ≡ live blocks n
  written_other n ne = ap option_flatten (get_other blocks s.name (Some written_block) n ne)

  pub written_size : length written_block.cells ≡ length s.block.cells
  written_size =
      let cells = s.block.cells in
      let front : length (take s.offset cells) ≡ s.offset = length-take-le s.offset cells (omega arith) in
      let back : length (drop (s.offset + length new) cells) ≡ length cells - (s.offset + length new) = length-drop (s.offset + length new) cells in
      let both : length (take s.offset cells ++ new) ≡ length (take s.offset cells) + length new = length-append (take s.offset cells) new in
      length-append (take s.offset cells ++ new) (drop (s.offset + length new) cells) ∙ omega (arith, within, front, back, both)

-- ---- blocks that have aged

pub ages_still : (blocks : Blocks) → Ages blocks blocks
ages_still blocks = record { more = omega arith; lives = λ n b below e. (b, e, refl, refl) }

pub ages_then : (blocks later last : Blocks) → Ages blocks later → Ages later last → Ages blocks last
ages_then blocks later last a b = record {
  more = omega (arith, a.more, b.more);
  lives = λ n c below e. (let x = b.lives n c (omega (arith, below, a.more)) e in let y = a.lives n x.0 below x.1 in (y.0, y.1, y.2 ∙ x.2, y.3 ∙ x.3));
}

pub ages_made : (blocks : Blocks) (size : ℕ) (kind : BlockKind) (first : Cell) → Ages blocks (made blocks size kind first)
ages_made blocks size kind first = record {
  more = omega (arith, length-made blocks size kind first);
  lives = λ n b below e. (b, sym (made_other blocks size kind first n below) ∙ e, refl, refl);
}

pub ages_ended : (blocks : Blocks) (k : ℕ) → Ages blocks (ended blocks k)
ages_ended blocks k = record { more = omega (arith, length-set blocks k None); lives = λ n b below e. (b, (ended_live blocks k n b e).1, refl, refl) }

pub ages_written : (blocks : Blocks) (new : List Cell) (s : Range) → live blocks s.name ≡ Some s.block → s.offset + length new ≤ length s.block.cells → Ages blocks (with_cells_at blocks new s)
ages_written blocks new s here within = record {
  more = omega (arith, length-set blocks s.name (Some (written_block blocks new s here within)));
  lives = λ n b below e. elim (cases_eq n s.name) [
    | inl same ↦
        let is : Some (written_block blocks new s here within) ≡ Some b = sym (written_same blocks new s here within) ∙ ap (live (with_cells_at blocks new s)) (sym same) ∙ e in
        let block : written_block blocks new s here within ≡ b = cc in
        (s.block, ap (live blocks) same ∙ here, ap (λ (c : Block). c.kind) block, sym (written_size blocks new s here within) ∙ ap (λ (c : Block). length c.cells) block)
    | inr ne ↦ (b, sym (written_other blocks new s here within n ne) ∙ e, refl, refl)
  ];
}

-- ---- names that were added

pub name_before : (names all : List Name) → IsPrefix names all → (n : ℕ) → n < length names → name_of all n ≡ name_of names n
name_before names all first n below = ap (λ z. name_of z n) first.1 ∙ get_or_append_left names first.0 (plain 0) n below

pub name_new : (names : List Name) (name : Name) → name_of (names ++ name ∷ []) (length names) ≡ name
name_new [] name = refl
name_new (x ∷ names) name = name_new names name

pub prefix_still : (names : List Name) → IsPrefix names names
prefix_still names = ([], sym (append_nothing names))
  where
    append_nothing : (xs : List Name) → xs ++ [] ≡ xs
    append_nothing [] = refl
    append_nothing (x ∷ xs) = ap (λ z. x ∷ z) (append_nothing xs)

pub prefix_more : (names more : List Name) → IsPrefix names (names ++ more)
prefix_more names more = (more, refl)

pub prefix_then : (names all last : List Name) → IsPrefix names all → IsPrefix all last → IsPrefix names last
prefix_then names all last a b = (a.0 ++ b.0, b.1 ∙ ap (λ z. z ++ b.0) a.1 ∙ append_assoc names a.0 b.0)

-- ---- worlds that have gone on

pub aged_still : (names : List Name) (blocks : Blocks) → length names ≡ length blocks → Aged names names blocks blocks
aged_still names blocks each = record { ages = ages_still blocks; first = prefix_still names; each = each; each_later = each }

pub aged_then : (names all last : List Name) (blocks later latest : Blocks) → Aged names all blocks later → Aged all last later latest → Aged names last blocks latest
aged_then names all last blocks later latest a b = record { ages = ages_then blocks later latest a.ages b.ages; first = prefix_then names all last a.first b.first; each = a.each; each_later = b.each_later }

pub aged_made : (names : List Name) (name : Name) (blocks : Blocks) (size : ℕ) (kind : BlockKind) (first : Cell) → length names ≡ length blocks
    → Aged names (names ++ name ∷ []) blocks (made blocks size kind first)
aged_made names name blocks size kind first each = record {
  ages = ages_made blocks size kind first;
  first = prefix_more names (name ∷ []);
  each = each;
  each_later = length-append names (name ∷ []) ∙ omega (arith, each, length-made blocks size kind first);
}

pub aged_ended : (names : List Name) (blocks : Blocks) (k : ℕ) → length names ≡ length blocks → Aged names names blocks (ended blocks k)
aged_ended names blocks k each = record { ages = ages_ended blocks k; first = prefix_still names; each = each; each_later = each ∙ sym (length-set blocks k None) }

pub aged_written : (names : List Name) (blocks : Blocks) (new : List Cell) (s : Range) → live blocks s.name ≡ Some s.block → s.offset + length new ≤ length s.block.cells → length names ≡ length blocks
    → Aged names names blocks (with_cells_at blocks new s)
aged_written names blocks new s here within each = record {
  ages = ages_written blocks new s here within;
  first = prefix_still names;
  each = each;
  each_later = each ∙ sym (length-set blocks s.name (Some (written_block blocks new s here within)));
}

-- what has aged keeps the names, and what lives lived before, of the same kind and size
module _ (names all : List Name) (blocks later : Blocks) (aged : Aged names all blocks later) where
  pub aged_name : (n : ℕ) → n < length blocks → name_of all n ≡ name_of names n
  aged_name n below = name_before names all aged.first n (omega (arith, aged.each))

  pub aged_more : length blocks ≤ length later
  aged_more = aged.ages.more
