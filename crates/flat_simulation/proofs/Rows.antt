-- Rows of cells and of bytes, element by element: what is read of them, and what is written over.
use Rattle.std.proofs.Common.{◌≡◌, ℕ, zero, suc, ◌+◌, ◌-◌, ◌<◌, ◌≤◌, ◌⊎◌, inl, inr, List, [], ◌∷◌, ◌++◌, length, get_or, take, drop, refl, ap, ◌∙◌, arith}
use Rattle.std.proofs.lemmas.List.{length-take-le, length-drop, length-append, get_or-take, get_or-drop, get_or_append_left, get_or-append_right}
use Rattle.block_store.specs.declared.values.Cell.{Cell}
use Rattle.block_store.specs.declared.values.Cell.TheVariants.{Unknown}
use Rattle.block_store.specs.Blocks.{Blocks}
use Rattle.flat_meaning.specs.Names.{Name}
use Rattle.flat_simulation.specs.inner.Cells.{CellStands, RowStands}

-- ---- elements that are written over

module _ {A : Type 0} (xs new : List A) (from : ℕ) (d : A) (fits : from + length new ≤ length xs) where
  abbrev pub over : List A
  over = take from xs ++ new ++ drop (from + length new) xs

  front : length (take from xs) ≡ from
  front = length-take-le from xs (omega arith)

  both : length (take from xs ++ new) ≡ from + length new
  both = length-append (take from xs) new ∙ ap (λ n. n + length new) front

  -- inside there are the new ones
  pub over_inside : (i : ℕ) → i < length new → get_or over (from + i) d ≡ get_or new i d
  over_inside i below =
      get_or_append_left (take from xs ++ new) (drop (from + length new) xs) d (from + i) (omega (arith, both))
      ∙ get_or-append_right (take from xs) new from (from + i) d front (omega arith)
      ∙ ap (λ k. get_or new k d) (omega arith)

  -- and outside those that were there
  pub over_outside : (i : ℕ) → (i < from) ⊎ (from + length new ≤ i) → get_or over i d ≡ get_or xs i d
  over_outside i (inl below) =
      get_or_append_left (take from xs ++ new) (drop (from + length new) xs) d i (omega (arith, both)) ∙ get_or_append_left (take from xs) new d i (omega (arith, front)) ∙ get_or-take from xs i d below
  over_outside i (inr above) =
      get_or-append_right (take from xs ++ new) (drop (from + length new) xs) (from + length new) i d both above
      ∙ get_or-drop (from + length new) xs (i - (from + length new)) d
      ∙ ap (λ k. get_or xs k d) (omega arith)

-- ---- elements that are read

module _ {A : Type 0} (xs : List A) (from n : ℕ) (d : A) where
  pub part_at : (i : ℕ) → i < n → get_or (take n (drop from xs)) i d ≡ get_or xs (from + i) d
  part_at i below = get_or-take n (drop from xs) i d below ∙ get_or-drop from xs i d

  pub part_length : from + n ≤ length xs → length (take n (drop from xs)) ≡ n
  part_length within = length-take-le n (drop from xs) (omega (arith, length-drop from xs))

-- ---- rows of cells and bytes

module _ (names : List Name) (blocks : Blocks) where
  pub row_length : (cells : List Cell) (bytes : List ℕ) → RowStands names blocks cells bytes → length cells ≡ length bytes
  row_length [] [] row = refl
  row_length [] (b ∷ bytes) row = absurd row
  row_length (c ∷ cells) [] row = absurd row
  row_length (c ∷ cells) (b ∷ bytes) row = ap suc (row_length cells bytes row.1)

  pub row_each : (cells : List Cell) (bytes : List ℕ) → RowStands names blocks cells bytes → (i : ℕ) → i < length cells → CellStands names blocks (get_or cells i Unknown) (get_or bytes i 0)
  row_each [] [] row i below = absurd (omega (arith, below))
  row_each [] (b ∷ bytes) row i below = absurd row
  row_each (c ∷ cells) [] row i below = absurd row
  row_each (c ∷ cells) (b ∷ bytes) row zero below = row.0
  row_each (c ∷ cells) (b ∷ bytes) row (suc i) below = row_each cells bytes row.1 i (omega (arith, below))

  pub each_row : (cells : List Cell) (bytes : List ℕ) → length cells ≡ length bytes → ((i : ℕ) → i < length cells → CellStands names blocks (get_or cells i Unknown) (get_or bytes i 0)) → RowStands names blocks cells bytes
  each_row [] [] same each = tt
  each_row [] (b ∷ bytes) same each = absurd (omega (arith, same))
  each_row (c ∷ cells) [] same each = absurd (omega (arith, same))
  each_row (c ∷ cells) (b ∷ bytes) same each = (each 0 (omega arith), each_row cells bytes (omega (arith, same)) (λ i below. each (suc i) (omega (arith, below))))
