-- Each type over the structs of a well formed program is aligned to 1, 2, 4 or 8 bytes.
use Rattle.std.proofs.Common.{◌≡◌, ℕ, zero, suc, ◌+◌, ◌/◌, ◌<◌, ◌≤◌, max, ◌==◌, true, false, List, [], ◌∷◌, length, Option, Some, None, inl, inr, refl, sym, subst, arith}
use Rattle.std.proofs.lemmas.Bool.{cases_lt, eqb-true, or_cases, ne_eqb}
use Rattle.std.proofs.lemmas.Bool.Decides.{nat_tests}
use Rattle.std.proofs.lemmas.Map.Steps.{length-le_from_distinct_below}
use Rattle.std.proofs.lemmas.Option.{slice_get_within}
use Rattle.std.specs.Prelude.{IsTrue, slice_get, ◌⊎◌}
use Rattle.std.specs.List.{AllByRecursion, IsDistinct, list_any}
use Rattle.ak_words.specs.Width.{is_width}
use Rattle.c_tree.specs.Typed as tree
use Rattle.c_tree.specs.TypedForm.{IsLayout, HoldsStruct, IsPart, LiesIn, as_part, deeper}
use Rattle.c_tree.specs.TypedLayout.{layout_align, align_in, greatest_align}
use Rattle.code_file.specs.Conditions.{is_alignment}

-- an alignment is one of the four
abbrev pub IsAligned : ℕ → Type 0
IsAligned n = is_alignment n ≡ true

-- each type over these structs is aligned so
abbrev pub AreTypesAligned : List tree.Layout → Type 0
AreTypesAligned structs = (ty : tree.Ty) → IsAligned (align_in structs ty)

-- ---- numbers

-- a number's bytes are 1, 2, 4 or 8
bytes_aligned : (bits : ℕ) → IsTrue (is_width bits) → IsAligned (bits / 8)
bytes_aligned bits h = by bits (tells bits h)
  where
    tells : (n : ℕ) → IsTrue (is_width n) → (n ≡ 8) ⊎ ((n ≡ 16) ⊎ ((n ≡ 32) ⊎ (n ≡ 64)))
    tells n h = grind (arith, nat_tests)

    by : (n : ℕ) → (n ≡ 8) ⊎ ((n ≡ 16) ⊎ ((n ≡ 32) ⊎ (n ≡ 64))) → IsAligned (n / 8)
    by n (inl e) = subst (λ n. IsAligned (n / 8)) (sym e) refl
    by n (inr (inl e)) = subst (λ n. IsAligned (n / 8)) (sym e) refl
    by n (inr (inr (inl e))) = subst (λ n. IsAligned (n / 8)) (sym e) refl
    by n (inr (inr (inr e))) = subst (λ n. IsAligned (n / 8)) (sym e) refl

-- the greater of two is one of them
greater_aligned : (a b : ℕ) → IsAligned a → IsAligned b → IsAligned (max a b)
greater_aligned a b h k = elim (cases_lt a b) [
  | inl less ↦ let e : max a b ≡ b = omega (arith, less) in subst IsAligned (sym e) k
  | inr more ↦ let e : max a b ≡ a = omega (arith, more) in subst IsAligned (sym e) h
]

-- ---- lists of numbers

-- what is said of each says it of one
at_number : {A : Type 0} (P : A → Type 0) (xs : List A) (n : ℕ) (x : A) → AllByRecursion P xs → slice_get xs n ≡ Some x → P x
at_number P [] n x h e = absurd cc
at_number P (y ∷ xs) zero x h e = let same : y ≡ x = cc in subst P same h.0
at_number P (y ∷ xs) (suc n) x h e = at_number P xs n x h.1 e

-- the same where one is told by a test
below_each : (bound : ℕ) (xs : List ℕ) → AllByRecursion (λ x. x < bound) xs → (q : ℕ) → list_any (λ x. q == x) xs ≡ true → q < bound
below_each bound [] h q e = absurd cc
below_each bound (x ∷ xs) h q e = elim (or_cases (q == x) (list_any (λ y. q == y) xs) e) [
  | inl here ↦ let same = eqb-true q x here in omega (arith, same, h.0)
  | inr later ↦ below_each bound xs h.1 q later
]

none_distinct : IsDistinct ◌==◌ []
unfolding IsDistinct
none_distinct = tt

more_distinct : (x : ℕ) (xs : List ℕ) → AllByRecursion (λ y. (x == y) ≡ false) xs → IsDistinct ◌==◌ xs → IsDistinct ◌==◌ (x ∷ xs)
unfolding IsDistinct
more_distinct x xs h k = (h, k)

module _ (structs : List tree.Layout) (laid : AllByRecursion (IsLayout structs) structs) (apart : (n : ℕ) → LiesIn structs n n → ⊥) where
  -- ---- structs in which a struct lies

  -- these structs are there, no two the same, and struct n lies in each
  record AreAround (n : ℕ) (seen : List ℕ) : Type 0 where
    pub below : AllByRecursion (λ s. s < length structs) seen
    pub distinct : IsDistinct ◌==◌ seen
    pub around : AllByRecursion (LiesIn structs n) seen

  -- they are no more than there are
  few_around : (n : ℕ) (seen : List ℕ) → AreAround n seen → length seen ≤ length structs
  few_around n seen h = length-le_from_distinct_below seen (length structs) h.distinct (below_each (length structs) seen h.below)

  -- and n is none of them
  others : (n : ℕ) (seen : List ℕ) → AllByRecursion (LiesIn structs n) seen → AllByRecursion (λ s. (n == s) ≡ false) seen
  others n [] h = tt
  others n (s ∷ seen) h = (ne_eqb n s (λ same. apart n (subst (LiesIn structs n) (sym same) h.0)), others n seen h.1)

  -- what is a part of n lies in them, too
  all_deeper : (m n : ℕ) → IsPart structs m n → (seen : List ℕ) → AllByRecursion (LiesIn structs n) seen → AllByRecursion (LiesIn structs m) seen
  all_deeper m n part [] h = tt
  all_deeper m n part (s ∷ seen) h = (deeper part h.0, all_deeper m n part seen h.1)

  -- and in n
  part_around : (m n : ℕ) → IsPart structs m n → n < length structs → (seen : List ℕ) → AreAround n seen → AreAround m (n ∷ seen)
  part_around m n part there seen h = record {
    below = (there, h.below);
    distinct = more_distinct n seen (others n seen h.around) h.distinct;
    around = (as_part part, all_deeper m n part seen h.around);
  }

  -- ---- types

  -- a type is aligned as the struct that it holds, if it holds one
  type_aligned : (ty : tree.Ty) → ((m : ℕ) → HoldsStruct ty m → IsAligned (layout_align (slice_get structs m))) → IsAligned (align_in structs ty)
  type_aligned tree.void h = refl
  type_aligned (tree.integer t) h = bytes_aligned t.bits t.known_width
  type_aligned (tree.atomic t) h = bytes_aligned t.bits t.known_width
  type_aligned tree.mutex h = refl
  type_aligned (tree.pointer t) h = refl
  type_aligned (tree.array t n) h = type_aligned t h
  type_aligned (tree.structure n) h = h n refl

  -- a struct is aligned as one of its members, or to 1 byte
  members_aligned : (ts : List tree.Ty) → ((k : ℕ) (t : tree.Ty) → slice_get ts k ≡ Some t → IsAligned (align_in structs t)) → IsAligned (greatest_align structs ts)
  members_aligned [] h = refl
  members_aligned (t ∷ ts) h = greater_aligned (align_in structs t) (greatest_align structs ts) (h 0 t refl) (members_aligned ts (λ k u at. h (suc k) u at))

  layout_aligned : (n : ℕ) (o : Option tree.Layout) → slice_get structs n ≡ o
      → ((m : ℕ) → IsPart structs m n → n < length structs → IsAligned (layout_align (slice_get structs m))) → IsAligned (layout_align o)
  layout_aligned n None e h = refl
  layout_aligned n (Some l) e h =
      let is : IsLayout structs l = at_number (IsLayout structs) structs n l laid e in
      let members = members_aligned l.types (λ k t at. type_aligned t (λ m holds. h m (l, e, (k, (t, at, holds))) (slice_get_within structs n l e))) in
      subst (λ (x : tree.Layout). IsAligned x.align) (sym is.laid) members

  -- fuel: more than there are structs that aren't around
  struct_aligned : (fuel n : ℕ) (seen : List ℕ) → AreAround n seen → length structs < fuel + length seen → IsAligned (layout_align (slice_get structs n))
  struct_aligned zero n seen h less = absurd (omega (arith, few_around n seen h, less))
  struct_aligned (suc fuel) n seen h less =
      layout_aligned n (slice_get structs n) refl (λ m part there. struct_aligned fuel m (n ∷ seen) (part_around m n part there seen h) (omega (arith, less)))

  pub types_aligned : AreTypesAligned structs
  types_aligned ty = type_aligned ty (λ m holds. struct_aligned (suc (length structs)) m [] (record { below = tt; distinct = none_distinct; around = tt }) (omega arith))
