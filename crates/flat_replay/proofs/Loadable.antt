-- A program with little plain data fits in memory under any settings.
use Rattle.std.proofs.Common.{◌≡◌, ℕ, ◌≤◌, ◌%◌, ◌^◌, ◌==◌, ◌||◌, Bool, true, false, List, [], ◌∷◌, refl, subst, arith}
use Rattle.std.specs.List.{list_any, range_with_len}
use Rattle.flat_rules.specs.inner.Cases.{same_number}
use Rattle.flat_replay.specs.Laws.{SmallProgramsFit}

-- a size of a sub-heap that shape allows
abbrev IsSize : ℕ → Type 0
IsSize n = (n % 16 ≡ 0) × (16 ≤ n)

-- each power of two among these
abbrev AreSizes : List ℕ → Type 0
AreSizes [] = Unit {0}
AreSizes (k ∷ ks) = IsSize (2 ^ k) × AreSizes ks

one_of : (n : ℕ) (ks : List ℕ) → AreSizes ks → list_any (λ k. 2 ^ k == n) ks ≡ true → IsSize n
one_of n [] sizes is = absurd cc
one_of n (k ∷ ks) sizes is = by (2 ^ k == n) refl is (one_of n ks sizes.1) where
  by : (b : Bool) → (2 ^ k == n) ≡ b → (b || list_any (λ k. 2 ^ k == n) ks) ≡ true → (list_any (λ k. 2 ^ k == n) ks ≡ true → IsSize n) → IsSize n
  by true e is rest = subst IsSize (same_number (2 ^ k) n e) sizes.0
  by false e is rest = rest is

powers : AreSizes (range_with_len 12 13)
powers =
    let size : (n : ℕ) → n % 16 ≡ 0 → 16 ≤ n → IsSize n = λ n e le. (e, le) in
    (size (2 ^ 12) refl (omega arith), (size (2 ^ 13) refl (omega arith), (size (2 ^ 14) refl (omega arith), (size (2 ^ 15) refl (omega arith), (size (2 ^ 16) refl (omega arith), (size (2 ^ 17) refl (omega arith), (size (2 ^ 18) refl (omega arith), (size (2 ^ 19) refl (omega arith), (size (2 ^ 20) refl (omega arith), (size (2 ^ 21) refl (omega arith), (size (2 ^ 22) refl (omega arith), (size (2 ^ 23) refl (omega arith), (size (2 ^ 24) refl (omega arith), tt)))))))))))))

pub small_programs_fit : SmallProgramsFit
small_programs_fit code s small =
    let size = one_of s.subheap (range_with_len 12 13) powers s.sub_heap_size in
    record {
      shape = record {
        has_sub_heap = s.some_sub_heaps.0;
        has_room = s.some_ids.0;
        most_bounded = s.some_ids.1;
        size_multiple = size.0;
        size_least = size.1;
        whole_bounded = s.heap_is_bounded;
      };
      small = omega (arith, small);
    }
