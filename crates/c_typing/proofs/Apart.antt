-- No struct lies in itself, once more of them are named or declared.
use Rattle.std.proofs.Common.{◌≡◌, ◌≢◌, ℕ, zero, suc, ◌<◌, Bool, true, false, refl, subst, arith, List, [], ◌∷◌, Some, slice_get, ◌==◌}
use Rattle.std.proofs.lemmas.Bool.Decides.{nat_tests}
use Rattle.c_tree.specs.Typed.{Ty, void, integer, atomic, mutex, pointer, array, structure, Layout}
use Rattle.c_tree.specs.TypedLayout.{layout_size, IsSized}
use Rattle.c_tree.specs.TypedForm.{HoldsStruct, IsPart, LiesIn, as_part, deeper}
use Rattle.c_typing.proofs.Extending.{AreSized}
use Rattle.c_typing.proofs.Elements.{nothing_at}

pub different : (n k : ℕ) → (n == k) ≡ false → n ≢ k
different n k h e = let f : (k == k) ≡ false = subst (λ m. (m == k) ≡ false) e h in absurd (grind (arith, nat_tests))

pub equal : (n k : ℕ) → (n == k) ≡ true → n ≡ k
equal n k h = grind (arith, nat_tests)

sized_at : (s : List Layout) (ts : List Ty) → AreSized s ts → (k : ℕ) (t : Ty) → slice_get ts k ≡ Some t → IsSized s t
sized_at s [] h k t e = absurd (nothing_at k t e)
sized_at s (u ∷ ts) h zero t e = let f : u ≡ t = cc in subst (IsSized s) f h.0
sized_at s (u ∷ ts) h (suc k) t e = sized_at s ts h.1 k t e

-- the struct in what has a size has one
held_sized : (s : List Layout) (t : Ty) (m : ℕ) → HoldsStruct t m → IsSized s t → 0 < layout_size (slice_get s m)
held_sized s (structure n) m h z = subst (λ k. 0 < layout_size (slice_get s k)) h z.1
held_sized s (array t k) m h z = held_sized s t m h z.0
held_sized s void m h z = absurd h
held_sized s (integer t) m h z = absurd h
held_sized s (atomic t) m h z = absurd h
held_sized s mutex m h z = absurd h
held_sized s (pointer t) m h z = absurd h

-- whatever stands where a struct stood without a size, if members have a size before: no member is that struct
pub apart_still : (old new : List Layout) (number : ℕ) → layout_size (slice_get old number) ≡ 0 → ((k : ℕ) (l : Layout) → slice_get new k ≡ Some l → AreSized old l.types)
    → ((m n : ℕ) → n ≢ number → IsPart new m n → IsPart old m n) → ((n : ℕ) → LiesIn old n n → ⊥) → (n : ℕ) → LiesIn new n n → ⊥
apart_still old new number empty sized kept apart n h = by (n == number) refl
  where
    no_part : (k : ℕ) → IsPart new number k → ⊥
    no_part k p =
        let t : Ty = p.2.1.0 in
        let z = held_sized old t number p.2.1.2 (sized_at old p.0.types (sized k p.0 p.1) p.2.0 t p.2.1.1) in
        absurd (omega (arith, z, empty))

    innermost : (m k : ℕ) → m ≡ number → LiesIn new m k → ⊥
    innermost m k e (as_part p) = no_part k (subst (λ x. IsPart new x k) e p)
    innermost m k e (deeper {k = j} p r) = no_part j (subst (λ x. IsPart new x j) e p)

    lay : (m k : ℕ) → k ≢ number → LiesIn new m k → LiesIn old m k
    lay m k d (as_part p) = as_part (kept m k d p)
    lay m k d (deeper {k = j} p r) = deeper (kept m j (λ e. innermost j k e r) p) (lay j k d r)

    by : (b : Bool) → (n == number) ≡ b → ⊥
    by true e = innermost n n (equal n number e) h
    by false e = apart n (lay n n (different n number e) h)
