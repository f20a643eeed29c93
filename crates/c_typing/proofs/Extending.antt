-- Structs, as more of them are declared: what has a size keeps it.
use Rattle.std.proofs.Common.{◌≡◌, ℕ, ◌+◌, ◌*◌, ◌<◌, ◌≤◌, ◌⊎◌, inl, inr, Bool, true, false, refl, sym, ap, ◌∙◌, subst, arith, List, [], ◌∷◌, length, Option, Some, None, slice_get, nat_lt, nat_le}
use Rattle.std.specs.List.{AllByRecursion}
use Rattle.std.proofs.lemmas.Option.{slice_get_within}
use Rattle.std.proofs.lemmas.Bool.Decides.{nat_tests}
use Rattle.c_tree.specs.Typed.{Ty, void, integer, atomic, mutex, pointer, array, structure, Layout}
use Rattle.c_tree.specs.TypedLayout.{greatest_object, layout_size, layout_align, size_in, align_in, IsSized, rounded_up, offsets_from, end_from, greatest_align, laid_out}
use Rattle.c_tree.specs.TypedForm.{IsLayout, IsTarget, IsPromoted}
use Rattle.c_typing.specs.Types.{has_size}

pub below : (a b : ℕ) → nat_lt a b ≡ true → a < b
below a b h = grind (arith, nat_tests)

pub at_most : (a b : ℕ) → nat_le a b ≡ true → a ≤ b
at_most a b h = grind (arith, nat_tests)

-- a struct that isn't declared
abbrev pub undeclared : Layout
undeclared = laid_out [] []

-- each struct that is declared stays as it is
abbrev pub Extends : (old new : List Layout) → Type 0
Extends old new = (n : ℕ) (l : Layout) → slice_get old n ≡ Some l → (slice_get new n ≡ Some l) ⊎ (l ≡ undeclared)

pub extends_itself : (s : List Layout) → Extends s s
extends_itself s n l h = inl h

pub extends_further : (a b c : List Layout) → Extends a b → Extends b c → Extends a c
extends_further a b c f g n l h = by (f n l h)
  where
    by : (slice_get b n ≡ Some l) ⊎ (l ≡ undeclared) → (slice_get c n ≡ Some l) ⊎ (l ≡ undeclared)
    by (inl k) = g n l k
    by (inr u) = inr u

no_size : (l : Layout) → l ≡ undeclared → 0 < l.size → ⊥
no_size l u h = let e : l.size ≡ 0 = ap (λ (x : Layout). x.size) u in omega arith

pub struct_kept : (old new : List Layout) (n : ℕ) → Extends old new → 0 < layout_size (slice_get old n) → slice_get new n ≡ slice_get old n
struct_kept old new n f h = by (slice_get old n) refl h
  where
    there : (l : Layout) → 0 < l.size → (slice_get new n ≡ Some l) ⊎ (l ≡ undeclared) → slice_get new n ≡ Some l
    there l h (inl k) = k
    there l h (inr u) = absurd (no_size l u h)

    by : (o : Option Layout) → slice_get old n ≡ o → 0 < layout_size o → slice_get new n ≡ o
    by None e h = absurd (omega arith)
    by (Some l) e h = there l h (f n l e)

in_list : (s : List Layout) (n : ℕ) → 0 < layout_size (slice_get s n) → n < length s
in_list s n h = by (slice_get s n) refl h
  where
    by : (o : Option Layout) → slice_get s n ≡ o → 0 < layout_size o → n < length s
    by None e h = absurd (omega arith)
    by (Some l) e h = slice_get_within s n l e

pub size_kept : (old new : List Layout) → Extends old new → (t : Ty) → IsSized old t → size_in new t ≡ size_in old t
size_kept old new f void h = absurd h
size_kept old new f (integer t) h = refl
size_kept old new f (atomic t) h = refl
size_kept old new f mutex h = refl
size_kept old new f (pointer t) h = refl
size_kept old new f (array t n) h = ap (λ k. k * n) (size_kept old new f t h.0)
size_kept old new f (structure n) h = ap layout_size (struct_kept old new n f h.1)

pub align_kept : (old new : List Layout) → Extends old new → (t : Ty) → IsSized old t → align_in new t ≡ align_in old t
align_kept old new f void h = absurd h
align_kept old new f (integer t) h = refl
align_kept old new f (atomic t) h = refl
align_kept old new f mutex h = refl
align_kept old new f (pointer t) h = refl
align_kept old new f (array t n) h = align_kept old new f t h.0
align_kept old new f (structure n) h = ap layout_align (struct_kept old new n f h.1)

pub sized_kept : (old new : List Layout) → Extends old new → (t : Ty) → IsSized old t → IsSized new t
sized_kept old new f void h = h
sized_kept old new f (integer t) h = tt
sized_kept old new f (atomic t) h = tt
sized_kept old new f mutex h = tt
sized_kept old new f (pointer t) h = tt
sized_kept old new f (array t n) h =
    let e : size_in new t ≡ size_in old t = size_kept old new f t h.0 in
    (sized_kept old new f t h.0, h.1, subst (λ k. k * n ≤ greatest_object) (sym e) h.2)
sized_kept old new f (structure n) h =
    let e : layout_size (slice_get new n) ≡ layout_size (slice_get old n) = ap layout_size (struct_kept old new n f h.1) in
    let p : 0 < layout_size (slice_get new n) = subst (λ k. 0 < k) (sym e) h.1 in
    (in_list new n p, p, subst (λ k. k ≤ greatest_object) (sym e) h.2)

-- ---- arrays in a type have a size, and atomic numbers 32 or 64 bits, behind pointers too

abbrev pub Ready : List Layout → Ty → Type 0
Ready s void = Unit {0}
Ready s (integer t) = Unit {0}
Ready s (atomic t) = IsPromoted t
Ready s mutex = Unit {0}
Ready s (pointer t) = Ready s t
Ready s (array t n) = IsSized s (array t n) × Ready s t
Ready s (structure n) = Unit {0}

pub ready_kept : (old new : List Layout) → Extends old new → (t : Ty) → Ready old t → Ready new t
ready_kept old new f void h = tt
ready_kept old new f (integer t) h = tt
ready_kept old new f (atomic t) h = h
ready_kept old new f mutex h = tt
ready_kept old new f (pointer t) h = ready_kept old new f t h
ready_kept old new f (array t n) h = (sized_kept old new f (array t n) h.0, ready_kept old new f t h.1)
ready_kept old new f (structure n) h = tt

-- no struct is greater than the greatest object
abbrev pub AreSmall : List Layout → Type 0
AreSmall s = (n : ℕ) (l : Layout) → slice_get s n ≡ Some l → l.size ≤ greatest_object

small_at : (s : List Layout) → AreSmall s → (n : ℕ) → layout_size (slice_get s n) ≤ greatest_object
small_at s f n = by (slice_get s n) refl
  where
    by : (o : Option Layout) → slice_get s n ≡ o → layout_size o ≤ greatest_object
    by None e = omega arith
    by (Some l) e = f n l e

pub sized_of : (s : List Layout) → AreSmall s → (t : Ty) → Ready s t → has_size s t ≡ true → IsSized s t
sized_of s f void r h = absurd cc
sized_of s f (integer t) r h = tt
sized_of s f (atomic t) r h = tt
sized_of s f mutex r h = tt
sized_of s f (pointer t) r h = tt
sized_of s f (array t n) r h = r.0
sized_of s f (structure n) r h =
    let p : 0 < layout_size (slice_get s n) = below 0 (layout_size (slice_get s n)) h in
    (in_list s n p, p, small_at s f n)

pub has_size_kept : (old new : List Layout) → Extends old new → (t : Ty) → has_size old t ≡ true → has_size new t ≡ true
has_size_kept old new f void h = h
has_size_kept old new f (integer t) h = refl
has_size_kept old new f (atomic t) h = refl
has_size_kept old new f mutex h = refl
has_size_kept old new f (pointer t) h = refl
has_size_kept old new f (array t n) h = has_size_kept old new f t h
has_size_kept old new f (structure n) h =
    let p : 0 < layout_size (slice_get old n) = below 0 (layout_size (slice_get old n)) h in
    subst (λ o. nat_lt 0 (layout_size o) ≡ true) (sym (struct_kept old new n f p)) h

-- what a pointer leads to: an object, or what has its address alone
pub target_of : (s : List Layout) → AreSmall s → (t : Ty) → Ready s t → IsTarget s t
target_of s f void r = inr tt
target_of s f (integer t) r = inl tt
target_of s f (atomic t) r = inl tt
target_of s f mutex r = inl tt
target_of s f (pointer t) r = inl tt
target_of s f (array t n) r = inl r.0
target_of s f (structure n) r = by (nat_lt 0 (layout_size (slice_get s n))) refl
  where
    by : (b : Bool) → nat_lt 0 (layout_size (slice_get s n)) ≡ b → IsTarget s (structure n)
    by true h = inl (sized_of s f (structure n) r h)
    by false h = inr (none (layout_size (slice_get s n)) h)
      where
        none : (k : ℕ) → nat_lt 0 k ≡ false → k ≡ 0
        none k h = grind (arith, nat_tests)

-- ---- layouts

abbrev pub AreSized : List Layout → List Ty → Type 0
AreSized s ts = AllByRecursion (IsSized s) ts

pub all_sized_kept : (old new : List Layout) → Extends old new → (ts : List Ty) → AreSized old ts → AreSized new ts
all_sized_kept old new f [] h = tt
all_sized_kept old new f (t ∷ ts) h = (sized_kept old new f t h.0, all_sized_kept old new f ts h.1)

offsets_kept : (old new : List Layout) → Extends old new → (from : ℕ) (ts : List Ty) → AreSized old ts → offsets_from new from ts ≡ offsets_from old from ts
offsets_kept old new f from [] h = refl
offsets_kept old new f from (t ∷ ts) h =
    rw (align_kept old new f t h.0, size_kept old new f t h.0) (ap (λ l. rounded_up from (align_in old t) ∷ l) (offsets_kept old new f (rounded_up from (align_in old t) + size_in old t) ts h.1))

end_kept : (old new : List Layout) → Extends old new → (from : ℕ) (ts : List Ty) → AreSized old ts → end_from new from ts ≡ end_from old from ts
end_kept old new f from [] h = refl
end_kept old new f from (t ∷ ts) h =
    rw (align_kept old new f t h.0, size_kept old new f t h.0) (end_kept old new f (rounded_up from (align_in old t) + size_in old t) ts h.1)

greatest_kept : (old new : List Layout) → Extends old new → (ts : List Ty) → AreSized old ts → greatest_align new ts ≡ greatest_align old ts
greatest_kept old new f [] h = refl
greatest_kept old new f (t ∷ ts) h = rw (align_kept old new f t h.0, greatest_kept old new f ts h.1) refl

pub laid_out_kept : (old new : List Layout) → Extends old new → (ts : List Ty) → AreSized old ts → laid_out new ts ≡ laid_out old ts
laid_out_kept old new f ts h = rw (offsets_kept old new f 0 ts h, end_kept old new f 0 ts h, greatest_kept old new f ts h) refl

pub layout_kept : (old new : List Layout) → Extends old new → (l : Layout) → IsLayout old l → IsLayout new l
layout_kept old new f l h = record {
  sized = all_sized_kept old new f l.types h.sized;
  laid = h.laid ∙ sym (laid_out_kept old new f l.types h.sized);
  few = h.few;
  small = h.small;
}
