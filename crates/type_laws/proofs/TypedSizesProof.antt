-- A struct with a member has a size.
use Rattle.std.proofs.Common.{◌≡◌, ℕ, zero, suc, ◌+◌, ◌*◌, ◌<◌, ◌≤◌, inl, inr, refl, sym, ap, subst, arith, List, [], ◌∷◌, Option, Some, None, slice_get}
use Rattle.std.specs.List.{AllByRecursion}
use Rattle.std.proofs.lemmas.Option.{slice_get_within}
use Rattle.ak_words.proofs.Types.{width_bounds}
use Rattle.c_tree.specs.Typed.{Ty, void, integer, atomic, mutex, pointer, array, structure, Layout}
use Rattle.c_tree.specs.TypedForm.{IsTarget, IsMember, IsLayout}
use Rattle.c_tree.specs.TypedLayout.{greatest_object, layout_size, layout_align, size_in, align_in, IsSized, rounded_up, end_from, greatest_align}
use Rattle.type_laws.specs.TypedSizes.{PartsAreSized}

all_at : {X : Type 0} (P : X → Type 0) (xs : List X) → AllByRecursion P xs → (n : ℕ) (x : X) → slice_get xs n ≡ Some x → P x
all_at P [] h n x g = absurd cc
all_at P (y ∷ xs) h zero x g = let e : y ≡ x = cc in subst P e h.0
all_at P (y ∷ xs) h (suc n) x g = all_at P xs h.1 n x g

rounded_le : (n a : ℕ) → 1 ≤ a → n ≤ rounded_up n a
rounded_le n a h = omega arith

aligned : (structs : List Layout) (ts : List Ty) → 1 ≤ greatest_align structs ts
aligned structs [] = omega arith
aligned structs (t ∷ ts) = omega (arith, aligned structs ts)

product : (a n : ℕ) → 0 < a → 0 < n → 0 < a * n
product (suc a) (suc n) h k = omega arith
product zero n h k = absurd (omega arith)
product (suc a) zero h k = absurd (omega arith)

module _ (structs : List Layout) (all : AllByRecursion (IsLayout structs) structs) where
  struct_aligned : (o : Option Layout) (n : ℕ) → slice_get structs n ≡ o → 1 ≤ layout_align o
  struct_aligned None n e = omega arith
  struct_aligned (Some l) n e =
      let is = all_at (IsLayout structs) structs all n l e in
      subst (λ z. 1 ≤ z) (sym (ap (λ (k : Layout). k.align) is.laid)) (aligned structs l.types)

  type_aligned : (t : Ty) → IsSized structs t → 1 ≤ align_in structs t
  type_aligned void h = absurd h
  type_aligned (integer s) h = let b = width_bounds s.bits s.known_width in omega (arith, b)
  type_aligned (atomic s) h = let b = width_bounds s.bits s.known_width in omega (arith, b)
  type_aligned mutex h = omega arith
  type_aligned (pointer u) h = omega arith
  type_aligned (array u n) h = type_aligned u h.0
  type_aligned (structure n) h = struct_aligned (slice_get structs n) n refl

  type_sized : (t : Ty) → IsSized structs t → 1 ≤ size_in structs t
  type_sized void h = absurd h
  type_sized (integer s) h = let b = width_bounds s.bits s.known_width in omega (arith, b)
  type_sized (atomic s) h = let b = width_bounds s.bits s.known_width in omega (arith, b)
  type_sized mutex h = omega arith
  type_sized (pointer u) h = omega arith
  type_sized (array u n) h = product (size_in structs u) n (type_sized u h.0) h.1
  type_sized (structure n) h = h.1

  end_le : (from : ℕ) (ts : List Ty) → AllByRecursion (IsSized structs) ts → from ≤ end_from structs from ts
  end_le from [] h = omega arith
  end_le from (t ∷ ts) h =
      let a = rounded_le from (align_in structs t) (type_aligned t h.0) in
      let b = end_le (rounded_up from (align_in structs t) + size_in structs t) ts h.1 in
      omega (arith, a, b)

  some_end : (ts : List Ty) → AllByRecursion (IsSized structs) ts → (m : ℕ) (t : Ty) → slice_get ts m ≡ Some t → 1 ≤ end_from structs 0 ts
  some_end [] h m t e = absurd cc
  some_end (u ∷ ts) h m t e =
      let a = type_sized u h.0 in
      let b = end_le (rounded_up 0 (align_in structs u) + size_in structs u) ts h.1 in
      omega (arith, a, b)

  struct_sized : (n m : ℕ) (t : Ty) → IsMember structs (structure n) m t → IsSized structs (structure n) × IsSized structs t
  struct_sized n m t h =
      let l : Layout = h.0 in
      let is = all_at (IsLayout structs) structs all n l h.1 in
      let last = some_end l.types is.sized m t h.2 in
      let round = rounded_le (end_from structs 0 l.types) (greatest_align structs l.types) (aligned structs l.types) in
      let size : l.size ≡ rounded_up (end_from structs 0 l.types) (greatest_align structs l.types) = ap (λ (k : Layout). k.size) is.laid in
      let some : 0 < l.size = omega (arith, last, round, size) in
      let there : layout_size (slice_get structs n) ≡ l.size = ap layout_size h.1 in (
        (slice_get_within structs n l h.1, subst (λ k. 0 < k) (sym there) some, subst (λ k. k ≤ greatest_object) (sym there) is.small),
        all_at (IsSized structs) l.types is.sized m t h.2,
      )

pub parts_are_sized : PartsAreSized
parts_are_sized = record {
  of_a_struct = λ structs all s m t h. of_struct structs all s m t h;
  of_an_array = λ structs t n h. of_array structs t n h;
}
  where
    of_struct : (structs : List Layout) → AllByRecursion (IsLayout structs) structs → (s : Ty) (m : ℕ) (t : Ty) → IsMember structs s m t → IsSized structs s × IsSized structs t
    of_struct structs all (structure n) m t h = struct_sized structs all n m t h
    of_struct structs all void m t h = absurd h
    of_struct structs all (integer s) m t h = absurd h
    of_struct structs all (atomic i) m t h = absurd h
    of_struct structs all mutex m t h = absurd h
    of_struct structs all (pointer s) m t h = absurd h
    of_struct structs all (array s k) m t h = absurd h

    of_array : (structs : List Layout) (t : Ty) (n : ℕ) → IsTarget structs (array t n) → IsSized structs (array t n) × IsSized structs t
    of_array structs t n (inl h) = (h, h.0)
    of_array structs t n (inr h) = absurd h
