-- Sizes and offsets are small, in well formed programs.
use Rattle.std.proofs.Common.{◌≡◌, ℕ, zero, suc, ◌+◌, ◌^◌, ◌<◌, ◌≤◌, List, [], ◌∷◌, Option, Some, None, refl, sym, ap, subst, arith}
use Rattle.std.specs.Prelude.{slice_get}
use Rattle.std.specs.List.{AllByRecursion}
use Rattle.ak_words.proofs.Types.{width_bounds}
use Rattle.c_tree.specs.Typed as tree
use Rattle.c_tree.specs.TypedForm.{IsLayout, IsWellFormed}
use Rattle.c_tree.specs.TypedLayout.{layout_size, layout_align, size_in, align_in, IsSized, rounded_up, offsets_from, end_from, greatest_align}
use Rattle.c_meaning.specs.Values.{offset_or_0, offset_in, member_offset}
use Rattle.lower_turns.proofs.Calls.{all_at}

rounded_le : (n a : ℕ) → 1 ≤ a → n ≤ rounded_up n a
rounded_le n a h = omega arith

aligned : (structs : List tree.Layout) (ts : List tree.Ty) → 1 ≤ greatest_align structs ts
aligned structs [] = omega arith
aligned structs (t ∷ ts) = omega (arith, aligned structs ts)

module _ (t : tree.Typed) (w : IsWellFormed t) where
  struct_aligned : (n : ℕ) (o : Option tree.Layout) → slice_get t.structs n ≡ o → 1 ≤ layout_align o
  struct_aligned n None e = omega arith
  struct_aligned n (Some l) e =
      let is = all_at (IsLayout t.structs) t.structs n l w.structs e in
      subst (λ z. 1 ≤ z) (sym (ap (λ (k : tree.Layout). k.align) is.laid)) (aligned t.structs l.types)

  type_aligned : (ty : tree.Ty) → IsSized t.structs ty → 1 ≤ align_in t.structs ty
  type_aligned tree.void h = elim h [ ]
  type_aligned (tree.integer s) h = let b = width_bounds s.bits s.known_width in omega (arith, b)
  type_aligned (tree.atomic s) h = let b = width_bounds s.bits s.known_width in omega (arith, b)
  type_aligned tree.mutex h = omega arith
  type_aligned (tree.pointer u) h = omega arith
  type_aligned (tree.array u n) h = type_aligned u h.0
  type_aligned (tree.structure n) h = struct_aligned n (slice_get t.structs n) refl

  end_le : (from : ℕ) (ts : List tree.Ty) → AllByRecursion (IsSized t.structs) ts → from ≤ end_from t.structs from ts
  end_le from [] h = omega arith
  end_le from (ty ∷ ts) h =
      let a = rounded_le from (align_in t.structs ty) (type_aligned ty h.0) in
      let b = end_le (rounded_up from (align_in t.structs ty) + size_in t.structs ty) ts h.1 in
      omega (arith, a, b)

  offset_le : (from : ℕ) (ts : List tree.Ty) → AllByRecursion (IsSized t.structs) ts → (m : ℕ) → offset_or_0 (slice_get (offsets_from t.structs from ts) m) ≤ end_from t.structs from ts
  offset_le from [] h m = omega arith
  offset_le from (ty ∷ ts) h zero =
      let b = end_le (rounded_up from (align_in t.structs ty) + size_in t.structs ty) ts h.1 in
      omega (arith, b)
  offset_le from (ty ∷ ts) h (suc m) = offset_le (rounded_up from (align_in t.structs ty) + size_in t.structs ty) ts h.1 m

  layout_small : (l : tree.Layout) → IsLayout t.structs l → (m : ℕ) → offset_or_0 (slice_get l.offsets m) < 2 ^ 64
  layout_small l is m =
      let a = offset_le 0 l.types is.sized m in
      let b = rounded_le (end_from t.structs 0 l.types) (greatest_align t.structs l.types) (aligned t.structs l.types) in
      let e = ap (λ (k : tree.Layout). k.offsets) is.laid in
      let s = ap (λ (k : tree.Layout). k.size) is.laid in
      let c = is.small in
      subst (λ xs. offset_or_0 (slice_get xs m) < 2 ^ 64) (sym e) (omega (arith, a, b, s, c))

  struct_offset : (n m : ℕ) (o : Option tree.Layout) → slice_get t.structs n ≡ o → offset_in o m < 2 ^ 64
  struct_offset n m None e = omega arith
  struct_offset n m (Some l) e = layout_small l (all_at (IsLayout t.structs) t.structs n l w.structs e) m

  -- an offset is small
  pub offset_small : (ty : tree.Ty) (m : ℕ) → member_offset t.structs ty m < 2 ^ 64
  offset_small (tree.structure n) m = struct_offset n m (slice_get t.structs n) refl
  offset_small tree.void m = omega arith
  offset_small (tree.integer s) m = omega arith
  offset_small (tree.atomic s) m = omega arith
  offset_small tree.mutex m = omega arith
  offset_small (tree.pointer u) m = omega arith
  offset_small (tree.array u n) m = omega arith

  struct_size : (n : ℕ) (o : Option tree.Layout) → slice_get t.structs n ≡ o → layout_size o < 2 ^ 64
  struct_size n None e = omega arith
  struct_size n (Some l) e = let h = (all_at (IsLayout t.structs) t.structs n l w.structs e).small in omega (arith, h)

  -- a struct is
  pub size_small : (n : ℕ) → size_in t.structs (tree.structure n) < 2 ^ 64
  size_small n = struct_size n (slice_get t.structs n) refl
