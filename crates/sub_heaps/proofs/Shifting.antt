-- One object at a new place: the sub-heaps stay sound, and where no other starts between the two places a walk with this one move leaves the same list.
use Rattle.std.proofs.Common.{◌≡◌, ◌≢◌, ℕ, ◌%◌, ◌<◌, ◌≤◌, eqb, cond, true, false, Bool, List, [], ◌∷◌, length, Option, Some, None, IsSome, IsSomeAnd, refl, sym, ap, ◌∙◌, subst, inl, inr, arith}
use Rattle.std.specs.List.{AllByRecursion as Each, find}
use Rattle.std.specs.Bool.{nat_le}
use Rattle.std.proofs.lemmas.Bool.{cases_lt, eq-eqb, ne_eqb}
use Rattle.std.proofs.lemmas.Bool.Decides.{nat_tests}
use Rattle.sub_heaps.specs.declared.moves.Move.{Move}
use Rattle.sub_heaps.specs.declared.objects.Object.{Object}
use Rattle.sub_heaps.specs.declared.tree.Tree.{Tree}
use Rattle.sub_heaps.specs.ByPlace.{end_of, object_at, without, with_moved, shifted}
use Rattle.sub_heaps.specs.SubHeaps.{SubHeaps, IsRounded, FitsAt, IsSound, IsAligned}
use Rattle.sub_heaps.specs.inner.Order.{InOrder}
use Rattle.sub_heaps.specs.inner.Pools.{IsKept}
use Rattle.sub_heaps.specs.inner.Trees.{objects_of, IsTree}
use Rattle.sub_heaps.specs.inner.Walks.{walked}
use Rattle.sub_heaps.proofs.Aligned.{with_object_aligned, without_aligned}
use Rattle.sub_heaps.proofs.Edits.{object_at-split, without-split, with_object-split}
use Rattle.sub_heaps.proofs.Fits.{objects_in_order}
use Rattle.sub_heaps.proofs.Kept.{IsSound-with_object, IsSound-without}
use Rattle.sub_heaps.proofs.Order.{start_behind}
use Rattle.sub_heaps.proofs.Standing.{Each-weaker, each_rounded}
use Rattle.sub_heaps.proofs.Taken.{found_each, length-without}
use Rattle.sub_heaps.proofs.Walked.{length-walked}

-- ---- what a shift keeps

abbrev pub MayShift : (from to : ℕ) → SubHeaps → Type 0
MayShift from to h = IsSomeAnd (object_at from h.objects) (λ o. FitsAt (record h { objects = without from h.objects }) o.size to)

pub IsSound-shifted : (from to : ℕ) (h : SubHeaps) → IsSound h → MayShift from to h → IsSound (record h { objects = shifted from to h.objects })
IsSound-shifted from to h sound may = at_found (object_at from h.objects) refl may
  where
    at_found : (r : Option Object) → object_at from h.objects ≡ r → IsSomeAnd r (λ o. FitsAt (record h { objects = without from h.objects }) o.size to) → IsSound (record h { objects = with_moved r to (without from h.objects) })
    at_found None is fits = absurd fits
    at_found (Some o) is fits =
        let there : IsSome (object_at from h.objects) = rw is refl in
        let others = without from h.objects in
        let few : length others < h.most = omega (arith, length-without from 0 h.objects (objects_in_order h sound) there, sound.few) in
        let takes = found_each (λ x. IsRounded x.size) from h.objects o is (each_rounded h.count h.size 0 h.objects sound.stand) in
        IsSound-with_object (record h { objects = others }) (record o { at = to }) (IsSound-without h from sound there) few takes fits

pub IsAligned-shifted : (from to : ℕ) (h : SubHeaps) → to % 16 ≡ 0 → IsAligned h → IsAligned (record h { objects = shifted from to h.objects })
IsAligned-shifted from to h multiple aligned = at_found (object_at from h.objects)
  where
    at_found : (r : Option Object) → IsAligned (record h { objects = with_moved r to (without from h.objects) })
    at_found None = without_aligned h from aligned
    at_found (Some o) = with_object_aligned (record h { objects = without from h.objects }) (record o { at = to }) multiple (without_aligned h from aligned)

-- ---- a shift that keeps the order

-- what stands below both places stays before it
shifted-front : (from to : ℕ) (x : Object) (xs : List Object) → x.at ≢ from → x.at ≤ to → shifted from to (x ∷ xs) ≡ x ∷ shifted from to xs
shifted-front from to x xs other low =
    let found : object_at from (x ∷ xs) ≡ object_at from xs = grind (arith, nat_tests) in
    let kept : without from (x ∷ xs) ≡ x ∷ without from xs = grind (arith, nat_tests) in
    rw (found, kept) (at_found (object_at from xs))
  where
    at_found : (r : Option Object) → with_moved r to (x ∷ without from xs) ≡ x ∷ with_moved r to (without from xs)
    at_found None = refl
    at_found (Some o) = grind (arith, nat_tests)

-- the first object stays the first
shifted-first : (to : ℕ) (x : Object) (xs : List Object) → to ≤ x.at → Each (λ y. x.at < y.at) xs → shifted x.at to (x ∷ xs) ≡ record x { at = to } ∷ xs
shifted-first to x xs low above =
    let found : object_at x.at (x ∷ xs) ≡ Some x = object_at-split x.at [] x xs tt refl in
    let out : without x.at (x ∷ xs) ≡ xs = without-split x.at [] x xs tt refl above in
    rw (found, out) (with_object-split (record x { at = to }) [] xs tt (Each-weaker (λ y. x.at < y.at) (λ y. to < y.at) (λ y high. omega (arith, high, low)) xs above))

found_passes : (p : Object → Bool) (xs : List Object) (o : Object) → find p xs ≡ Some o → p o ≡ true
found_passes p [] o found = absurd cc
found_passes p (x ∷ xs) o found =
    elim (p x) as (λ t. p x ≡ t → cond t (Some x) (find p xs) ≡ Some o → p o ≡ true) [
      | true ↦ λ is found. let same : x ≡ o = cc in subst (λ y. p y ≡ true) same is
      | false ↦ λ is found. found_passes p xs o found
    ] refl found

pub walked-shifted : (m : Move) (low : ℕ) (xs : List Object) (o : Object) → InOrder low xs → find (λ x. nat_le m.to x.at) xs ≡ Some o → o.at ≡ m.from → walked (m ∷ []) xs ≡ shifted m.from m.to xs
walked-shifted m low [] o order found is = absurd cc
walked-shifted m low (x ∷ xs) o order found is = elim (cases_lt x.at m.to) [
  | inl below ↦
      let passed : find (λ x. nat_le m.to x.at) (x ∷ xs) ≡ find (λ x. nat_le m.to x.at) xs = grind (arith, nat_tests) in
      let passes : nat_le m.to o.at ≡ true = found_passes (λ x. nat_le m.to x.at) (x ∷ xs) o found in
      let above : m.to ≤ o.at = grind (arith, nat_tests) in
      let apart : x.at ≢ m.from = λ same. absurd (omega (arith, same, is, above, below)) in
      let other : eqb m.from x.at ≡ false = ne_eqb m.from x.at (λ same. apart (sym same)) in
      rw other (ap (λ ys. x ∷ ys) (walked-shifted m (end_of x) xs o order.2 (rw passed at found) is) ∙ sym (shifted-front m.from m.to x xs apart (omega (arith, below))))
  | inr high ↦
      let first : find (λ x. nat_le m.to x.at) (x ∷ xs) ≡ Some x = grind (arith, nat_tests) in
      let same : x ≡ o = cc in
      let here : x.at ≡ m.from = ap (λ (y : Object). y.at) same ∙ is in
      let hit : eqb m.from x.at ≡ true = eq-eqb m.from x.at (sym here) in
      rw hit (sym (subst (λ from. shifted from m.to (x ∷ xs) ≡ record x { at = m.to } ∷ xs) here (shifted-first m.to x xs high (start_behind low [] x xs order))))
]

-- ---- the tree and the spare nodes

pub IsKept-walked : (count size most : ℕ) (tree : Tree) (spare room : ℕ) → IsKept count size most tree spare room → (ms : List Move) (t : Tree) → IsSound (record { count = count; size = size; most = most; objects = walked ms (objects_of tree) }) → IsTree size t → objects_of t ≡ walked ms (objects_of tree) → IsKept count size most t spare room
IsKept-walked count size most tree spare room kept ms t sound balanced is = record {
  sound = subst (λ (xs : List Object). IsSound (record { count = count; size = size; most = most; objects = xs })) (sym is) sound;
  balanced = balanced;
  nodes = omega (arith, ap (λ (xs : List Object). length xs) is, length-walked ms (objects_of tree), kept.nodes);
  given_back = kept.given_back;
}
