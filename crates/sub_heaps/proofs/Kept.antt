-- What an edit does to sound sub-heaps, and to the tree and the spare nodes that keep them.
use Rattle.std.proofs.Common.{◌≡◌, ℕ, ◌+◌, ◌<◌, ◌≤◌, List, [], ◌∷◌, length, IsSome, ap, sym, subst, inl, inr, arith}
use Rattle.std.specs.List.{AllByRecursion as Each}
use Rattle.std.proofs.lemmas.Bool.{cases_lt}
use Rattle.std.proofs.lemmas.Bool.Decides.{nat_tests}
use Rattle.std.proofs.lemmas.List.Elements.{recursion_from_All}
use Rattle.sub_heaps.specs.declared.objects.Object.{Object}
use Rattle.sub_heaps.specs.declared.tree.Tree.{Tree}
use Rattle.sub_heaps.specs.ByPlace.{end_of, object_at, with_object, without}
use Rattle.sub_heaps.specs.SubHeaps.{SubHeaps, LiesInOne, IsRounded, IsApartFrom, StandFrom, FitsAt, IsSound, rounded}
use Rattle.sub_heaps.specs.inner.Order.{InOrder}
use Rattle.sub_heaps.specs.inner.Pools.{heaps_of, IsKept}
use Rattle.sub_heaps.specs.inner.Trees.{objects_of, IsTree, IsOrdered}
use Rattle.sub_heaps.proofs.Depth.{shallow}
use Rattle.sub_heaps.proofs.Fits.{objects_in_order}
use Rattle.sub_heaps.proofs.Taken.{StandFrom-without, length-without}

pub IsRounded-rounded : (bytes : ℕ) → IsRounded (rounded bytes)
IsRounded-rounded bytes = (omega arith, omega arith)

-- ---- one object more

pub length-with_object : (new : Object) (xs : List Object) → length (with_object new xs) ≡ length xs + 1
length-with_object new [] = omega arith
length-with_object new (x ∷ xs) = elim (cases_lt new.at x.at) [
  | inl below ↦ (let is : with_object new (x ∷ xs) ≡ new ∷ x ∷ xs = grind (arith, nat_tests) in omega (arith, ap (λ (ys : List Object). length ys) is))
  | inr above ↦ (let is : with_object new (x ∷ xs) ≡ x ∷ with_object new xs = grind (arith, nat_tests) in omega (arith, ap (λ (ys : List Object). length ys) is, length-with_object new xs))
]

module _ (count size : ℕ) (new : Object) (lies : LiesInOne count size new.size new.at) (takes : IsRounded new.size) where
  -- an object that is apart from each of those that stand stands with them
  pub StandFrom-with_object : (from : ℕ) (xs : List Object) → from ≤ new.at → StandFrom count size from xs → Each (IsApartFrom new.size new.at) xs → StandFrom count size from (with_object new xs)
  StandFrom-with_object from [] low stand apart = (low, lies, takes, tt)
  StandFrom-with_object from (x ∷ xs) low stand apart = elim (cases_lt new.at x.at) [
    | inl below ↦
        let is : with_object new (x ∷ xs) ≡ new ∷ x ∷ xs = grind (arith, nat_tests) in
        let clear : end_of new ≤ x.at = elim apart.0 [ inl beneath ↦ absurd (omega (arith, beneath, below)) | inr over ↦ over ] in
        rw is (low, lies, takes, (clear, stand.1, stand.2, stand.3))
    | inr above ↦
        let is : with_object new (x ∷ xs) ≡ x ∷ with_object new xs = grind (arith, nat_tests) in
        let clear : end_of x ≤ new.at = elim apart.0 [ inl beneath ↦ beneath | inr over ↦ absurd (omega (arith, over, above, takes)) ] in
        rw is (stand.0, stand.1, stand.2, StandFrom-with_object (end_of x) xs clear stand.3 apart.1)
  ]

pub IsSound-with_object : (h : SubHeaps) (new : Object) → IsSound h → length h.objects < h.most → IsRounded new.size → FitsAt h new.size new.at → IsSound (record h { objects = with_object new h.objects })
IsSound-with_object h new sound room takes fits = record {
  shape = sound.shape;
  few = omega (arith, length-with_object new h.objects, room);
  stand = StandFrom-with_object h.count h.size new fits.inside takes 0 h.objects (omega arith) sound.stand (recursion_from_All (IsApartFrom new.size new.at) h.objects fits.clear);
}

-- ---- one object less

pub IsSound-without : (h : SubHeaps) (at : ℕ) → IsSound h → IsSome (object_at at h.objects) → IsSound (record h { objects = without at h.objects })
IsSound-without h at sound found = record {
  shape = sound.shape;
  few = omega (arith, length-without at 0 h.objects (objects_in_order h sound) found, sound.few);
  stand = StandFrom-without at h.count h.size 0 h.objects sound.stand;
}

-- ---- the tree and the spare nodes

module _ (count size most : ℕ) (tree : Tree) (spare room : ℕ) (kept : IsKept count size most tree spare room) where
  pub tree_ordered : IsOrdered size tree
  tree_ordered = record {
    some = omega (arith, kept.sound.shape.size_least);
    bounded = omega (arith, Rattle.std.proofs.lemmas.Nat.mul-le 1 size count size kept.sound.shape.has_sub_heap (omega arith), kept.sound.shape.whole_bounded);
    tree = kept.balanced;
    shallow = omega (arith, shallow size tree kept.balanced (omega (arith, kept.sound.few, kept.sound.shape.most_bounded)));
    order = objects_in_order (heaps_of count size most tree) kept.sound;
  }

  pub with_object_in_order : (new : Object) → length (objects_of tree) < most → IsRounded new.size → FitsAt (heaps_of count size most tree) new.size new.at → InOrder 0 (with_object new (objects_of tree))
  with_object_in_order new few takes fits =
      objects_in_order (record { count = count; size = size; most = most; objects = with_object new (objects_of tree) }) (IsSound-with_object (heaps_of count size most tree) new kept.sound few takes fits)

  pub IsKept-with_object : (new : Object) (t : Tree) (n r : ℕ) → length (objects_of tree) < most → IsRounded new.size → FitsAt (heaps_of count size most tree) new.size new.at → IsTree size t → objects_of t ≡ with_object new (objects_of tree) → n + 1 ≡ spare → most ≤ r → IsKept count size most t n r
  IsKept-with_object new t n r few takes fits balanced is nodes given_back = record {
    sound = subst (λ (xs : List Object). IsSound (record { count = count; size = size; most = most; objects = xs })) (sym is) (IsSound-with_object (heaps_of count size most tree) new kept.sound few takes fits);
    balanced = balanced;
    nodes = omega (arith, ap (λ (xs : List Object). length xs) is, length-with_object new (objects_of tree), kept.nodes, nodes);
    given_back = given_back;
  }

  pub IsKept-without : (at : ℕ) (t : Tree) (n r : ℕ) → IsSome (object_at at (objects_of tree)) → IsTree size t → objects_of t ≡ without at (objects_of tree) → n ≡ spare + 1 → most ≤ r → IsKept count size most t n r
  IsKept-without at t n r found balanced is nodes given_back = record {
    sound = subst (λ (xs : List Object). IsSound (record { count = count; size = size; most = most; objects = xs })) (sym is) (IsSound-without (heaps_of count size most tree) at kept.sound found);
    balanced = balanced;
    nodes = omega (arith, ap (λ (xs : List Object). length xs) is, length-without at 0 (objects_of tree) (objects_in_order (heaps_of count size most tree) kept.sound) found, kept.nodes, nodes);
    given_back = given_back;
  }
