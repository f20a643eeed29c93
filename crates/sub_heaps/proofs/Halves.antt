-- A node's objects are those of its left side, its own, and those of its right side: what is put in or taken out stands in one of these.
use Rattle.std.proofs.Common.{◌≡◌, ℕ, ◌+◌, ◌<◌, ◌≤◌, List, [], ◌∷◌, ◌++◌, length, length-append, Box, Some, refl, sym, ap, ◌∙◌, subst, inl, inr, arith}
use Rattle.std.specs.declared.alloc.Global.{Global}
use Rattle.std.specs.List.{AllByRecursion as Each, find}
use Rattle.std.specs.Bool.{nat_le}
use Rattle.std.specs.Option.{option_or}
use Rattle.std.proofs.lemmas.Bool.{cases_eq}
use Rattle.std.proofs.lemmas.List.Folds.{find-append}
use Rattle.std.proofs.lemmas.Bool.Decides.{nat_tests}
use Rattle.sub_heaps.specs.declared.objects.Object.{Object}
use Rattle.sub_heaps.specs.declared.tree.Tree.{Tree}
use Rattle.sub_heaps.specs.declared.tree.Node.{Node}
use Rattle.sub_heaps.specs.declared.tree.Tree.TheVariants.{Fork}
use Rattle.sub_heaps.specs.ByPlace.{end_of, object_at, with_object, without}
use Rattle.sub_heaps.specs.inner.Order.{InOrder, last_end}
use Rattle.sub_heaps.specs.inner.Trees.{objects_of, height_of, IsTree, AreSides, AreApart, IsOrdered}
use Rattle.sub_heaps.proofs.Edits.{object_at-skip, object_at-front, object_at-split, without-skip, without-front, without-split, with_object-skip, with_object-front, first_from-skip}
use Rattle.sub_heaps.proofs.Order.{InOrder-left, InOrder-right, InOrder-append, InOrder-weaker, start_before, start_behind}
use Rattle.sub_heaps.proofs.Standing.{Each-weaker}

-- ---- lists in order, split at an object

module _ (from : ℕ) (xs : List Object) (o : Object) (ys : List Object) (order : InOrder from (xs ++ o ∷ ys)) where
  behind_above : (at : ℕ) → at < o.at → Each (λ y. at < y.at) (o ∷ ys)
  behind_above at low = (low, Each-weaker (λ y. o.at < y.at) (λ y. at < y.at) (λ y above. omega (arith, above)) ys (start_behind from xs o ys order))

  before_below : (at : ℕ) → o.at ≤ at → Each (λ x. x.at < at) xs
  before_below at high = Each-weaker (λ x. x.at < o.at) (λ x. x.at < at) (λ x below. omega (arith, below)) xs (start_before from xs o ys order)

  pub object_at-left : (at : ℕ) → at < o.at → object_at at (xs ++ o ∷ ys) ≡ object_at at xs
  object_at-left at low = object_at-front at xs (o ∷ ys) (behind_above at low)

  pub object_at-right : (at : ℕ) → o.at < at → object_at at (xs ++ o ∷ ys) ≡ object_at at ys
  object_at-right at high = object_at-skip at xs (o ∷ ys) (before_below at (omega arith)) ∙ passed
    where
      passed : object_at at (o ∷ ys) ≡ object_at at ys
      passed = grind (arith, nat_tests)

  pub object_at-here : object_at o.at (xs ++ o ∷ ys) ≡ Some o
  object_at-here = object_at-split o.at xs o ys (start_before from xs o ys order) refl

  pub without-left : (at : ℕ) → at < o.at → without at (xs ++ o ∷ ys) ≡ without at xs ++ o ∷ ys
  without-left at low = without-front at xs (o ∷ ys) (behind_above at low)

  pub without-right : (at : ℕ) → o.at < at → without at (xs ++ o ∷ ys) ≡ xs ++ o ∷ without at ys
  without-right at high = without-skip at xs (o ∷ ys) (before_below at (omega arith)) ∙ ap (λ zs. xs ++ zs) passed
    where
      passed : without at (o ∷ ys) ≡ o ∷ without at ys
      passed = grind (arith, nat_tests)

  pub without-here : without o.at (xs ++ o ∷ ys) ≡ xs ++ ys
  without-here = without-split o.at xs o ys (start_before from xs o ys order) refl (start_behind from xs o ys order)

  pub with_object-right : (new : Object) → o.at ≤ new.at → with_object new (xs ++ o ∷ ys) ≡ xs ++ o ∷ with_object new ys
  with_object-right new high =
      with_object-skip new xs (o ∷ ys) (Each-weaker (λ x. x.at < o.at) (λ x. x.at ≤ new.at) (λ x below. omega (arith, below)) xs (start_before from xs o ys order)) ∙ ap (λ zs. xs ++ zs) passed
    where
      passed : with_object new (o ∷ ys) ≡ o ∷ with_object new ys
      passed = grind (arith, nat_tests)

  pub first_from-right : (at : ℕ) → o.at < at → find (λ o. nat_le at o.at) (xs ++ o ∷ ys) ≡ find (λ o. nat_le at o.at) ys
  first_from-right at high = first_from-skip at xs (o ∷ ys) (before_below at (omega arith)) ∙ passed
    where
      passed : find (λ o. nat_le at o.at) (o ∷ ys) ≡ find (λ o. nat_le at o.at) ys
      passed = grind (arith, nat_tests)

  -- the list without the object is in order
  pub InOrder-without_middle : InOrder from (xs ++ ys)
  InOrder-without_middle =
      let right = InOrder-right from xs (o ∷ ys) order in
      InOrder-append from xs ys (InOrder-left from xs (o ∷ ys) order) (InOrder-weaker (last_end from xs) (end_of o) ys (omega (arith, right.0)) right.2)

-- a list in order stays so without the object at a place
pub InOrder-without : (at from : ℕ) (xs : List Object) → InOrder from xs → InOrder from (without at xs)
InOrder-without at from [] order = order
InOrder-without at from (o ∷ os) order = elim (cases_eq o.at at) [
  | inl here ↦
      let rest = InOrder-weaker from (end_of o) (without at os) (omega (arith, order.0, order.1)) (InOrder-without at (end_of o) os order.2) in
      let is : without at (o ∷ os) ≡ without at os = grind (arith, nat_tests) in
      rw is rest
  | inr other ↦
      let is : without at (o ∷ os) ≡ o ∷ without at os = grind (arith, nat_tests) in
      rw is (order.0, order.1, InOrder-without at (end_of o) os order.2)
]

-- what stands behind an object is in order
pub InOrder-behind : (xs : List Object) (o : Object) (ys : List Object) → InOrder 0 (xs ++ o ∷ ys) → InOrder 0 ys
InOrder-behind xs o ys order = (let right = InOrder-right 0 xs (o ∷ ys) order in InOrder-weaker 0 (end_of o) ys (omega arith) right.2)

-- the first object at or above a place that lies at or below an object
pub first_from-left : (at : ℕ) (xs : List Object) (o : Object) (ys : List Object) → at ≤ o.at → find (λ o. nat_le at o.at) (xs ++ o ∷ ys) ≡ option_or (find (λ o. nat_le at o.at) xs) (Some o)
first_from-left at xs o ys low = find-append (λ o. nat_le at o.at) xs (o ∷ ys) ∙ ap (λ found. option_or (find (λ o. nat_le at o.at) xs) found) here
  where
    here : find (λ o. nat_le at o.at) (o ∷ ys) ≡ Some o
    here = grind (arith, nat_tests)

-- each side of a node has fewer objects
pub left_smaller : (t : Tree) (node : Box Node Global) → t ≡ Fork node → length (objects_of node.value.left) < length (objects_of t)
left_smaller t node is = rw is (omega (arith, length-append (objects_of node.value.left) (node.value.object ∷ objects_of node.value.right)))

pub right_smaller : (t : Tree) (node : Box Node Global) → t ≡ Fork node → length (objects_of node.value.right) < length (objects_of t)
right_smaller t node is = rw is (omega (arith, length-append (objects_of node.value.left) (node.value.object ∷ objects_of node.value.right)))

-- ---- a node in order

module _ (size : ℕ) (node : Box Node Global) (ordered : IsOrdered size (Fork node)) where
  pub left_ordered : IsOrdered size node.value.left
  left_ordered = record {
    some = ordered.some;
    bounded = ordered.bounded;
    tree = ordered.tree.0;
    shallow = omega (arith, ordered.shallow, ordered.tree.2);
    order = InOrder-left 0 (objects_of node.value.left) (node.value.object ∷ objects_of node.value.right) ordered.order;
  }

  pub right_ordered : IsOrdered size node.value.right
  right_ordered = record {
    some = ordered.some;
    bounded = ordered.bounded;
    tree = ordered.tree.1;
    shallow = omega (arith, ordered.shallow, ordered.tree.2);
    order = InOrder-behind (objects_of node.value.left) node.value.object (objects_of node.value.right) ordered.order;
  }

  -- with another left side, and with another right side
  pub left_changed : (left : Tree) → IsTree size left → height_of left ≤ height_of node.value.left + 1 → InOrder 0 (objects_of left ++ node.value.object ∷ objects_of node.value.right) → AreSides size left node.value.object node.value.right
  left_changed left tree low order = record {
    some = ordered.some;
    bounded = ordered.bounded;
    left_tree = tree;
    right_tree = ordered.tree.1;
    shallow = omega (arith, ordered.shallow, ordered.tree.2, low);
    order = order;
  }

  pub right_changed : (right : Tree) → IsTree size right → height_of right ≤ height_of node.value.right + 1 → InOrder 0 (objects_of node.value.left ++ node.value.object ∷ objects_of right) → AreSides size node.value.left node.value.object right
  right_changed right tree low order = record {
    some = ordered.some;
    bounded = ordered.bounded;
    left_tree = ordered.tree.0;
    right_tree = tree;
    shallow = omega (arith, ordered.shallow, ordered.tree.2, low);
    order = order;
  }

  -- and without its own object
  pub sides_apart : AreApart size node.value.left node.value.right
  sides_apart = record {
    some = ordered.some;
    bounded = ordered.bounded;
    left_tree = ordered.tree.0;
    right_tree = ordered.tree.1;
    balanced = ordered.tree.3;
    shallow = omega (arith, ordered.shallow, ordered.tree.2);
    order = InOrder-without_middle 0 (objects_of node.value.left) node.value.object (objects_of node.value.right) ordered.order;
  }

  -- without the lowest of its left side
  pub lowest_gone_sides : (left : Tree) (lowest : Object) → objects_of node.value.left ≡ lowest ∷ objects_of left → IsTree size left → height_of left ≤ height_of node.value.left → AreSides size left node.value.object node.value.right
  lowest_gone_sides left lowest is tree low =
      let order : InOrder 0 (lowest ∷ (objects_of left ++ node.value.object ∷ objects_of node.value.right)) = subst (λ xs. InOrder 0 (xs ++ node.value.object ∷ objects_of node.value.right)) is ordered.order in
      left_changed left tree (omega arith) (InOrder-weaker 0 (end_of lowest) _ (omega arith) order.2)

-- ---- one object more

module _ (size : ℕ) (node : Box Node Global) (ordered : IsOrdered size (Fork node)) (new : Object) (fits : InOrder 0 (with_object new (objects_of (Fork node)))) where
  module _ (low : new.at < node.value.object.at) where
    with_left : with_object new (objects_of (Fork node)) ≡ with_object new (objects_of node.value.left) ++ node.value.object ∷ objects_of node.value.right
    with_left = with_object-front new (objects_of node.value.left) node.value.object (objects_of node.value.right) low

    pub left_fits : InOrder 0 (with_object new (objects_of node.value.left))
    left_fits = InOrder-left 0 (with_object new (objects_of node.value.left)) (node.value.object ∷ objects_of node.value.right) (rw with_left at fits)

    pub left_grown : (left : Tree) → objects_of left ≡ with_object new (objects_of node.value.left) → objects_of left ++ node.value.object ∷ objects_of node.value.right ≡ with_object new (objects_of (Fork node))
    left_grown left is = rw is (sym with_left)

    pub left_grown_sides : (left : Tree) → objects_of left ≡ with_object new (objects_of node.value.left) → IsTree size left → height_of left ≤ height_of node.value.left + 1 → AreSides size left node.value.object node.value.right
    left_grown_sides left is tree low = left_changed size node ordered left tree low (rw (left_grown left is) fits)

  module _ (high : node.value.object.at ≤ new.at) where
    with_right : with_object new (objects_of (Fork node)) ≡ objects_of node.value.left ++ node.value.object ∷ with_object new (objects_of node.value.right)
    with_right = with_object-right 0 (objects_of node.value.left) node.value.object (objects_of node.value.right) ordered.order new high

    pub right_fits : InOrder 0 (with_object new (objects_of node.value.right))
    right_fits = InOrder-behind (objects_of node.value.left) node.value.object (with_object new (objects_of node.value.right)) (rw with_right at fits)

    pub right_grown : (right : Tree) → objects_of right ≡ with_object new (objects_of node.value.right) → objects_of node.value.left ++ node.value.object ∷ objects_of right ≡ with_object new (objects_of (Fork node))
    right_grown right is = rw is (sym with_right)

    pub right_grown_sides : (right : Tree) → objects_of right ≡ with_object new (objects_of node.value.right) → IsTree size right → height_of right ≤ height_of node.value.right + 1 → AreSides size node.value.left node.value.object right
    right_grown_sides right is tree low = right_changed size node ordered right tree low (rw (right_grown right is) fits)

-- ---- one object less

module _ (size : ℕ) (node : Box Node Global) (ordered : IsOrdered size (Fork node)) (at : ℕ) where
  module _ (low : at < node.value.object.at) where
    pub left_found : object_at at (objects_of (Fork node)) ≡ object_at at (objects_of node.value.left)
    left_found = object_at-left 0 (objects_of node.value.left) node.value.object (objects_of node.value.right) ordered.order at low

    pub left_shrunk : (left : Tree) → objects_of left ≡ without at (objects_of node.value.left) → objects_of left ++ node.value.object ∷ objects_of node.value.right ≡ without at (objects_of (Fork node))
    left_shrunk left is = rw is (sym (without-left 0 (objects_of node.value.left) node.value.object (objects_of node.value.right) ordered.order at low))

    pub left_shrunk_sides : (left : Tree) → objects_of left ≡ without at (objects_of node.value.left) → IsTree size left → height_of left ≤ height_of node.value.left → AreSides size left node.value.object node.value.right
    left_shrunk_sides left is tree low = left_changed size node ordered left tree (omega arith) (rw (left_shrunk left is) (InOrder-without at 0 (objects_of (Fork node)) ordered.order))

  module _ (high : node.value.object.at < at) where
    pub right_found : object_at at (objects_of (Fork node)) ≡ object_at at (objects_of node.value.right)
    right_found = object_at-right 0 (objects_of node.value.left) node.value.object (objects_of node.value.right) ordered.order at high

    pub right_shrunk : (right : Tree) → objects_of right ≡ without at (objects_of node.value.right) → objects_of node.value.left ++ node.value.object ∷ objects_of right ≡ without at (objects_of (Fork node))
    right_shrunk right is = rw is (sym (without-right 0 (objects_of node.value.left) node.value.object (objects_of node.value.right) ordered.order at high))

    pub right_shrunk_sides : (right : Tree) → objects_of right ≡ without at (objects_of node.value.right) → IsTree size right → height_of right ≤ height_of node.value.right → AreSides size node.value.left node.value.object right
    right_shrunk_sides right is tree low = right_changed size node ordered right tree (omega arith) (rw (right_shrunk right is) (InOrder-without at 0 (objects_of (Fork node)) ordered.order))

  module _ (here : node.value.object.at ≡ at) where
    pub own_found : object_at at (objects_of (Fork node)) ≡ Some node.value.object
    own_found = subst (λ k. object_at k (objects_of (Fork node)) ≡ Some node.value.object) here (object_at-here 0 (objects_of node.value.left) node.value.object (objects_of node.value.right) ordered.order)

    pub own_gone : objects_of node.value.left ++ objects_of node.value.right ≡ without at (objects_of (Fork node))
    own_gone = sym (subst (λ k. without k (objects_of (Fork node)) ≡ objects_of node.value.left ++ objects_of node.value.right) here (without-here 0 (objects_of node.value.left) node.value.object (objects_of node.value.right) ordered.order))

-- ---- two trees as one

pub topmost_ordered : (size : ℕ) (left : Tree) (top : Box Node Global) → AreApart size left (Fork top) → IsOrdered size (Fork top)
topmost_ordered size left top apart = record {
  some = apart.some;
  bounded = apart.bounded;
  tree = apart.right_tree;
  shallow = omega (arith, apart.shallow);
  order = InOrder-weaker 0 (last_end 0 (objects_of left)) (objects_of (Fork top)) (omega arith) (InOrder-right 0 (objects_of left) (objects_of (Fork top)) apart.order);
}

pub melded_sides : (size : ℕ) (left : Tree) (top : Box Node Global) → AreApart size left (Fork top) → (lowest : Object) (right : Tree) → objects_of (Fork top) ≡ lowest ∷ objects_of right → IsTree size right → height_of right ≤ height_of (Fork top) → AreSides size left lowest right
melded_sides size left top apart lowest right is tree low = record {
  some = apart.some;
  bounded = apart.bounded;
  left_tree = apart.left_tree;
  right_tree = tree;
  shallow = omega (arith, apart.shallow, low);
  order = subst (λ xs. InOrder 0 (objects_of left ++ xs)) is apart.order;
}
