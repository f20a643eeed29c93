-- The tree: the list of objects that it holds, in order of place, and what holds of its nodes.
use Rattle.std.specs.Prelude.{◌≡◌, ℕ, ◌+◌, ◌<◌, ◌≤◌, max, ⊤, List, [], ◌∷◌, ◌++◌}
use Rattle.sub_heaps.specs.declared.objects.Object.{Object}
use Rattle.sub_heaps.specs.declared.tree.Tree.{Tree}
use Rattle.sub_heaps.specs.declared.tree.Tree.TheVariants.{Empty, Fork'}
use Rattle.sub_heaps.specs.inner.Order.{InOrder}
use Rattle.sub_heaps.specs.inner.Summaries.{summary_of}

-- the objects, in order of place
abbrev pub objects_of : Tree → List Object
objects_of Empty = []
objects_of (Fork' p left object right height under) = objects_of left ++ object ∷ objects_of right

-- the height that the topmost node knows
abbrev pub height_of : Tree → ℕ
height_of Empty = 0
height_of (Fork' p left object right height under) = height

-- neither number is more than this above the other
abbrev pub DifferByAtMost : ℕ → ℕ → ℕ → Type 0
DifferByAtMost by m n = (m ≤ n + by) × (n ≤ m + by)

-- each node knows its height and its objects, and the heights of its two sides differ by at most one
abbrev pub IsTree : ℕ → Tree → Type 0
IsTree size Empty = ⊤
IsTree size (Fork' p left object right height under) =
    IsTree size left × IsTree size right × (height ≡ max (height_of left) (height_of right) + 1) × DifferByAtMost 1 (height_of left) (height_of right) × (under ≡ summary_of size (objects_of left ++ object ∷ objects_of right))

-- two trees and an object between them, all in order of place
pub record AreSides (size : ℕ) (left : Tree) (object : Object) (right : Tree) : Type 0 where
  pub some : 0 < size
  pub bounded : size ≤ 268435456
  pub left_tree : IsTree size left
  pub right_tree : IsTree size right
  pub shallow : max (height_of left) (height_of right) ≤ 100
  pub order : InOrder 0 (objects_of left ++ object ∷ objects_of right)

-- the height that a node settles to whose sides have these heights
pub record SettlesTo (left right height : ℕ) : Type 0 where
  pub not_lower : max left right ≤ height
  pub at_most_one_higher : height ≤ max left right + 1
  pub balanced : DifferByAtMost 1 left right → height ≡ max left right + 1

-- a tree whose objects stand in order, and that leaves room for one level more
pub record IsOrdered (size : ℕ) (t : Tree) : Type 0 where
  pub some : 0 < size
  pub bounded : size ≤ 268435456
  pub tree : IsTree size t
  pub shallow : height_of t ≤ 99
  pub order : InOrder 0 (objects_of t)

-- two trees whose heights differ by at most one and whose objects stand in order, those of the left below those of the right
pub record AreApart (size : ℕ) (left right : Tree) : Type 0 where
  pub some : 0 < size
  pub bounded : size ≤ 268435456
  pub left_tree : IsTree size left
  pub right_tree : IsTree size right
  pub balanced : DifferByAtMost 1 (height_of left) (height_of right)
  pub shallow : max (height_of left) (height_of right) ≤ 99
  pub order : InOrder 0 (objects_of left ++ objects_of right)

-- a height that is as it was, or one more
abbrev pub IsNoneOrOneAbove : ℕ → ℕ → Type 0
IsNoneOrOneAbove new old = (old ≤ new) × (new ≤ old + 1)
