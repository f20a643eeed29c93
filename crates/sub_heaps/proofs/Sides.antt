-- The sides of a node, where one of two sides is opened.
use Rattle.std.proofs.Common.{ℕ, Box, arith}
use Rattle.std.specs.declared.alloc.Global.{Global}
use Rattle.sub_heaps.specs.declared.objects.Object.{Object}
use Rattle.sub_heaps.specs.declared.tree.Tree.{Tree}
use Rattle.sub_heaps.specs.declared.tree.Node.{Node}
use Rattle.sub_heaps.specs.declared.tree.Tree.TheVariants.{Fork}
use Rattle.sub_heaps.specs.inner.Trees.{objects_of, AreSides}
use Rattle.sub_heaps.proofs.Order.{InOrder-inner_left, InOrder-inner_right, regrouped}

-- a side, the object beside it, and what lies between that and the object
pub inner_right : (size : ℕ) (top : Box Node Global) (k : Object) (right : Tree) → AreSides size (Fork top) k right → AreSides size top.value.right k right
inner_right size top k right sides = record {
  some = sides.some;
  bounded = sides.bounded;
  left_tree = sides.left_tree.1;
  right_tree = sides.right_tree;
  shallow = omega (arith, sides.shallow, sides.left_tree.2);
  order = InOrder-inner_right (objects_of top.value.left) top.value.object (objects_of top.value.right) k (objects_of right) sides.order;
}

pub inner_left : (size : ℕ) (left : Tree) (k : Object) (top : Box Node Global) → AreSides size left k (Fork top) → AreSides size left k top.value.left
inner_left size left k top sides = record {
  some = sides.some;
  bounded = sides.bounded;
  left_tree = sides.left_tree;
  right_tree = sides.right_tree.0;
  shallow = omega (arith, sides.shallow, sides.right_tree.2);
  order = InOrder-inner_left (objects_of left) k (objects_of top.value.left) top.value.object (objects_of top.value.right) (rw (regrouped (objects_of left) k (objects_of top.value.left) top.value.object (objects_of top.value.right)) sides.order);
}

-- the sides of the side itself
pub own_left : (size : ℕ) (top : Box Node Global) (k : Object) (right : Tree) → AreSides size (Fork top) k right → AreSides size top.value.left top.value.object top.value.right
own_left size top k right sides = record {
  some = sides.some;
  bounded = sides.bounded;
  left_tree = sides.left_tree.0;
  right_tree = sides.left_tree.1;
  shallow = omega (arith, sides.shallow, sides.left_tree.2);
  order = InOrder-inner_left (objects_of top.value.left) top.value.object (objects_of top.value.right) k (objects_of right) sides.order;
}

pub own_right : (size : ℕ) (left : Tree) (k : Object) (top : Box Node Global) → AreSides size left k (Fork top) → AreSides size top.value.left top.value.object top.value.right
own_right size left k top sides = record {
  some = sides.some;
  bounded = sides.bounded;
  left_tree = sides.right_tree.0;
  right_tree = sides.right_tree.1;
  shallow = omega (arith, sides.shallow, sides.right_tree.2);
  order = InOrder-inner_right (objects_of left) k (objects_of top.value.left) top.value.object (objects_of top.value.right) (rw (regrouped (objects_of left) k (objects_of top.value.left) top.value.object (objects_of top.value.right)) sides.order);
}
