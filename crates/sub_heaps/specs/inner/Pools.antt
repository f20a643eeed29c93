-- The tree with its spare nodes: what holds of them in sub-heaps.
use Rattle.std.specs.Prelude.{◌≡◌, ℕ, ◌+◌, ◌≤◌, length}
use Rattle.sub_heaps.specs.declared.tree.Tree.{Tree}
use Rattle.sub_heaps.specs.SubHeaps.{SubHeaps, IsSound}
use Rattle.sub_heaps.specs.inner.Trees.{objects_of, IsTree}

-- the sub-heaps that a tree stands for
abbrev pub heaps_of : (count size most : ℕ) → Tree → SubHeaps
heaps_of count size most tree = record { count = count; size = size; most = most; objects = objects_of tree }

-- the sub-heaps are sound, the tree is balanced and knows its objects, and for each object that may come there is a spare node, and room to give each node back
pub record IsKept (count size most : ℕ) (tree : Tree) (spare room : ℕ) : Type 0 where
  pub sound : IsSound (heaps_of count size most tree)
  pub balanced : IsTree size tree
  pub nodes : length (objects_of tree) + spare ≡ most
  pub given_back : most ≤ room
