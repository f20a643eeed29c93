-- A part of a tree: a tree whose objects stand one behind the other among those of the whole.
use Rattle.std.specs.Prelude.{◌≡◌, ℕ, ◌≤◌, List, ◌++◌}
use Rattle.std.specs.List.{AllByRecursion}
use Rattle.sub_heaps.specs.declared.objects.Object.{Object}
use Rattle.sub_heaps.specs.declared.tree.Tree.{Tree}
use Rattle.sub_heaps.specs.inner.Trees.{objects_of}

-- the objects of a part follow each other among those of the whole, and each object before them starts at or below a place
pub record IsPart (low : ℕ) (part whole : Tree) : Type 0 where
  pub before : List Object
  pub behind : List Object
  pub objects : objects_of whole ≡ before ++ (objects_of part ++ behind)
  pub below : AllByRecursion (λ o. o.at ≤ low) before
