use Rattle.std.proofs.Common.{length}
use Rattle.sub_heaps.specs.declared.tree.Tree.TheVariants.{Fork}
use Rattle.sub_heaps.specs.inner.Trees.{objects_of}
use Rattle.sub_heaps.proofs.changes.+take_lowest.Given as goal

abbrev pub decreases-take_lowest : goal.decreases-take_lowest
decreases-take_lowest l = length (objects_of (Fork l.top))
