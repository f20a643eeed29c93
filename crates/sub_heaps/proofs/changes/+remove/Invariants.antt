use Rattle.std.proofs.Common.{length}
use Rattle.sub_heaps.specs.inner.Trees.{objects_of}
use Rattle.sub_heaps.proofs.changes.+remove.Given as goal

abbrev pub decreases-remove : goal.decreases-remove
decreases-remove l = length (objects_of l.tree)
