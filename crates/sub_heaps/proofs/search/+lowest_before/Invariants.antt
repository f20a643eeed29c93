use Rattle.std.proofs.Common.{length}
use Rattle.sub_heaps.specs.inner.Trees.{objects_of}
use Rattle.sub_heaps.proofs.search.+lowest_before.Given as goal

abbrev pub decreases-lowest_before : goal.decreases-lowest_before
decreases-lowest_before l = length (objects_of l.tree.now)
