use Rattle.std.proofs.Common.{length}
use Rattle.sub_heaps.specs.inner.Trees.{objects_of}
use Rattle.sub_heaps.proofs.search.+next_from.Given as goal

abbrev pub decreases-next_from : goal.decreases-next_from
decreases-next_from l = length (objects_of l.tree.now)
