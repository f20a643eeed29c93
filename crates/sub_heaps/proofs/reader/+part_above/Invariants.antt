use Rattle.std.proofs.Common.{length}
use Rattle.sub_heaps.specs.inner.Trees.{objects_of}
use Rattle.sub_heaps.proofs.reader.+part_above.Given as goal

abbrev pub decreases-part_above : goal.decreases-part_above
decreases-part_above l = length (objects_of l.tree.now)
