use Rattle.std.proofs.Common.{length}
use Rattle.sub_heaps.specs.inner.Trees.{objects_of}
use Rattle.sub_heaps.proofs.changes.+insert.Given as goal

abbrev pub decreases-insert : goal.decreases-insert
decreases-insert l = length (objects_of l.tree)
