use Rattle.sub_heaps.specs.inner.Pools.{heaps_of}
use Rattle.sub_heaps.proofs.Fits.{objects_in_order}
use Rattle.sub_heaps.proofs.placement.Heaps.reader.Goals as goal

pub new-requires : goal.new-requires
new-requires c = objects_in_order (heaps_of c.self.inside.count c.self.inside.size c.self.inside.most c.self.inside.tree) c.self.invariant.sound
