use Rattle.std.proofs.Common.{◌≡◌, subst}
use Rattle.sub_heaps.specs.SubHeaps.{extent_of}
use Rattle.sub_heaps.specs.inner.Pools.{heaps_of}
use Rattle.sub_heaps.proofs.Extents.{extent_from-extent_of}
use Rattle.sub_heaps.proofs.Fits.{objects_in_order}
use Rattle.sub_heaps.proofs.placement.Heaps.extent.Goals as goal

pub extent-requires-clause-order : goal.extent-requires-clause-order
extent-requires-clause-order c = objects_in_order (heaps_of c.self.inside.count c.self.inside.size c.self.inside.most c.self.inside.tree) c.self.invariant.sound

pub returns-clause-extent : goal.returns-clause-extent
returns-clause-extent c =
    subst (λ h. c.from.result ≡ extent_of h) c.self.view_is (cc (c.from.ensures, c.extent.ensures, extent_from-extent_of (heaps_of c.self.inside.count c.self.inside.size c.self.inside.most c.self.inside.tree) c.self.invariant.sound))
