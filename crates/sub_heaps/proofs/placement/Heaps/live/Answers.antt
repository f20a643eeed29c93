use Rattle.std.proofs.Common.{◌≡◌, ◌-◌, length, subst, arith}
use Rattle.std.specs.List.{sum_by}
use Rattle.sub_heaps.specs.SubHeaps.{SubHeaps}
use Rattle.sub_heaps.specs.inner.Trees.{objects_of}
use Rattle.sub_heaps.proofs.placement.Heaps.live.Goals as goal

pub returns-clause-live : goal.returns-clause-live
returns-clause-live c =
    let bytes = c.bytes.ensures c.self.inside.size c.self.invariant.balanced in
    let count : c.self.inside.most - c.len.result ≡ length (objects_of c.self.inside.tree) = omega (arith, c.len.ensures, c.self.invariant.nodes) in
    subst (λ (h : SubHeaps). (c.self.inside.most - c.len.result, c.from.result) ≡ (length h.objects, sum_by (λ o. o.size) h.objects)) c.self.view_is (cc (bytes, count, c.from.ensures))
