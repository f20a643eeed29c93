use Rattle.std.proofs.Common.{sym, subst}
use Rattle.sub_heaps.specs.SubHeaps.{IsLowestFit, IsAligned, rounded}
use Rattle.sub_heaps.proofs.Aligned.{lowest_aligned, with_object_aligned}
use Rattle.sub_heaps.proofs.placement.Heaps.place.Goals as goal

pub returns-clause-aligned : goal.returns-clause-aligned
returns-clause-aligned c = λ aligned.
    lowest_aligned c.args.self.now c.in_ok-at.ensures.sound aligned (rounded c.args.bytes) c.in_ok-at.at (subst (λ n. IsLowestFit c.args.self.now n c.in_ok-at.at) c.in_ok-size.ensures.0 c.in_ok-at.ensures.lowest)

pub returns-clause-still_aligned : goal.returns-clause-still_aligned
returns-clause-still_aligned c = λ aligned.
    subst (λ h. IsAligned h) (sym c.put.ensures.put) (with_object_aligned c.args.self.now (record { at = c.in_ok-at.at; size = c.in_ok-size.size; owner = c.args.owner }) (returns-clause-aligned c aligned) aligned)
