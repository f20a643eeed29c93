use Rattle.std.proofs.Common.{sym, subst}
use Rattle.sub_heaps.specs.SubHeaps.{IsAligned}
use Rattle.sub_heaps.proofs.Aligned.{without_aligned}
use Rattle.sub_heaps.proofs.placement.Heaps.free.Goals as goal

pub returns-clause-still_aligned : goal.returns-clause-still_aligned
returns-clause-still_aligned c = λ aligned. subst (λ h. IsAligned h) (sym c.take.ensures.taken) (without_aligned c.args.self.now c.args.at aligned)
