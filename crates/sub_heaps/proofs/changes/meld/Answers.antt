use Rattle.std.proofs.Common.{subst}
use Rattle.sub_heaps.specs.inner.Trees.{AreApart}
use Rattle.sub_heaps.proofs.Halves.{topmost_ordered, melded_sides}
use Rattle.sub_heaps.proofs.changes.meld.Goals as goal

pub take_lowest-lowest-requires : goal.take_lowest-lowest-requires
take_lowest-lowest-requires c =
    let apart = subst (AreApart c.args.size c.args.left) c.in-Fork.is c.requires.apart in
    record { ordered = topmost_ordered c.args.size c.args.left c.in-Fork.top apart }

pub balance-requires-clause-sides : goal.balance-requires-clause-sides
balance-requires-clause-sides c =
    let apart = subst (AreApart c.args.size c.args.left) c.in-Fork.is c.requires.apart in
    melded_sides c.args.size c.args.left c.in-Fork.top apart c.take_lowest-lowest.result.0.value.object c.take_lowest-lowest.result.1 c.take_lowest-lowest.ensures.objects c.take_lowest-lowest.ensures.tree c.take_lowest-lowest.ensures.height.0
