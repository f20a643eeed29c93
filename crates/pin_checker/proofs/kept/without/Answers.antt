use Rattle.std.proofs.Common.{ap, ◌∙◌, arith}
use Rattle.mark_sets.specs.Words.{has}
use Rattle.pin_checker.proofs.KeptRows.{without_more}
use Rattle.pin_checker.proofs.kept.without.Goals as goal

pub loop-slot-preserved : goal.loop-slot-preserved
loop-slot-preserved c = λ i.
    without_more i c.args.list.now c.loop-slot.slot-index _ (has c.loop-slot.left.items i) (has c.remove.new.set.items i) _ (omega arith) (λ e. ap (has c.remove.new.set.items) e ∙ c.remove.ensures.gone) (λ ne. c.remove.ensures.others i ne)
    (c.loop-slot.invariant i)
