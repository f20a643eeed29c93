use Rattle.std.proofs.Common.{get_or, take_all, refl, ap, ◌∙◌, arith}
use Rattle.pin_flow.specs.Slots.{slot_if}
use Rattle.mark_sets.proofs.Bits.{slot_more}
use Rattle.mark_sets.proofs.marks.places.Goals as goal

pub bases-preserved : goal.bases-preserved
bases-preserved c = λ b. slot_more c.args.bases.now c.bases.i (get_or c.args.bases.now c.bases.i 0) b _ _ (omega arith) refl (c.bases.invariant b) (c.in_ok-give.ensures b)

pub returns : goal.returns
returns c = λ b. c.bases.invariant b ∙ ap (λ l. slot_if l b) (take_all c.bases.i c.args.bases.now (omega arith))
