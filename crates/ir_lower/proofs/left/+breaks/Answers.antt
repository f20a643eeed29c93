use Rattle.std.proofs.Common.{refl}
use Rattle.lower_forms.specs.Forms.{breaks_by, breaks_among}
use Rattle.ir_lower.proofs.LeftRows.{block_has}
use Rattle.ir_lower.proofs.left.+breaks.Goals as goal

pub breaks_by-returns-in-Block : goal.breaks_by-returns-in-Block
breaks_by-returns-in-Block t c =
    block_has breaks_by breaks_among (λ a. refl) c.args.node.now c.in-Block.body c.deref.result.now c.breaks_among.result c.in-Block.is c.deref.ensures.value c.breaks_among.ensures
