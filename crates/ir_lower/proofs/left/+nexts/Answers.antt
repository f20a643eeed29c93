use Rattle.std.proofs.Common.{refl}
use Rattle.lower_forms.specs.Forms.{nexts_by, nexts_among}
use Rattle.ir_lower.proofs.LeftRows.{block_has, switch_has}
use Rattle.ir_lower.proofs.left.+nexts.Goals as goal

pub nexts_by-returns-in-Block : goal.nexts_by-returns-in-Block
nexts_by-returns-in-Block t c =
    block_has nexts_by nexts_among (λ a. refl) c.args.node.now c.in-Block.body c.deref.result.now c.nexts_among.result c.in-Block.is c.deref.ensures.value c.nexts_among.ensures

pub nexts_by-returns-in-Switch : goal.nexts_by-returns-in-Switch
nexts_by-returns-in-Switch t c =
    switch_has nexts_by nexts_among (λ e ls a. refl) c.args.node.now c.in-Switch.field-0 c.in-Switch.field-1 c.in-Switch.body c.deref-in-Switch.result.now c.nexts_among-in-Switch.result c.in-Switch.is c.deref-in-Switch.ensures.value
    c.nexts_among-in-Switch.ensures
