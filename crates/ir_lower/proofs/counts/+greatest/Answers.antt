use Rattle.std.proofs.lemmas.Result.{IfOk-weaker}
use Rattle.ir_lower.proofs.CountedRows.{block_counted, switch_counted}
use Rattle.ir_lower.proofs.counts.+greatest.Goals as goal

pub greatest_in-returns-in-Block : goal.greatest_in-returns-in-Block
greatest_in-returns-in-Block t c =
    IfOk-weaker c.greatest_row.result _ _ (λ n h. block_counted c.args.node.now c.in-Block.body c.deref.result.now n c.in-Block.is c.deref.ensures.value h) c.greatest_row.ensures

pub greatest_in-returns-in-Switch : goal.greatest_in-returns-in-Switch
greatest_in-returns-in-Switch t c =
    IfOk-weaker c.greatest_of_switch.result _ _ (λ n h. switch_counted c.args.node.now c.in-Switch.e c.in-Switch.field-1 c.in-Switch.body c.deref-in-Switch.result.now n c.in-Switch.is c.deref-in-Switch.ensures.value h) c.greatest_of_switch.ensures
