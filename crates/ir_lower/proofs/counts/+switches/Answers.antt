use Rattle.std.proofs.lemmas.Result.{IfOk-weaker}
use Rattle.ir_lower.proofs.CountedRows.{block_switches, switch_switches}
use Rattle.ir_lower.proofs.counts.+switches.Goals as goal

pub switches_by-returns-in-Block : goal.switches_by-returns-in-Block
switches_by-returns-in-Block t c =
    IfOk-weaker c.switches_in.result _ _ (λ n h. block_switches c.args.node.now c.in-Block.body c.deref.result.now n c.in-Block.is c.deref.ensures.value h) c.switches_in.ensures

pub switches_by-returns-in-Switch : goal.switches_by-returns-in-Switch
switches_by-returns-in-Switch t c =
    IfOk-weaker c.one_more.result _ _ (λ n h. switch_switches c.args.node.now c.in-Switch.field-0 c.in-Switch.field-1 c.in-Switch.body c.deref-in-Switch.result.now n c.in-Switch.is c.deref-in-Switch.ensures.value h) c.one_more.ensures
