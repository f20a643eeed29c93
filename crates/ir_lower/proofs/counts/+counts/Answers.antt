use Rattle.std.proofs.lemmas.Result.{IfOk-weaker}
use Rattle.ir_lower.proofs.CountedRows.{call_counted, lib_call_counted}
use Rattle.ir_lower.proofs.counts.+counts.Goals as goal

pub count_parts-returns-in-Call : goal.count_parts-returns-in-Call
count_parts-returns-in-Call t c =
    IfOk-weaker c.count_all.result _ _ (λ n h. call_counted c.args.node.now c.in-Call.field-0 c.in-Call.args c.deref-in-Call.result.now n c.in-Call.is c.deref-in-Call.ensures.value h) c.count_all.ensures

pub count_parts-returns-in-Lib : goal.count_parts-returns-in-Lib
count_parts-returns-in-Lib t c =
    IfOk-weaker c.count_all-in-Lib.result _ _ (λ n h. lib_call_counted c.args.node.now c.in-Lib.field-0 c.in-Lib.args c.deref-in-Lib.result.now n c.in-Lib.is c.deref-in-Lib.ensures.value h) c.count_all-in-Lib.ensures
