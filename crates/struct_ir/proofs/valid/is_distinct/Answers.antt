use Rattle.struct_ir.proofs.Rising.{rising_list}
use Rattle.struct_ir.proofs.valid.is_distinct.Goals as goal

-- src/valid.rt:161:1
pub returns-then-rises_from : goal.returns-then-rises_from
returns-then-rises_from c = rising_list c.args.list.now _ c.rises_from.result c.in-len1-up.len_at_least c.rises_from.ensures c.if-rises_from.true
