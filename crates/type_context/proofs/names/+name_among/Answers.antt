use Rattle.std.proofs.Common.{◌∙◌}
use Rattle.type_context.proofs.Lookups.{library_rest}
use Rattle.type_context.proofs.names.+name_among.Goals as goal

pub returns-else-eq : goal.returns-else-eq
returns-else-eq t c = c.name_among.ensures ∙ library_rest c.args.bytes.now c.args.names.now _ c.eq.result c.in-len1-up.len_at_least c.eq.ensures c.if-eq.false
