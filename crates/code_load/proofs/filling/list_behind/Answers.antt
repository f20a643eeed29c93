use Rattle.std.proofs.Common.{◌-◌, length, None, refl, sym, ◌∙◌}
use Rattle.code_load.proofs.FilledRows.{last_is}
use Rattle.code_load.proofs.filling.list_behind.Goals as goal

pub returns-in-Some : goal.returns-in-Some
returns-in-Some c = c.list_at.ensures ∙ sym (last_is c.args.nodes.now None c.in-Some.n.now (length c.args.nodes.now - 1) refl c.in-Some.ensures.value)
