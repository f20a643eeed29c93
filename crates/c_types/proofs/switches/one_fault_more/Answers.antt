use Rattle.std.proofs.Common.{sym, ◌∙◌}
use Rattle.c_types.proofs.LabelRows.{fault_stays}
use Rattle.c_types.proofs.switches.one_fault_more.Goals as goal

pub returns : goal.returns
returns c = fault_stays c.args.fine c.args.fault c.in_ok-both.field-0 (sym c.both.ensures ∙ c.in_ok-both.was)
