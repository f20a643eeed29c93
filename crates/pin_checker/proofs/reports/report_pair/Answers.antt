use Rattle.std.proofs.Common.{sym, ◌∙◌}
use Rattle.struct_ir.specs.Views.{nodes_view}
use Rattle.pin_checker.proofs.Stronger.{pair_is}
use Rattle.pin_checker.proofs.reports.report_pair.Goals as goal

pub returns-in-None : goal.returns-in-None
returns-in-None c = sym (pair_is (nodes_view c.args.nodes.now) c.args.q c.args.best (sym c.first_of.ensures ∙ c.in-None.is))
