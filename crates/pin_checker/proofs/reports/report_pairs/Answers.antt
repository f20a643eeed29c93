use Rattle.std.proofs.Common.{sym}
use Rattle.struct_ir.specs.Views.{nodes_view}
use Rattle.pin_checker.proofs.Uses.{all_clean}
use Rattle.pin_checker.proofs.reports.report_pairs.Goals as goal

pub returns-then-branch : goal.returns-then-branch
returns-then-branch c = sym (all_clean (nodes_view c.args.f.now.nodes.items) c.args.pairs.now c.args.best (c.in_ok-are_kept.ensures c.if-branch.true))
