use Rattle.std.proofs.Common.{◌≡◌, drop}
use Rattle.struct_ir.specs.Views.{nodes_view}
use Rattle.pin_checker.specs.inner.Reports.{report_pairs}
use Rattle.pin_checker.proofs.reports.report_in_turn.Given as goal

-- what is left goes on from what was found
abbrev pub invariant-loop-q : goal.invariant-loop-q
invariant-loop-q l = report_pairs (nodes_view l.nodes) (drop l.q-index l.pairs) l.found ≡ report_pairs (nodes_view l.nodes) l.pairs l.fn.best
