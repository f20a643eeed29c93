use Rattle.std.proofs.Common.{ap, sym, ◌∙◌}
use Rattle.struct_ir.specs.Views.{nodes_view}
use Rattle.pin_flow.specs.Marks.{state_of}
use Rattle.pin_checker.specs.inner.SearchViews.{search_view}
use Rattle.pin_checker.specs.inner.Found.{earlier_of}
use Rattle.pin_checker.proofs.FoundRows.{report_from}
use Rattle.pin_checker.proofs.reports.report_all.Goals as goal

pub returns : goal.returns
returns c =
    let s = search_view c.args.search in
    c.earlier_of.ensures ∙ (ap (earlier_of c.args.best) c.first_of.ensures ∙ sym (report_from s (nodes_view c.args.nodes.now) (state_of s.start) c.args.best))
