use Rattle.std.proofs.Common.{ap, ◌∙◌}
use Rattle.struct_ir.specs.Views.{nodes_view}
use Rattle.pin_checker.specs.inner.SearchViews.{search_view}
use Rattle.pin_checker.specs.inner.Found.{Found, found_in}
use Rattle.pin_checker.proofs.reports.first_of.Goals as goal

pub returns : goal.returns
returns c = ap (λ (f : Found). f.first) (c.found_in.ensures ∙ ap (found_in (search_view c.args.search) (nodes_view c.args.nodes.now)) c.start.ensures)
