use Rattle.std.proofs.Common.{ap, ◌∙◌, None}
use Rattle.struct_ir.specs.Views.{node_view}
use Rattle.pin_flow.specs.Marks.{flow_node}
use Rattle.pin_flow.specs.Views.{state_view}
use Rattle.pin_checker.specs.inner.Reports.{noted}
use Rattle.pin_checker.specs.inner.SearchViews.{search_view}
use Rattle.pin_checker.specs.inner.Found.{found_view}
use Rattle.pin_checker.proofs.FoundRows.{alone_found}
use Rattle.pin_checker.proofs.found.itself.Goals as goal

pub returns : goal.returns
returns c l =
    let t = state_view c.args.before in
    alone_found (search_view c.args.search) c.args.n.now t (found_view record { ways = c.ways_of_node.result; first = c.noted.result }) l
    (c.ways_of_node.ensures ∙ ap (λ m. flow_node m (node_view c.args.n.now) t) c.mark.ensures)
    (c.noted.ensures ∙ (λ i. noted (c.blames.ensures i) c.args.n.now.place (c.why.ensures i) None))
