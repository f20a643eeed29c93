use Rattle.std.proofs.Common.{rules}
use Rattle.source_tree.specs.SharedViews.{expr_of}
use Rattle.source_assignments.proofs.Tails.{stored_exit}
use Rattle.source_assignments.proofs.assignments.assign_place.Goals as goal

pub returns : goal.returns
returns c = λ function. stored_exit _ function _ _ _ (expr_of c.args.e.now.value) _ _ _ _ c.args.site.place c.args.site.atomic c.args.to _ _ c.in_ok-flow.ensures c.store.ensures (search rules) c.in-Gives.is c.in_ok-after.ensures c.in_ok-pending-in-Gives.ensures
