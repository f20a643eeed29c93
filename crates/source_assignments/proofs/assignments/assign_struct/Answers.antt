use Rattle.std.proofs.Common.{rules}
use Rattle.c_tree.specs.TypedViews.{type_view}
use Rattle.source_tree.specs.SharedViews.{expr_of}
use Rattle.source_assignments.proofs.Tails.{copied_exit}
use Rattle.source_assignments.proofs.assignments.assign_struct.Goals as goal

pub returns : goal.returns
returns c = λ function. copied_exit _ function _ _ _ (expr_of c.args.right.now.value) _ _ _ _ c.args.at (type_view c.args.ty.now.value) (type_view c.deref-in-Gives.result.now) c.args.to _ _ c.in_ok-flow.ensures c.store.ensures (search rules) c.in-Gives.is c.in_ok-after.ensures (search rules) c.in_ok-pending-in-Gives.ensures
