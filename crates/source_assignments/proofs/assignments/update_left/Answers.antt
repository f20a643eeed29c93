use Rattle.std.proofs.Common.{rules}
use Rattle.source_tree.specs.SharedViews.{expr_of}
use Rattle.source_assignments.proofs.Tails.{read_exit}
use Rattle.source_assignments.proofs.assignments.update_left.Goals as goal

pub returns : goal.returns
returns c = λ function. read_exit _ function _ _ _ (expr_of c.args.right.now.value) _ _ _ _ _ _ _ _ c.in_ok-flow.ensures c.store.ensures (search rules) c.in-Gives.is c.in_ok-after.ensures c.in_ok-pending-in-Gives.ensures
