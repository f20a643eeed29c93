use Rattle.std.proofs.Common.{rules}
use Rattle.std.proofs.lemmas.Result.{IfOk-weaker}
use Rattle.source_tree.specs.SharedViews.{expr_of}
use Rattle.source_state.specs.Views.{updating_of}
use Rattle.source_assignments.proofs.Tails.{local_updated_exit}
use Rattle.source_assignments.proofs.assignments.update_local.Goals as goal

pub returns-clause-exits : goal.returns-clause-exits
returns-clause-exits c =
    IfOk-weaker c.update_variable.result _ _ (λ g e. λ function. local_updated_exit _ function _ _ _ (expr_of c.args.right.now.value) _ _ _ _ (updating_of c.args.u.now.value) (updating_of c.deref-in-Gives.result.now) c.args.number _ _ _ c.in_ok-flow.ensures c.store.ensures (search rules) c.in-Gives.is c.in_ok-after.ensures (search rules) (e function _))
    c.update_variable.ensures.exits
