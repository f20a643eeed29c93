use Rattle.source_assignments.proofs.Tails.{object_updated_exit}
use Rattle.std.proofs.lemmas.Result.{IfOk-weaker}
use Rattle.source_assignments.proofs.assignments.update_object.Goals as goal

pub returns : goal.returns
returns c =
    IfOk-weaker c.update_left-in-Gives.result _ _ (λ g e. λ function. object_updated_exit _ function _ _ _ _ _ _ _ _ _ _ _ c.in_ok-flow.ensures c.store.ensures c.in-Gives.is c.in_ok-after.ensures (e function))
    c.update_left-in-Gives.ensures
