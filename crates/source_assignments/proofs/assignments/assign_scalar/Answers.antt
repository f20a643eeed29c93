use Rattle.std.proofs.Common.{rules}
use Rattle.std.proofs.lemmas.Result.{IfOk-weaker}
use Rattle.c_tree.specs.Typed.{type_of}
use Rattle.c_meaning.specs.Values.{is_atomic}
use Rattle.source_tree.specs.SharedViews.{expr_of}
use Rattle.source_assignments.proofs.Tails.{scalar_exit}
use Rattle.source_assignments.proofs.assignments.assign_scalar.Goals as goal

pub returns : goal.returns
returns c =
    IfOk-weaker c.assign_place.result _ _ (λ g e. λ function. scalar_exit _ function _ _ _ _ _ _ _ _ _ c.is_atomic.result (is_atomic (type_of (expr_of c.args.left.now))) _ _ c.in_ok-flow.ensures c.store.ensures c.in-Gives.is c.in_ok-after.ensures (search rules) (e function))
    c.assign_place.ensures
