use Rattle.std.proofs.Common.{rules}
use Rattle.std.proofs.lemmas.Result.{IfOk-weaker}
use Rattle.source_tree.specs.SharedViews.{expr_of}
use Rattle.source_assignments.proofs.Tails.{struct_object, other_object}
use Rattle.source_assignments.proofs.assignments.assign_object.Goals as goal

pub returns-then-is_struct : goal.returns-then-is_struct
returns-then-is_struct c =
    IfOk-weaker c.assign_whole.result _ _ (λ g e. λ function. struct_object _ function _ _ (expr_of c.args.left.now) (expr_of c.args.right.now.value) _ _ (search rules) (e function))
    c.assign_whole.ensures

pub returns-else-is_struct : goal.returns-else-is_struct
returns-else-is_struct c =
    IfOk-weaker c.assign_scalar.result _ _ (λ g e. λ function. other_object _ function _ _ (expr_of c.args.left.now) (expr_of c.args.right.now.value) _ _ (search rules) (e function))
    c.assign_scalar.ensures
