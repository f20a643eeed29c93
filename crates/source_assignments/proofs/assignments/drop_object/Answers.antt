use Rattle.std.proofs.Common.{rules}
use Rattle.std.proofs.lemmas.Result.{IfOk-weaker}
use Rattle.c_tree.specs.TypedViews.{type_view}
use Rattle.source_tree.specs.SharedViews.{node_of}
use Rattle.source_assignments.proofs.Tails.{scalar_dropped}
use Rattle.source_assignments.proofs.assignments.drop_object.Goals as goal

pub returns-then-is_scalar : goal.returns-then-is_scalar
returns-then-is_scalar c =
    IfOk-weaker c.drop_plain.result _ _ (λ g e. λ function. scalar_dropped _ function c.args.e.now.place (type_view c.args.e.now.ty.value) (node_of c.args.e.now.node) _ _ _ _ (search rules) (e function))
    c.drop_plain.ensures
