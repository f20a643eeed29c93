use Rattle.c_tree.specs.Typed as tree
use Rattle.std.proofs.lemmas.Result.{IfOk-weaker}
use Rattle.source_tree.specs.SharedViews.{expr_of}
use Rattle.source_state.specs.Views.{todo_of}
use Rattle.source_assignments.proofs.Sides.{local_set, object_set}
use Rattle.source_assignments.proofs.assignments.assign.Goals as goal

pub returns-in-Some-clause-exits : goal.returns-in-Some-clause-exits
returns-in-Some-clause-exits c =
    IfOk-weaker c.assign_local.result _ _ (λ g e. local_set c.args.program.now c.args.function (tree.node_of (expr_of c.args.left.now)) (expr_of c.args.left.now) (expr_of c.args.right.now.value) c.in-Some.number (todo_of c.args.k.now.value) _ _ _ _ _
    c.in-Some.ensures (e c.args.function))
    c.assign_local.ensures.exits

pub returns-in-None-clause-exits : goal.returns-in-None-clause-exits
returns-in-None-clause-exits c =
    IfOk-weaker c.assign_object.result _ _ (λ g e. object_set c.args.program.now c.args.function (tree.node_of (expr_of c.args.left.now)) (expr_of c.args.left.now) (expr_of c.args.right.now.value) (todo_of c.args.k.now.value) _ _ _ _ _
    c.in-None.ensures (e c.args.function))
    c.assign_object.ensures
