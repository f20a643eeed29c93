use Rattle.c_tree.specs.Typed as tree
use Rattle.std.proofs.lemmas.Result.{IfOk-weaker}
use Rattle.c_meaning.specs.Turns.{update_of}
use Rattle.source_tree.specs.SharedViews.{expr_of}
use Rattle.source_state.specs.Views.{todo_of, updating_of}
use Rattle.source_assignments.proofs.Sides.{local_changed, object_changed}
use Rattle.source_assignments.proofs.assignments.update.Goals as goal

pub returns-in-Some-clause-exits : goal.returns-in-Some-clause-exits
returns-in-Some-clause-exits c =
    IfOk-weaker c.update_local.result _ _ (λ g e. local_changed c.args.program.now c.args.function (update_of c.args.operator (expr_of c.args.left.now) c.args.op) (updating_of c.in_ok-u.u.value) (tree.node_of (expr_of c.args.left.now)) (expr_of c.args.left.now) (expr_of c.args.right.now.value) c.in-Some.number (todo_of c.args.k.now.value) _ _ _ _ _
    c.in-Some.ensures c.in_ok-u.ensures (e c.args.function))
    c.update_local.ensures.exits

pub returns-clause-exits : goal.returns-clause-exits
returns-clause-exits c =
    IfOk-weaker c.update_object.result _ _ (λ g e. object_changed c.args.program.now c.args.function (update_of c.args.operator (expr_of c.args.left.now) c.args.op) (updating_of c.in_ok-u.u.value) (tree.node_of (expr_of c.args.left.now)) (expr_of c.args.left.now) (expr_of c.args.right.now.value) (todo_of c.args.k.now.value) _ _ _ _ _
    c.in-None.ensures c.in_ok-u.ensures (e c.args.function))
    c.update_object.ensures
