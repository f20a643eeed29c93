use Rattle.c_tree.specs.SyntaxViews as source
use Rattle.c_tree.specs.TypedViews.{boxed_expr_view, stmt_view}
use Rattle.c_typing.specs.Judgement.{judged}
use Rattle.c_typing.specs.Statements.{assign_op, assigned_by}
use Rattle.type_context.specs.ContextViews.{context_view}
use Rattle.c_types.proofs.Steps.{two_pass, two_rule}
use Rattle.c_types.proofs.simples.assignment.Goals as goal

pub returns-in_err-left : goal.returns-in_err-left
returns-in_err-left c =
    two_pass boxed_expr_view boxed_expr_view stmt_view (judged (source.expr_view c.args.target.now)) (judged (source.expr_view c.args.value.now)) (λ d p. assigned_by d c.args.place (assign_op c.args.op) p.0 p.1) (context_view c.args.context.now)
    c.expression-left.new.context c.expression-right.new.context c.expression-left.result c.expression-right.result c.both.result c.in_err-left.field-0.0 c.from_residual.result
    c.expression-left.ensures c.expression-right.ensures c.both.ensures c.in_err-left.was c.from_residual.ensures.1

pub returns : goal.returns
returns c =
    two_rule boxed_expr_view boxed_expr_view stmt_view (judged (source.expr_view c.args.target.now)) (judged (source.expr_view c.args.value.now)) (λ d p. assigned_by d c.args.place (assign_op c.args.op) p.0 p.1) (context_view c.args.context.now)
    c.expression-left.new.context c.expression-right.new.context c.expression-left.result c.expression-right.result c.both.result (c.in_ok-left.left, c.in_ok-left.right) c.assigned_by.result
    c.expression-left.ensures c.expression-right.ensures c.both.ensures c.in_ok-left.was (rw c.assign_op.ensures at c.assigned_by.ensures)
