use Rattle.c_tree.specs.SyntaxViews as source
use Rattle.c_tree.specs.TypedViews.{boxed_expr_view, stmt_view}
use Rattle.c_typing.specs.Judgement.{judged}
use Rattle.c_typing.specs.Statements.{stepped}
use Rattle.type_context.specs.ContextViews.{context_view}
use Rattle.type_context.proofs.Walks.{ok_tells}
use Rattle.c_types.proofs.Steps.{err_passes}
use Rattle.c_types.proofs.simples.step.Goals as goal

pub returns-in_err-target : goal.returns-in_err-target
returns-in_err-target c =
    err_passes boxed_expr_view stmt_view (judged (source.expr_view c.args.target.now)) (λ d x. stepped d c.args.place c.args.op x) (context_view c.args.context.now) c.expression.new.context c.expression.result c.in_err-target.field-0.0 c.from_residual.result
    c.expression.ensures c.in_err-target.was c.from_residual.ensures.1

pub returns : goal.returns
returns c =
    ok_tells boxed_expr_view stmt_view (judged (source.expr_view c.args.target.now)) (λ d x. stepped d c.args.place c.args.op x) (context_view c.args.context.now) c.expression.new.context c.expression.result c.in_ok-target.target c.stepped.result
    c.expression.ensures c.in_ok-target.was c.stepped.ensures
