use Rattle.std.proofs.Common.{ap, sym, ◌∙◌}
use Rattle.c_tree.specs.SyntaxViews as source
use Rattle.c_tree.specs.Typed.{at_stmt, evaluate}
use Rattle.c_tree.specs.TypedViews.{expr_view, boxed_expr_view, stmt_view}
use Rattle.c_typing.specs.Faults.{typed}
use Rattle.c_typing.specs.Judgement.{judged, valued, node_place}
use Rattle.type_context.specs.ContextViews.{context_view}
use Rattle.type_context.proofs.Walks.{ok_tells}
use Rattle.c_types.proofs.Steps.{err_passes}
use Rattle.c_types.proofs.simples.evaluation.Goals as goal

pub returns-in_err-value : goal.returns-in_err-value
returns-in_err-value c =
    err_passes boxed_expr_view stmt_view (valued (judged (source.expr_view c.args.e.now))) (λ d x. typed (at_stmt (node_place (source.expr_view c.args.e.now)) (evaluate x))) (context_view c.args.context.now) c.value.new.context c.value.result c.in_err-value.field-0.0 c.from_residual.result
    c.value.ensures c.in_err-value.was c.from_residual.ensures.1

pub returns : goal.returns
returns c =
    ok_tells boxed_expr_view stmt_view (valued (judged (source.expr_view c.args.e.now))) (λ d x. typed (at_stmt (node_place (source.expr_view c.args.e.now)) (evaluate x))) (context_view c.args.context.now) c.value.new.context c.value.result c.in_ok-value.value _
    c.value.ensures c.in_ok-value.was (ap (λ p. typed (at_stmt p (evaluate (boxed_expr_view c.in_ok-value.value)))) (sym c.node_place.ensures)
    ∙ ap (λ x. typed (at_stmt c.node_place.result (evaluate (expr_view x)))) (sym c.into_inner.ensures))
