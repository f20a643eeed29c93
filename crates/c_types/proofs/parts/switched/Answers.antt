use Rattle.c_tree.specs.SyntaxViews as source
use Rattle.c_tree.specs.Typed.{type_of}
use Rattle.c_tree.specs.TypedViews.{boxed_expr_view}
use Rattle.c_typing.specs.Judgement.{judged, valued}
use Rattle.c_typing.specs.Statements.{switched_by}
use Rattle.type_context.specs.ContextViews.{context_view}
use Rattle.type_context.proofs.Walks.{ok_tells}
use Rattle.c_types.proofs.Steps.{err_passes}
use Rattle.c_types.proofs.parts.switched.Goals as goal

pub returns-in_err-e : goal.returns-in_err-e
returns-in_err-e c =
    err_passes boxed_expr_view boxed_expr_view (valued (judged (source.expr_view c.args.e.now))) (λ d x. switched_by c.args.place (type_of x) x) (context_view c.args.context.now) c.value.new.context c.value.result c.in_err-e.field-0.0 c.from_residual.result
    c.value.ensures c.in_err-e.was c.from_residual.ensures.1

pub returns : goal.returns
returns c =
    ok_tells boxed_expr_view boxed_expr_view (valued (judged (source.expr_view c.args.e.now))) (λ d x. switched_by c.args.place (type_of x) x) (context_view c.args.context.now) c.value.new.context c.value.result c.in_ok-e.e c.switched_by.result
    c.value.ensures c.in_ok-e.was c.switched_by.ensures
