use Rattle.std.proofs.Common.{Some, refl}
use Rattle.std.specs.Option.{option_map}
use Rattle.c_tree.specs.SyntaxViews as source
use Rattle.c_tree.specs.TypedViews.{boxed_expr_view}
use Rattle.c_typing.specs.Faults.{typed}
use Rattle.c_typing.specs.Statements.{condition}
use Rattle.type_context.specs.ContextViews.{context_view}
use Rattle.type_context.proofs.Walks.{ok_tells}
use Rattle.c_types.proofs.Steps.{err_passes}
use Rattle.c_types.proofs.parts.some_condition.Goals as goal

pub returns-in_err-e : goal.returns-in_err-e
returns-in_err-e c =
    err_passes boxed_expr_view (option_map boxed_expr_view) (condition c.args.place (source.expr_view c.args.e.now)) (λ d x. typed (Some x)) (context_view c.args.context.now) c.condition.new.context c.condition.result c.in_err-e.field-0.0 c.from_residual.result
    c.condition.ensures c.in_err-e.was c.from_residual.ensures.1

pub returns : goal.returns
returns c =
    ok_tells boxed_expr_view (option_map boxed_expr_view) (condition c.args.place (source.expr_view c.args.e.now)) (λ d x. typed (Some x)) (context_view c.args.context.now) c.condition.new.context c.condition.result c.in_ok-e.e _
    c.condition.ensures c.in_ok-e.was refl
