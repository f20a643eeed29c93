use Rattle.std.proofs.Common.{[], ◌∷◌}
use Rattle.std.specs.Option.{option_map}
use Rattle.c_tree.specs.SyntaxViews as source
use Rattle.c_tree.specs.TypedViews.{type_view, stmt_view}
use Rattle.c_typing.specs.Faults.{typed}
use Rattle.c_typing.specs.Statements.{returned}
use Rattle.type_declared.specs.Gathering.{each}
use Rattle.type_context.specs.ContextViews.{context_view}
use Rattle.type_context.proofs.Walks.{ok_tells}
use Rattle.c_types.proofs.Steps.{err_passes}
use Rattle.c_types.proofs.parts.return_of.Goals as goal

pub returns-in_err-s : goal.returns-in_err-s
returns-in_err-s c = λ l.
    err_passes stmt_view (each stmt_view) (returned c.args.place (type_view c.args.t.now) (option_map source.boxed_expr_view c.args.value.now)) (λ d x. typed (x ∷ [])) (context_view c.args.context.now) c.returned.new.context c.returned.result c.in_err-s.field-0.0 c.from_residual.result
    c.returned.ensures c.in_err-s.was c.from_residual.ensures.1

pub returns : goal.returns
returns c = λ l.
    ok_tells stmt_view (each stmt_view) (returned c.args.place (type_view c.args.t.now) (option_map source.boxed_expr_view c.args.value.now)) (λ d x. typed (x ∷ [])) (context_view c.args.context.now) c.returned.new.context c.returned.result c.in_ok-s.s c.alone.result
    c.returned.ensures c.in_ok-s.was c.alone.ensures
