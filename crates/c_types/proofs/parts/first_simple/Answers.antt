use Rattle.std.proofs.Common.{[], ◌∷◌}
use Rattle.c_tree.specs.SyntaxViews as source
use Rattle.c_tree.specs.TypedViews.{stmt_view}
use Rattle.c_typing.specs.Faults.{typed}
use Rattle.c_typing.specs.Statements.{judged_simple}
use Rattle.type_declared.specs.Gathering.{each}
use Rattle.type_context.specs.ContextViews.{context_view}
use Rattle.type_context.proofs.Walks.{ok_tells}
use Rattle.c_types.proofs.Steps.{err_passes}
use Rattle.c_types.proofs.parts.first_simple.Goals as goal

pub returns-in_err-s : goal.returns-in_err-s
returns-in_err-s c =
    err_passes stmt_view (each stmt_view) (judged_simple (source.simple_view c.args.s.now)) (λ d x. typed (x ∷ [])) (context_view c.args.context.now) c.simple.new.context c.simple.result c.in_err-s.field-0.0 c.from_residual.result
    c.simple.ensures c.in_err-s.was c.from_residual.ensures.1

pub returns : goal.returns
returns c =
    ok_tells stmt_view (each stmt_view) (judged_simple (source.simple_view c.args.s.now)) (λ d x. typed (x ∷ [])) (context_view c.args.context.now) c.simple.new.context c.simple.result c.in_ok-s.s c.alone.result
    c.simple.ensures c.in_ok-s.was c.alone.ensures
