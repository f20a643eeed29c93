use Rattle.std.specs.Option.{option_map}
use Rattle.c_tree.specs.SyntaxViews as source
use Rattle.c_tree.specs.TypedViews.{type_view, boxed_expr_view}
use Rattle.c_typing.specs.Judgement.{judged, valued}
use Rattle.c_typing.specs.Statements.{initialised}
use Rattle.c_types.specs.inner.Gathering.{some_part}
use Rattle.type_context.specs.ContextViews.{context_view}
use Rattle.c_typing.specs.Judgement.{lone}
use Rattle.type_context.proofs.Walks.{lone_tells}
use Rattle.c_types.proofs.Steps.{two_pass, two_rule}
use Rattle.c_types.proofs.declarations.initialiser.Goals as goal

pub returns-in_err-t : goal.returns-in_err-t
returns-in_err-t c = λ j h.
    two_pass type_view boxed_expr_view (option_map boxed_expr_view) (lone j) (valued (judged (source.expr_view c.args.e.now))) (λ d p. some_part (initialised c.args.place p.0 p.1)) (context_view c.args.context.now) c.args.context.now c.value-value.new.context c.again-t.result c.value-value.result c.both.result c.in_err-t.field-0.0 c.from_residual.result
    (lone_tells type_view c.again-t.result c.args.context.now j (c.again-t.ensures j h)) c.value-value.ensures c.both.ensures c.in_err-t.was c.from_residual.ensures.1

pub returns : goal.returns
returns c = λ j h.
    two_rule type_view boxed_expr_view (option_map boxed_expr_view) (lone j) (valued (judged (source.expr_view c.args.e.now))) (λ d p. some_part (initialised c.args.place p.0 p.1)) (context_view c.args.context.now) c.args.context.now c.value-value.new.context c.again-t.result c.value-value.result c.both.result (c.in_ok-t.t, c.in_ok-t.value) c.initial.result
    (lone_tells type_view c.again-t.result c.args.context.now j (c.again-t.ensures j h)) c.value-value.ensures c.both.ensures c.in_ok-t.was c.initial.ensures
