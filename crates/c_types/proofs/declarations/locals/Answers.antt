use Rattle.c_tree.specs.SyntaxViews as source
use Rattle.c_tree.specs.TypedViews.{stmt_view}
use Rattle.c_typing.specs.Statements.{judged_local, judged_locals}
use Rattle.type_context.specs.ContextViews.{context_view}
use Rattle.type_context.proofs.Rows.{starts}
use Rattle.c_types.proofs.StatementRows.{locals_row, one_more, at_end}
use Rattle.c_types.proofs.declarations.locals.Goals as goal

pub declarators-init : goal.declarators-init
declarators-init c = λ j h. starts stmt_view _ c.args.context.now c.new.ensures.items

pub declarators-preserved : goal.declarators-preserved
declarators-preserved c = λ j h.
    one_more stmt_view source.init_declarator_view (judged_local j) (judged_locals j) (locals_row j) c.args.xs.now c.declarators.x-index c.x-item.result (context_view c.args.context.now) c.declarators.context c.local-next.new.context c.declarators.all c.local-next.result c.pushed-all.result
    c.declarators-test.true c.x-item.is (c.declarators.invariant j h) (c.local-next.ensures j h) c.pushed-all.ensures

pub returns : goal.returns
returns c = λ j h.
    at_end stmt_view source.init_declarator_view (judged_locals j) c.args.xs.now c.declarators.x-index (context_view c.args.context.now) c.declarators.context c.declarators.all
    c.declarators-test.false (c.declarators.invariant j h)
