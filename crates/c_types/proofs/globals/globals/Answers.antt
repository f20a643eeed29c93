use Rattle.c_tree.specs.SyntaxViews as source
use Rattle.c_tree.specs.TypedViews.{global_view}
use Rattle.c_typing.specs.Programs.{judged_global, judged_globals}
use Rattle.type_context.specs.ContextViews.{context_view}
use Rattle.type_context.proofs.Rows.{starts}
use Rattle.c_types.proofs.StatementRows.{one_more, at_end}
use Rattle.c_types.proofs.FileRows.{globals_row}
use Rattle.c_types.proofs.globals.globals.Goals as goal

pub declarators-init : goal.declarators-init
declarators-init c = λ j h. starts global_view _ c.args.context.now c.new.ensures.items

pub declarators-preserved : goal.declarators-preserved
declarators-preserved c = λ j h.
    one_more global_view source.init_declarator_view (judged_global j) (judged_globals j) (globals_row j) c.args.xs.now c.declarators.x-index c.x-item.result (context_view c.args.context.now) c.declarators.context c.global-next.new.context c.declarators.all c.global-next.result c.pushed-all.result
    c.declarators-test.true c.x-item.is (c.declarators.invariant j h) (c.global-next.ensures j h) c.pushed-all.ensures

pub returns : goal.returns
returns c = λ j h.
    at_end global_view source.init_declarator_view (judged_globals j) c.args.xs.now c.declarators.x-index (context_view c.args.context.now) c.declarators.context c.declarators.all
    c.declarators-test.false (c.declarators.invariant j h)
