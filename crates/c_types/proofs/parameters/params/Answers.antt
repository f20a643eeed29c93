use Rattle.c_tree.specs.SyntaxViews as source
use Rattle.c_typing.specs.Programs.{judged_param, judged_params}
use Rattle.type_context.specs.ContextViews.{context_view}
use Rattle.type_locals.specs.LocalViews.{param_view}
use Rattle.type_context.proofs.Rows.{starts}
use Rattle.c_types.proofs.StatementRows.{one_more, at_end}
use Rattle.c_types.proofs.FileRows.{params_row}
use Rattle.c_types.proofs.parameters.params.Goals as goal

pub params-init : goal.params-init
params-init c = starts param_view _ c.args.context.now c.new.ensures.items

pub params-preserved : goal.params-preserved
params-preserved c =
    one_more param_view source.param_view judged_param judged_params params_row c.args.all.now c.params.p-index c.p-item.result (context_view c.args.context.now) c.params.context c.param-next.new.context c.params.found c.param-next.result c.pushed-found.result
    c.params-test.true c.p-item.is c.params.invariant c.param-next.ensures c.pushed-found.ensures

pub returns : goal.returns
returns c =
    at_end param_view source.param_view judged_params c.args.all.now c.params.p-index (context_view c.args.context.now) c.params.context c.params.found c.params-test.false c.params.invariant
