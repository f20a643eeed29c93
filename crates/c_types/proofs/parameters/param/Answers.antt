use Rattle.c_tree.specs.SyntaxViews as source
use Rattle.c_typing.specs.Programs.{judged_param}
use Rattle.type_context.specs.ContextViews.{context_view}
use Rattle.type_locals.specs.LocalViews.{param_view}
use Rattle.c_types.proofs.Steps.{memory_passes}
use Rattle.c_types.proofs.FileParts.{param_told}
use Rattle.c_types.proofs.parameters.param.Goals as goal

pub returns-in_err-base : goal.returns-in_err-base
returns-in_err-base c =
    memory_passes param_view c.from_residual.result c.in_err-base.field-0.0 c.specifiers.new.context (judged_param (source.param_view c.args.p.now) (context_view c.args.context.now)) c.in_err-base.ensures c.from_residual.ensures.1

pub returns : goal.returns
returns c =
    param_told param_view (source.param_view c.args.p.now) (context_view c.args.context.now) c.specifiers.new.context c.param_behind.new.context c.specifiers.result c.in_ok-base.base c.param_behind.result
    (rw c.deref.ensures.value at c.specifiers.ensures) c.in_ok-base.ensures c.param_behind.ensures
