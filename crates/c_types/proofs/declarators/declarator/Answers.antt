use Rattle.type_context.specs.ContextViews.{context_view}
use Rattle.c_types.proofs.Nodes.{declarator_told}
use Rattle.c_types.proofs.declarators.declarator.Goals as goal

pub returns : goal.returns
returns c =
    declarator_told c.args.d.now c.deref.result.now (context_view c.args.context.now) c.dimensions-sizes.new.context c.dimensions-sizes.result c.declared.result c.deref.ensures.value c.dimensions-sizes.ensures c.declared.ensures
