use Rattle.std.proofs.Common.{subst}
use Rattle.c_tree.specs.TypedViews.{type_view}
use Rattle.c_typing.specs.Faults.{Gives}
use Rattle.c_typing.specs.Types.{arrays_of}
use Rattle.c_typing.specs.Judgement.{object_type}
use Rattle.type_context.specs.ContextViews.{context_view}
use Rattle.type_declared.proofs.parameters.element.Goals as goal

pub returns : goal.returns
returns c =
    subst (λ l. Gives type_view c.object_declared.result (object_type (context_view c.args.context.now) c.args.place (arrays_of (type_view c.args.t) l))) c.in_ok-sizes.ensures c.object_declared.ensures
