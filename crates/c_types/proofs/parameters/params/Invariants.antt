use Rattle.std.proofs.Common.{map, take}
use Rattle.c_tree.specs.SyntaxViews as source
use Rattle.c_typing.specs.Programs.{judged_params}
use Rattle.type_context.specs.ContextViews.{context_view}
use Rattle.type_locals.specs.LocalViews.{param_view}
use Rattle.type_context.specs.Telling.{Tells}
use Rattle.type_declared.specs.Gathering.{each}
use Rattle.c_types.proofs.parameters.params.Given as goal

-- those before the index are told
abbrev pub invariant-params : goal.invariant-params
invariant-params l = Tells (each param_view) l.found l.context (judged_params (map source.param_view (take l.p-index l.all)) (context_view l.fn.context))
