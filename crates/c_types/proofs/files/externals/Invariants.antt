use Rattle.std.proofs.Common.{ℕ, List, map, take}
use Rattle.c_tree.specs.SyntaxViews as source
use Rattle.c_typing.specs.Programs.{judged_externals}
use Rattle.type_context.specs.ContextViews.{context_view}
use Rattle.type_declared.specs.FunctionNames.{IsDefined}
use Rattle.type_context.specs.Telling.{Tells}
use Rattle.c_types.specs.inner.Files.{made_view}
use Rattle.c_types.proofs.files.externals.Given as goal

-- those before the index are told
abbrev pub invariant-externals : goal.invariant-externals
invariant-externals l = (names : List (List ℕ)) → IsDefined names l.defined → Tells made_view l.all l.context (judged_externals names (map source.external_view (take l.x-index l.xs)) (context_view l.fn.context))
