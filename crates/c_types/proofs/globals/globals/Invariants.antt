use Rattle.std.proofs.Common.{map, take}
use Rattle.c_tree.specs.SyntaxViews as source
use Rattle.c_tree.specs.Typed.{Ty}
use Rattle.c_tree.specs.TypedViews.{type_view, global_view}
use Rattle.c_typing.specs.Faults.{Judged, Gives}
use Rattle.c_typing.specs.Programs.{judged_globals}
use Rattle.type_context.specs.ContextViews.{context_view}
use Rattle.type_context.specs.Telling.{Tells}
use Rattle.type_declared.specs.Gathering.{each}
use Rattle.c_types.proofs.globals.globals.Given as goal

-- those before the index are told
abbrev pub invariant-declarators : goal.invariant-declarators
invariant-declarators l = (j : Judged Ty) → Gives type_view l.base j → Tells (each global_view) l.all l.context (judged_globals j (map source.init_declarator_view (take l.x-index l.xs)) (context_view l.fn.context))
