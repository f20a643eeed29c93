use Rattle.std.proofs.Common.{map, take}
use Rattle.c_tree.specs.SyntaxViews as source
use Rattle.c_tree.specs.Typed.{Ty}
use Rattle.c_tree.specs.TypedViews.{type_view, stmt_view}
use Rattle.c_typing.specs.Faults.{Judged, Gives}
use Rattle.c_typing.specs.Statements.{judged_locals}
use Rattle.type_context.specs.ContextViews.{context_view}
use Rattle.type_context.specs.Telling.{Tells}
use Rattle.type_declared.specs.Gathering.{each}
use Rattle.c_types.proofs.declarations.locals.Given as goal

-- those before the index are told
abbrev pub invariant-declarators : goal.invariant-declarators
invariant-declarators l = (j : Judged Ty) → Gives type_view l.base j → Tells (each stmt_view) l.all l.context (judged_locals j (map source.init_declarator_view (take l.x-index l.xs)) (context_view l.fn.context))
