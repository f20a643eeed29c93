use Rattle.std.proofs.Common.{map, take}
use Rattle.c_tree.specs.SyntaxViews as source
use Rattle.c_tree.specs.Typed.{Ty}
use Rattle.c_tree.specs.TypedViews.{type_view}
use Rattle.c_typing.specs.Faults.{Judged, Gives}
use Rattle.c_typing.specs.Programs.{judged_aliases}
use Rattle.type_context.specs.ContextViews.{context_view}
use Rattle.type_context.specs.Telling.{Tells}
use Rattle.c_types.proofs.typedefs.aliases.Given as goal

-- those before the index are told
abbrev pub invariant-declarators : goal.invariant-declarators
invariant-declarators l = (j : Judged Ty) → Gives type_view l.base j → Tells (λ (u : Unit {0}). tt) l.all l.context (judged_aliases j (map source.declarator_view (take l.d-index l.ds)) (context_view l.fn.context))
