use Rattle.std.proofs.Common.{subst, [], ◌∷◌}
use Rattle.c_tree.specs.Typed.{Stmt}
use Rattle.c_tree.specs.TypedViews.{stmt_view}
use Rattle.c_typing.specs.Faults.{typed, Gives}
use Rattle.type_declared.specs.Gathering.{each}
use Rattle.c_types.proofs.makers.do_made.Goals as goal

pub returns : goal.returns
returns c = subst (λ (s : Stmt). Gives (each stmt_view) c.alone.result (typed (s ∷ []))) c.do_while.ensures c.alone.ensures
