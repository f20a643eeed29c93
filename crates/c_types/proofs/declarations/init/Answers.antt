use Rattle.std.proofs.Common.{None, refl}
use Rattle.std.specs.Option.{option_map}
use Rattle.c_tree.specs.TypedViews.{boxed_expr_view}
use Rattle.c_typing.specs.Faults.{typed}
use Rattle.type_context.proofs.Walks.{lone_tells}
use Rattle.c_types.proofs.declarations.init.Goals as goal

pub returns-in-Some : goal.returns-in-Some
returns-in-Some c = λ j h. rw c.in-Some.is (c.initialiser.ensures j h)

pub returns-in-None : goal.returns-in-None
returns-in-None c = λ j h. rw c.in-None.is (lone_tells (option_map boxed_expr_view) _ c.args.context.now (typed None) refl)
