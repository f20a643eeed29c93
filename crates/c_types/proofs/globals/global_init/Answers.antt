use Rattle.std.proofs.Common.{refl}
use Rattle.c_tree.specs.Typed.{zero_bytes}
use Rattle.c_tree.specs.TypedViews.{init_view}
use Rattle.c_typing.specs.Faults.{typed}
use Rattle.type_context.proofs.Walks.{lone_tells}
use Rattle.c_types.proofs.globals.global_init.Goals as goal

pub returns-in-Some : goal.returns-in-Some
returns-in-Some c = λ j h. rw c.in-Some.is (c.global_start.ensures j h)

pub returns-in-None : goal.returns-in-None
returns-in-None c = λ j h. rw c.in-None.is (lone_tells init_view _ c.args.context.now (typed zero_bytes) refl)
