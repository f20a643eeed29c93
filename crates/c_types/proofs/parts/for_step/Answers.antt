use Rattle.std.proofs.Common.{ap, sym, ◌∙◌}
use Rattle.c_tree.specs.Typed.{at_stmt, empty}
use Rattle.c_tree.specs.TypedViews.{stmt_view, boxed_stmt_view}
use Rattle.c_typing.specs.Faults.{typed}
use Rattle.type_context.proofs.Walks.{lone_tells}
use Rattle.c_types.proofs.parts.for_step.Goals as goal

pub returns-in-Some : goal.returns-in-Some
returns-in-Some c = rw c.in-Some.is c.some_step.ensures

pub returns-in_ok-new-in-None : goal.returns-in_ok-new-in-None
returns-in_ok-new-in-None c =
    rw c.in-None.is (lone_tells boxed_stmt_view _ c.args.context.now (typed (at_stmt c.args.place empty)) (ap typed (sym (ap stmt_view c.in_ok-new-in-None.ensures.ok ∙ c.nothing.ensures))))
