use Rattle.c_tree.specs.TypedViews.{type_view, stmt_view}
use Rattle.type_context.proofs.Judging.{fault_gives}
use Rattle.type_context.proofs.Walks.{lone_tells}
use Rattle.c_typing.specs.Statements.{returned_none}
use Rattle.c_types.proofs.parts.returned.Goals as goal

pub returns-in-Some : goal.returns-in-Some
returns-in-Some c = rw c.in-Some.is (rw c.deref.ensures at c.returned_value.ensures)

pub returns-in-None : goal.returns-in-None
returns-in-None c = rw c.in-None.is (lone_tells stmt_view c.as_fault.result c.args.context.now (returned_none c.args.place (type_view c.args.t.now)) (fault_gives stmt_view _ _ _ c.as_fault.ensures c.returned_nothing.ensures))
