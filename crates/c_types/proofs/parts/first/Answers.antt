use Rattle.c_tree.specs.TypedViews.{stmt_view}
use Rattle.type_context.proofs.Rows.{starts}
use Rattle.c_types.proofs.parts.first.Goals as goal

pub returns-in-Declare : goal.returns-in-Declare
returns-in-Declare c = rw c.in-Declare.is c.declaration.ensures

pub returns-in-Simple : goal.returns-in-Simple
returns-in-Simple c = rw c.in-Simple.is c.first_simple.ensures

pub returns-in-Nothing : goal.returns-in-Nothing
returns-in-Nothing c = rw c.in-Nothing.is (starts stmt_view c.new.result c.args.context.now c.new.ensures.items)
