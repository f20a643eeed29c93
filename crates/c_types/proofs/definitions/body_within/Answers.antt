use Rattle.c_tree.specs.TypedViews.{func_view}
use Rattle.type_context.proofs.Rows.{starts}
use Rattle.c_types.proofs.definitions.body_within.Goals as goal

pub returns-in-Some : goal.returns-in-Some
returns-in-Some c = λ j k g h. rw c.in-Some.is (c.whole_body.ensures j k g h)

pub returns-in-None : goal.returns-in-None
returns-in-None c = λ j k g h. rw c.in-None.is (starts func_view _ c.args.context.now c.new.ensures.items)
