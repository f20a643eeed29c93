use Rattle.type_nodes.proofs.Expressions.{no_call_tells}
use Rattle.type_nodes.proofs.callees.no_call.Goals as goal

pub returns : goal.returns
returns c = λ n J d h. no_call_tells c.args.place c.args.kind c.args.args n J d _ h c.call_fault.ensures
