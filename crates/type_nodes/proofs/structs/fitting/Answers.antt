use Rattle.type_nodes.proofs.Braces.{fitting_ok}
use Rattle.type_nodes.proofs.structs.fitting.Goals as goal

pub returns : goal.returns
returns c = λ J d h. fitting_ok c.args.place c.args.number c.args.again J d _ _ _ c.in_ok-all.all _ h c.in_ok-all.was c.declared_with.ensures
