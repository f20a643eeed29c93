use Rattle.type_nodes.proofs.Braces.{closing_tells}
use Rattle.type_nodes.proofs.structs.closed.Goals as goal

pub returns : goal.returns
returns c = λ j J d h k. closing_tells c.args.place c.args.number c.args.again j J d c.args.context.now c.fitting-fits.new.context _ _ _ h (c.fitting-fits.ensures J d k) c.tag_of.ensures
