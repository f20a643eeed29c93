use Rattle.flat_simulation.proofs.Barriers.{barriers_keep_objects}
use Rattle.flat_simulation.proofs.laws.barriers_keep_objects.Goals as goal

pub returns : goal.returns
returns g c = barriers_keep_objects _
