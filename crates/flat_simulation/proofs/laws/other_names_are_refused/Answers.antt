use Rattle.flat_simulation.proofs.TouchRows.{others_are_refused}
use Rattle.flat_simulation.proofs.laws.other_names_are_refused.Goals as goal

pub returns : goal.returns
returns c = others_are_refused
