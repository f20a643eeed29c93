use Rattle.flat_meaning.proofs.Stops.{local_stops}
use Rattle.flat_meaning.proofs.laws.local_comes_to_a_stop.Goals as goal

pub returns : goal.returns
returns c = local_stops
