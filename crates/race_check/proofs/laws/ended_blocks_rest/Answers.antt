use Rattle.race_check.proofs.Resting.{ended_rests}
use Rattle.race_check.proofs.laws.ended_blocks_rest.Goals as goal

pub returns : goal.returns
returns c = λ typed order s block r still. ended_rests typed block order s r still
