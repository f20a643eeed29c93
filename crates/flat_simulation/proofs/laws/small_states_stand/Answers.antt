use Rattle.flat_simulation.proofs.StandingRows.{states_stand, others_dont}
use Rattle.flat_simulation.proofs.laws.small_states_stand.Goals as goal

pub returns-clause-stand : goal.returns-clause-stand
returns-clause-stand c = states_stand

pub returns-clause-others : goal.returns-clause-others
returns-clause-others c = others_dont
