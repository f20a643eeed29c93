use Rattle.flat_simulation.proofs.HasRoom.{have_room}
use Rattle.flat_simulation.proofs.StepsAlone.{steps_touch_alone}
use Rattle.flat_simulation.proofs.laws.steps_touch_alone.Goals as goal

pub returns-clause-alone : goal.returns-clause-alone
returns-clause-alone c = steps_touch_alone

pub returns-clause-room : goal.returns-clause-room
returns-clause-room c = have_room
