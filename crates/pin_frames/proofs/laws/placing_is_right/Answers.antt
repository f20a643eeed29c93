use Rattle.pin_frames.proofs.Placed as placing
use Rattle.pin_frames.proofs.OneByOne.{each_is_placed}
use Rattle.pin_frames.proofs.laws.placing_is_right.Goals as goal

pub returns-clause-right : goal.returns-clause-right
returns-clause-right c = placing.placing_is_right

pub returns-clause-each : goal.returns-clause-each
returns-clause-each c = each_is_placed
