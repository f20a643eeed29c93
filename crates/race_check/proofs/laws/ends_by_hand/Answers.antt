use Rattle.race_check.proofs.WorkedRows.{ends_stand}
use Rattle.race_check.proofs.laws.ends_by_hand.Goals as goal

pub returns : goal.returns
returns c = ends_stand
