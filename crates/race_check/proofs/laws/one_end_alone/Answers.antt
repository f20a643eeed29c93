use Rattle.race_check.proofs.Telling.{one_end}
use Rattle.race_check.proofs.laws.one_end_alone.Goals as goal

pub returns : goal.returns
returns c = one_end
