use Rattle.race_walk.proofs.Finding.{none_turned}
use Rattle.race_walk.proofs.shown.shown.Goals as goal

pub returns-in_err-other : goal.returns-in_err-other
returns-in_err-other c = rw c.from_residual-in_err-other.ensures (none_turned c.args.first.now c.args.second.now c.in_err-other.ensures)
