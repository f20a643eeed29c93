use Rattle.hoist_pass.proofs.AllAtOnce.{at_once}
use Rattle.hoist_pass.proofs.laws.registers_go_at_once.Goals as goal

pub returns : goal.returns
returns c = at_once
