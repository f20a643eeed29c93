use Rattle.flat_machine.proofs.Limits.{journals_fit}
use Rattle.flat_machine.proofs.laws.journals_are_within_their_limit.Goals as goal

pub returns : goal.returns
returns c = journals_fit
