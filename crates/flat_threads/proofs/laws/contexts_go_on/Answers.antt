use Rattle.flat_threads.proofs.GoesOn.{contexts_go_on}
use Rattle.flat_threads.proofs.laws.contexts_go_on.Goals as goal

pub returns : goal.returns
returns c = contexts_go_on
