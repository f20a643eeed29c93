use Rattle.c_meaning.proofs.TypedThreads.{turns_go_on, some_answer_fits}
use Rattle.c_meaning.proofs.laws.turns_go_on.Goals as goal

pub returns : goal.returns
returns c = record { ends = turns_go_on; chosen = some_answer_fits }
