use Rattle.c_meaning.proofs.Alike.{begins_outside_calls}
use Rattle.c_meaning.proofs.laws.threads_begin_outside_calls.Goals as goal

pub returns : goal.returns
returns c = begins_outside_calls
