use Rattle.c_meaning.proofs.Alike.{calls_shown}
use Rattle.c_meaning.proofs.laws.shown_turns_tell_the_calls.Goals as goal

pub returns : goal.returns
returns g c = calls_shown
