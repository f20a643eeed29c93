use Rattle.c_meaning.proofs.Alike.{reached_shown}
use Rattle.c_meaning.proofs.laws.shown_turns_tell_the_run.Goals as goal

pub returns : goal.returns
returns g c = reached_shown
