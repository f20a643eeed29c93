use Rattle.code_load.proofs.Alike.{what_was_saved}
use Rattle.code_load.proofs.laws.loads_what_was_saved.Goals as goal

pub returns : goal.returns
returns c = what_was_saved
