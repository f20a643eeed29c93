use Rattle.headline_example.proofs.Known.{known}
use Rattle.headline_example.proofs.text_laws.its_runs_are_known.Goals as goal

pub returns : goal.returns
returns c = known
