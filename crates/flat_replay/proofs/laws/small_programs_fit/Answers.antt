use Rattle.flat_replay.proofs.Loadable.{small_programs_fit}
use Rattle.flat_replay.proofs.laws.small_programs_fit.Goals as goal

pub returns : goal.returns
returns c = small_programs_fit
