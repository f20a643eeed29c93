use Rattle.flat_simulation.proofs.Whole as whole
use Rattle.flat_simulation.proofs.laws.events_follow_turns.Goals as goal

pub returns : goal.returns
returns c = whole.events_follow_turns
