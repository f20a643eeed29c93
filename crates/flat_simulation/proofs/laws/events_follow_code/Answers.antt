use Rattle.flat_simulation.proofs.LinearEvents as linear_events
use Rattle.flat_simulation.proofs.Whole as whole
use Rattle.flat_simulation.proofs.laws.events_follow_code.Goals as goal

pub returns : goal.returns
returns c = record { structured = whole.events_follow_code; linear = linear_events.linear_code_follows_code }
