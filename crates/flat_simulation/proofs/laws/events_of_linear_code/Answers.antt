use Rattle.flat_simulation.proofs.LinearEvents as linear_events
use Rattle.flat_simulation.proofs.laws.events_of_linear_code.Goals as goal

pub returns : goal.returns
returns c = record { same = linear_events.events_of_linear_code; follow = linear_events.linear_code_follows_turns }
