use Rattle.lower_turns.proofs.Threads.{lower_keeps_every_turn, lower_keeps_every_run}
use Rattle.lower_turns.proofs.laws.lower_keeps_every_turn.Goals as goal

pub returns : goal.returns
returns c = record { turns = lower_keeps_every_turn; runs = lower_keeps_every_run }
