use Rattle.lower_turns.proofs.Codes.{code_begins_alike, code_keeps_every_turn, code_goes_on}
use Rattle.lower_turns.proofs.laws.code_keeps_every_turn.Goals as goal

pub returns : goal.returns
returns c = record { begins = code_begins_alike; turns = code_keeps_every_turn; goes_on = code_goes_on }
