use Rattle.lower_turns.proofs.Codes.{calls_are_as_deep}
use Rattle.lower_turns.proofs.laws.calls_are_as_deep.Goals as goal

pub returns : goal.returns
returns c = calls_are_as_deep
