use Rattle.flat_homes.proofs.Few.{turns_are_few, structured_turns_are_few}
use Rattle.flat_homes.proofs.laws.turns_between_barriers_are_few.Goals as goal

pub returns-clause-linear : goal.returns-clause-linear
returns-clause-linear c = turns_are_few

pub returns-clause-structured : goal.returns-clause-structured
returns-clause-structured c = structured_turns_are_few
