use Rattle.flat_replay.proofs.Whole.{journals_of_checked_code_are_meant}
use Rattle.flat_replay.proofs.laws.journals_of_checked_code_are_meant.Goals as goal

pub returns : goal.returns
returns c = journals_of_checked_code_are_meant c.journals_of_guarded_code_are_meant.ensures
