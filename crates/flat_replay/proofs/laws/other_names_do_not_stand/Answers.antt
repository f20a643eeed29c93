use Rattle.flat_replay.proofs.AccessRows.{other_names_dont_stand}
use Rattle.flat_replay.proofs.laws.other_names_do_not_stand.Goals as goal

pub returns : goal.returns
returns c = other_names_dont_stand c.other_names_are_refused.ensures
