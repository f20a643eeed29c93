use Rattle.flat_replay.proofs.Accesses.{accesses_of_guarded_journals_stay}
use Rattle.flat_replay.proofs.laws.accesses_of_guarded_journals_stay.Goals as goal

pub returns : goal.returns
returns c = accesses_of_guarded_journals_stay c.events_follow_code.ensures.linear
