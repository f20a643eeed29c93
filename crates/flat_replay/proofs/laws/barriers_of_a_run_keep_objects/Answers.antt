use Rattle.flat_replay.proofs.Barriers.{barriers_of_a_run_keep_objects}
use Rattle.flat_replay.proofs.laws.barriers_of_a_run_keep_objects.Goals as goal

pub returns : goal.returns
returns c = barriers_of_a_run_keep_objects
