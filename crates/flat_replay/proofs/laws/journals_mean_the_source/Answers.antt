use Rattle.flat_replay.proofs.Source.{journals_mean_the_source}
use Rattle.flat_replay.proofs.laws.journals_mean_the_source.Goals as goal

pub returns : goal.returns
returns c = journals_mean_the_source c.code_with_looks_keeps_every_turn.ensures.kept c.calls_are_as_deep.ensures c.journals_of_checked_code_are_meant.ensures
