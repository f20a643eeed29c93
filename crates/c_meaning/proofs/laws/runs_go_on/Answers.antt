use Rattle.c_meaning.proofs.TypedRuns.{runs_begin_typed, picks_keep_types, runs_keep_types, runs_go_on}
use Rattle.c_meaning.proofs.laws.runs_go_on.Goals as goal

pub returns : goal.returns
returns c = record { begins = runs_begin_typed; picks = picks_keep_types; types = runs_keep_types; turns = runs_go_on }
