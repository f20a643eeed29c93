use Rattle.c_meaning.proofs.TypedThreads.{threads_begin_typed, turns_keep_types}
use Rattle.c_meaning.proofs.laws.turns_keep_types.Goals as goal

pub returns : goal.returns
returns c = record { begins = threads_begin_typed; turns = turns_keep_types }
