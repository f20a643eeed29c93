use Rattle.source_values.proofs.Sizes.{number_at}
use Rattle.source_expressions.proofs.calls.free_mutex.Goals as goal

pub returns : goal.returns
returns c = number_at _ _ _ _ c.wrapping.ensures c.unsigned_long.ensures
