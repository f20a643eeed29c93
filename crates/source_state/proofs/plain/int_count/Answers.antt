use Rattle.source_state.proofs.Broken.{number_at}
use Rattle.source_state.proofs.plain.int_count.Goals as goal

pub returns : goal.returns
returns c = number_at _ _ _ _ c.number_of_type.ensures c.int.ensures
