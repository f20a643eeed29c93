use Rattle.source_values.proofs.Sizes.{exact_bound_read}
use Rattle.source_values.proofs.pointers.exact.Goals as goal

pub returns-clause-bound : goal.returns-clause-bound
returns-clause-bound c = exact_bound_read c.args.n
