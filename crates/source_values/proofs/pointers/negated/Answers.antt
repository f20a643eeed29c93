use Rattle.source_values.proofs.Sizes.{negated_read, negated_bound_read}
use Rattle.source_values.proofs.pointers.negated.Goals as goal

pub returns-clause-value : goal.returns-clause-value
returns-clause-value c = negated_read c.args.n

pub returns-clause-bound : goal.returns-clause-bound
returns-clause-bound c = negated_bound_read c.args.n
