use Rattle.std.proofs.Common.{rules}
use Rattle.flat_store.proofs.Firsts.{named_of_both}
use Rattle.flat_store.proofs.flat.Flat.copy.Goals as goal

pub returns-in_err-target-clause-outside : goal.returns-in_err-target-clause-outside
returns-in_err-target-clause-outside c = named_of_both c.args.self.now c.args.to c.args.from c.args.n c.from_residual.result (search rules)

pub returns-in_err-source-clause-outside : goal.returns-in_err-source-clause-outside
returns-in_err-source-clause-outside c = named_of_both c.args.self.now c.args.to c.args.from c.args.n c.from_residual-in_err-source.result (search rules)
