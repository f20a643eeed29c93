use Rattle.std.proofs.Common.{rules}
use Rattle.flat_store.proofs.Firsts.{named}
use Rattle.flat_store.proofs.flat.Flat.store.Goals as goal

pub returns-in_err-start-clause-outside : goal.returns-in_err-start-clause-outside
returns-in_err-start-clause-outside c = named c.args.self.now c.args.at c.args.n c.from_residual.result (search rules)
