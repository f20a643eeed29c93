use Rattle.std.proofs.Common.{replicate, rules, arith}
use Rattle.std.proofs.lemmas.Grind.{common_steps}
use Rattle.std.proofs.lemmas.List.{length-replicate}
use Rattle.flat_store.proofs.Firsts.{named}
use Rattle.flat_store.proofs.Written.{changes_only}
use Rattle.flat_store.proofs.flat.Flat.clear.Goals as goal

pub returns-in_err-start-clause-outside : goal.returns-in_err-start-clause-outside
returns-in_err-start-clause-outside c = named c.args.self.now c.args.at c.args.n c.from_residual.result (search rules)

pub returns-clause-others : goal.returns-clause-others
returns-clause-others c =
    changes_only c.args.self.now _ (replicate c.args.n 0) c.args.at c.args.n (length-replicate c.args.n 0) (grind (arith, common_steps)) (omega (arith, c.in_ok-start.ensures.index)) (search rules)
