use Rattle.std.proofs.Common.{rules}
use Rattle.source_assignments.proofs.Tails.{declared_block}
use Rattle.source_assignments.proofs.locals.declare_local.Goals as goal

pub returns-in_ok-make_local-clause-now : goal.returns-in_ok-make_local-clause-now
returns-in_ok-make_local-clause-now c = declared_block c.args.program.now c.args.function c.args.number _ _ _ _ (search rules) c.in_ok-make_local.ensures.now
