use Rattle.std.proofs.Common.{rules}
use Rattle.source_state.specs.Operations.{unary_of}
use Rattle.source_statements.proofs.Resuming.{only_continues}
use Rattle.source_statements.proofs.uses.only_given.Goals as goal

pub returns : goal.returns
returns c =
    λ p locals k. only_continues p locals c.args.store.now.now c.args.place (unary_of c.args.op.now.value) c.args.v k c.of_one.result _ (search rules) c.done.ensures
