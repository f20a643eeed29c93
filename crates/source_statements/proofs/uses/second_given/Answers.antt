use Rattle.std.proofs.Common.{rules}
use Rattle.source_state.specs.Operations.{binary_of}
use Rattle.source_statements.proofs.Resuming.{second_continues}
use Rattle.source_statements.proofs.uses.second_given.Goals as goal

pub returns : goal.returns
returns c =
    λ p locals k. second_continues p locals c.args.store.now.now c.args.place (binary_of c.args.op) c.args.left c.args.v k c.in_ok-answer.answer _ (search rules) c.done.ensures
