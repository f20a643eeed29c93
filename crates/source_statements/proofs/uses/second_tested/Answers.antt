use Rattle.std.proofs.Common.{ap}
use Rattle.c_meaning.specs.Values.{truth_of}
use Rattle.source_statements.proofs.Resuming.{second_test_continues}
use Rattle.source_statements.proofs.uses.second_tested.Goals as goal

pub returns : goal.returns
returns c =
    λ p locals k. second_test_continues p locals c.args.store.now.now c.args.place c.args.v k (truth_of c.store.result.now c.args.v) _ (ap (λ b. truth_of b c.args.v) c.store.ensures) c.second_test.ensures
