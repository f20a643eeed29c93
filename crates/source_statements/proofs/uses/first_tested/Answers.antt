use Rattle.std.proofs.Common.{rules}
use Rattle.std.proofs.lemmas.Result.{IfOk-weaker}
use Rattle.source_tree.specs.SharedViews.{expr_of}
use Rattle.source_statements.proofs.Resuming.{test_continues, test_continues_broke}
use Rattle.source_statements.proofs.uses.first_tested.Goals as goal

pub returns-in-Err : goal.returns-in-Err
returns-in-Err c =
    test_continues_broke _ _ c.args.store.now.now c.args.place c.args.decides (expr_of c.args.right.now.value) c.args.v _ c.in-Err.rule (search rules)

pub returns-in-Ok : goal.returns-in-Ok
returns-in-Ok c =
    IfOk-weaker c.either.result _ _ (λ g e. test_continues _ _ c.args.store.now.now _ c.args.place c.args.decides c.in-Ok.holds (expr_of c.args.right.now.value) _ c.args.v _ _ (search rules) e c.store-found.ensures (search rules))
    c.either.ensures
