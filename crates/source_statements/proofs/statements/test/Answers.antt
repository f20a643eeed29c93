use Rattle.std.proofs.Common.{rules}
use Rattle.source_tree.specs.SharedViews.{expr_of}
use Rattle.source_statements.proofs.Walking.{test_ended, test_holds, test_broke}
use Rattle.source_statements.proofs.statements.test.Goals as goal

pub returns-in-Ends : goal.returns-in-Ends
returns-in-Ends c = test_ended _ _ _ _ (expr_of c.args.c.now.value) _ _ _ _ c.in_ok-flow.ensures c.store.ensures (search rules) c.in-Ends.is

pub returns-in-Ok : goal.returns-in-Ok
returns-in-Ok c = test_holds _ _ c.args.store.now.now _ (expr_of c.args.c.now.value) _ _ _ c.in-Gives.v c.in-Ok.holds c.in_ok-flow.ensures c.store.ensures (search rules) c.in-Gives.is (search rules)

pub returns-in-Err : goal.returns-in-Err
returns-in-Err c = test_broke _ _ c.args.store.now.now _ (expr_of c.args.c.now.value) _ _ _ c.in-Gives.v c.in-Err.rule c.deref-in-Err.result.now.place c.in_ok-flow.ensures c.store.ensures (search rules) c.in-Gives.is (search rules) (search rules)
