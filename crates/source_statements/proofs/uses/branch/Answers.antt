use Rattle.std.proofs.Common.{rules}
use Rattle.std.proofs.lemmas.Result.{IfOk-weaker}
use Rattle.c_meaning.specs.Turns.{run_stmt}
use Rattle.source_tree.specs.SharedViews.{stmt_of}
use Rattle.source_state.specs.Views.{stmt_or_nothing}
use Rattle.source_statements.proofs.Resuming.{branch_broke, branch_one, branch_other}
use Rattle.source_statements.proofs.uses.branch.Goals as goal

pub returns-in-Err-clause-exits : goal.returns-in-Err-clause-exits
returns-in-Err-clause-exits c =
    branch_broke _ _ c.args.place c.args.v (λ h w. run_stmt h (stmt_of c.args.one.now.value) w) (λ h w. run_stmt h (stmt_or_nothing c.args.at c.args.other.now) w) _ _ c.args.store.now.now c.in-Err.rule (search rules)

pub returns-then-holds-clause-exits : goal.returns-then-holds-clause-exits
returns-then-holds-clause-exits c =
    IfOk-weaker c.stmt.result _ _ (λ g e. branch_one _ _ c.args.place c.args.v (λ h w. run_stmt h (stmt_of c.args.one.now.value) w) (λ h w. run_stmt h (stmt_or_nothing c.args.at c.args.other.now) w) _ _ c.args.store.now.now _ _ c.in-Ok.holds _ (search rules) c.if-holds.true e)
    c.stmt.ensures.exits

pub returns-else-holds-clause-exits : goal.returns-else-holds-clause-exits
returns-else-holds-clause-exits c =
    IfOk-weaker c.otherwise.result _ _ (λ g e. branch_other _ _ c.args.place c.args.v (λ h w. run_stmt h (stmt_of c.args.one.now.value) w) (λ h w. run_stmt h (stmt_or_nothing c.args.at c.args.other.now) w) _ _ c.args.store.now.now _ _ c.in-Ok.holds _ (search rules) c.if-holds.false e)
    c.otherwise.ensures.exits
