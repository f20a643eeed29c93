use Rattle.std.proofs.Common.{ap, ◌∙◌, sym, rules}
use Rattle.std.proofs.lemmas.Result.{IfOk-weaker}
use Rattle.c_tree.specs.Typed as tree
use Rattle.c_meaning.specs.Turns.{run_stmt, body_way}
use Rattle.source_tree.specs.SharedViews.{stmt_of}
use Rattle.source_state.specs.Views.{loop_of, stmt_or_nothing}
use Rattle.source_state.specs.declared.control.LoopParts.{LoopParts}
use Rattle.source_statements.proofs.Walking.{as_like}
use Rattle.source_statements.proofs.Resuming.{branch_broke, branch_one, branch_other, loop_left}
use Rattle.source_statements.proofs.uses.round_if.Goals as goal

pub returns-in-Err-clause-exits : goal.returns-in-Err-clause-exits
returns-in-Err-clause-exits c =
    branch_broke _ _ c.args.place c.args.v (λ h w. run_stmt h (loop_of c.args.l.now.value).body (body_way h (loop_of c.args.l.now.value) (run_stmt h (loop_of c.args.l.now.value).step) w)) (λ h w. w.end) _ _ c.args.store.now.now c.in-Err.rule (search rules)

pub returns-then-holds-clause-exits : goal.returns-then-holds-clause-exits
returns-then-holds-clause-exits c =
    IfOk-weaker c.enter_body.result _ _ (λ g e. branch_one _ _ c.args.place c.args.v (λ h w. run_stmt h (loop_of c.args.l.now.value).body (body_way h (loop_of c.args.l.now.value) (run_stmt h (loop_of c.args.l.now.value).step) w)) (λ h w. w.end) _ _ c.args.store.now.now _ _ c.in-Ok.holds _ (search rules) c.if-holds.true
    (as_like (λ h w. run_stmt h (loop_of c.args.l.now.value).body (body_way h (loop_of c.args.l.now.value) (run_stmt h (loop_of c.args.l.now.value).step) w)) (λ h w. run_stmt h (stmt_of c.deref.result.now.body.value) (body_way h (loop_of c.args.l.now.value) (run_stmt h (stmt_or_nothing c.args.l.now.value.place c.deref-then-holds.result.now.step)) w)) _ _ _ _ _ _ _ _
    (λ h w x. ap (λ (b : tree.Stmt). run_stmt h b (body_way h (loop_of c.args.l.now.value) (run_stmt h (loop_of c.args.l.now.value).step) w) x) (ap (λ (l : LoopParts). stmt_of l.body.value) (sym c.deref.ensures))
    ∙ ap (λ (s : tree.Stmt). run_stmt h (stmt_of c.deref.result.now.body.value) (body_way h (loop_of c.args.l.now.value) (run_stmt h s) w) x) (ap (λ (l : LoopParts). stmt_or_nothing c.args.l.now.value.place l.step) (sym c.deref-then-holds.ensures)))
    e))
    c.enter_body.ensures.exits

pub returns-else-holds-clause-exits : goal.returns-else-holds-clause-exits
returns-else-holds-clause-exits c =
    branch_other _ _ c.args.place c.args.v (λ h w. run_stmt h (loop_of c.args.l.now.value).body (body_way h (loop_of c.args.l.now.value) (run_stmt h (loop_of c.args.l.now.value).step) w)) (λ h w. w.end) _ _ c.args.store.now.now _ _ c.in-Ok.holds _ (search rules) c.if-holds.false (loop_left _ _ _ _ _)
