use Rattle.std.proofs.Common.{◌≡◌, ◌∙◌, ◌+◌, [], refl, ap, sym, rules, arith}
use Rattle.std.proofs.lemmas.Result.{IfOk-weaker}
use Rattle.c_tree.specs.Typed as tree
use Rattle.c_meaning.specs.Control as control
use Rattle.c_meaning.specs.Turns as turns
use Rattle.source_tree.specs.declared.tree.SharedStmt.{SharedStmt}
use Rattle.source_tree.specs.SharedViews.{expr_of, optional_expr_of, labels_of, stmt_of, row_of, row_from}
use Rattle.source_tree.proofs.Views.{shared_block, shared_switch}
use Rattle.source_state.specs.Views.{loop_of, stmt_or_nothing, todo_of, use_of}
use Rattle.source_state.specs.declared.control.LoopParts.{LoopParts}
use Rattle.source_assignments.proofs.Tails.{gives_exit}
use Rattle.source_assignments.specs.declared.exit.Exit.TheVariants as exits
use Rattle.source_statements.proofs.Sizes.{stmt_size, step_size, step_bound, in_row}
use Rattle.source_statements.proofs.Walking.{stmt_like, chain_passes, passes_at, if_held, if_not, if_ended, nothing_exit, loop_held, loop_not, loop_ended, rounds_none, rounds_some, while_exit, do_exit, for_exit, value_ended, none_chosen, one_chosen, no_step, one_step, next_exit, row_stays, row_over, row_next, row_none}
use Rattle.source_statements.proofs.statements.+walk.Goals as goal

-- ---- statements, by their forms

pub stmt-returns-in-Block-clause-exits : goal.stmt-returns-in-Block-clause-exits
stmt-returns-in-Block-clause-exits t c =
    let body = row_of c.in-Block.all.value in
    IfOk-weaker c.block.result _ _ (λ g e. stmt_like (λ h w. turns.run_row h body (turns.end_way (turns.declared body) w)) c.args.program.now c.args.function (stmt_of c.args.s.now.value) (tree.at_stmt c.in-Block.field-0 (tree.block body)) (todo_of c.args.k.now.value) _ _ _ _ _
    (let a = ap stmt_of c.in-Block.is in let b = shared_block c.in-Block.field-0 c.in-Block.all in search (rules, a, b)) (λ h w x. refl) e) c.block.ensures.exits

pub stmt-returns-in-Declare-clause-exits : goal.stmt-returns-in-Declare-clause-exits
stmt-returns-in-Declare-clause-exits t c =
    IfOk-weaker c.declare.result _ _ (λ g e. stmt_like (λ h w. turns.declares h c.in-Declare.place c.in-Declare.number (optional_expr_of c.in-Declare.init) w) c.args.program.now c.args.function (stmt_of c.args.s.now.value) (tree.at_stmt c.in-Declare.place (tree.declare c.in-Declare.number (optional_expr_of c.in-Declare.init))) (todo_of c.args.k.now.value) _ _ _ _ _
    (search rules) (λ h w x. refl) e) c.declare.ensures.exits

pub stmt-returns-in-If-clause-exits : goal.stmt-returns-in-If-clause-exits
stmt-returns-in-If-clause-exits t c =
    IfOk-weaker c.if_then.result _ _ (λ g e. stmt_like (λ h w. turns.run h (expr_of c.in-If.c.value) (turns.if_way (tree.place_of (expr_of c.in-If.c.value)) (stmt_of c.in-If.one.value) (turns.nothing c.in-If.place) (turns.run_stmt h (stmt_of c.in-If.one.value)) (turns.run_stmt h (turns.nothing c.in-If.place)) w)) c.args.program.now c.args.function (stmt_of c.args.s.now.value) (tree.at_stmt c.in-If.place (tree.if_ (expr_of c.in-If.c.value) (stmt_of c.in-If.one.value))) (todo_of c.args.k.now.value) _ _ _ _ _
    (search rules) (λ h w x. refl) e) c.if_then.ensures.exits

pub stmt-returns-in-IfElse-clause-exits : goal.stmt-returns-in-IfElse-clause-exits
stmt-returns-in-IfElse-clause-exits t c =
    IfOk-weaker c.if_else.result _ _ (λ g e. stmt_like (λ h w. turns.run h (expr_of c.in-IfElse.c.value) (turns.if_way (tree.place_of (expr_of c.in-IfElse.c.value)) (stmt_of c.in-IfElse.one.value) (stmt_of c.in-IfElse.other.value) (turns.run_stmt h (stmt_of c.in-IfElse.one.value)) (turns.run_stmt h (stmt_of c.in-IfElse.other.value)) w)) c.args.program.now c.args.function (stmt_of c.args.s.now.value) (tree.at_stmt c.in-IfElse.field-0 (tree.if_else (expr_of c.in-IfElse.c.value) (stmt_of c.in-IfElse.one.value) (stmt_of c.in-IfElse.other.value))) (todo_of c.args.k.now.value) _ _ _ _ _
    (search rules) (λ h w x. refl) e) c.if_else.ensures.exits

pub stmt-returns-in-While-clause-exits : goal.stmt-returns-in-While-clause-exits
stmt-returns-in-While-clause-exits t c =
    IfOk-weaker c.while_holds.result _ _ (λ g e. stmt_like (λ h w. turns.rounds h (turns.while_loop c.in-While.place (expr_of c.in-While.c.value) (stmt_of c.in-While.body.value)) (turns.run_stmt h (stmt_of c.in-While.body.value)) (turns.run_stmt h (turns.nothing c.in-While.place)) w) c.args.program.now c.args.function (stmt_of c.args.s.now.value) (tree.at_stmt c.in-While.place (tree.while_ (expr_of c.in-While.c.value) (stmt_of c.in-While.body.value))) (todo_of c.args.k.now.value) _ _ _ _ _
    (search rules) (λ h w x. refl) e) c.while_holds.ensures.exits

pub stmt-returns-in-For-clause-exits : goal.stmt-returns-in-For-clause-exits
stmt-returns-in-For-clause-exits t c =
    IfOk-weaker c.for_each.result _ _ (λ g e. stmt_like (λ h w. turns.run_stmt h (stmt_of c.in-For.first.value) (turns.loop_way h (turns.for_loop (optional_expr_of c.in-For.c) (stmt_of c.in-For.step.value) (stmt_of c.in-For.body.value)) (turns.run_stmt h (stmt_of c.in-For.body.value)) (turns.run_stmt h (stmt_of c.in-For.step.value)) (turns.end_way (turns.declared_by (stmt_of c.in-For.first.value) []) w))) c.args.program.now c.args.function (stmt_of c.args.s.now.value) (tree.at_stmt c.in-For.place (tree.for_ (stmt_of c.in-For.first.value) (optional_expr_of c.in-For.c) (stmt_of c.in-For.step.value) (stmt_of c.in-For.body.value))) (todo_of c.args.k.now.value) _ _ _ _ _
    (search rules) (λ h w x. refl) e) c.for_each.ensures.exits

pub stmt-returns-in-DoWhile-clause-exits : goal.stmt-returns-in-DoWhile-clause-exits
stmt-returns-in-DoWhile-clause-exits t c =
    let l = turns.do_loop (stmt_of c.in-DoWhile.body.value) (expr_of c.in-DoWhile.c.value) in
    IfOk-weaker c.do_while.result _ _ (λ g e. stmt_like (λ h w. turns.rounds h l (turns.run_stmt h l.body) (turns.run_stmt h l.step) w) c.args.program.now c.args.function (stmt_of c.args.s.now.value) (tree.at_stmt c.in-DoWhile.field-0 (tree.do_while (stmt_of c.in-DoWhile.body.value) (expr_of c.in-DoWhile.c.value))) (todo_of c.args.k.now.value) _ _ _ _ _
    (search rules) (λ h w x. refl) e) c.do_while.ensures.exits

pub stmt-returns-in-Switch-clause-exits : goal.stmt-returns-in-Switch-clause-exits
stmt-returns-in-Switch-clause-exits t c =
    let e = expr_of c.in-Switch.e.value in
    let labels = labels_of c.in-Switch.labels.value in
    let body = row_of c.in-Switch.body.value in
    IfOk-weaker c.switch.result _ _ (λ g d. stmt_like (λ h w. turns.run h e (turns.switch_test_way labels body (turns.run_from h body) w)) c.args.program.now c.args.function (stmt_of c.args.s.now.value) (tree.at_stmt c.in-Switch.field-0 (tree.switch e labels body)) (todo_of c.args.k.now.value) _ _ _ _ _
    (let a = ap stmt_of c.in-Switch.is in let b = shared_switch c.in-Switch.field-0 c.in-Switch.e c.in-Switch.labels c.in-Switch.body in search (rules, a, b)) (λ h w x. refl) d) c.switch.ensures.exits

pub stmt-returns-in-Return-clause-exits : goal.stmt-returns-in-Return-clause-exits
stmt-returns-in-Return-clause-exits t c =
    IfOk-weaker c.return_value.result _ _ (λ g e. stmt_like (λ h w. turns.returns h (optional_expr_of c.in-Return.value)) c.args.program.now c.args.function (stmt_of c.args.s.now.value) (tree.at_stmt c.in-Return.field-0 (tree.return_ (optional_expr_of c.in-Return.value))) (todo_of c.args.k.now.value) _ _ _ _ _
    (search rules) (λ h w x. refl) (e c.args.function (todo_of c.args.k.now.value))) c.return_value.ensures

pub stmt-returns-in-Assign-clause-exits : goal.stmt-returns-in-Assign-clause-exits
stmt-returns-in-Assign-clause-exits t c =
    IfOk-weaker c.assign.result _ _ (λ g e. stmt_like (λ h w. turns.assigns h (tree.node_of (expr_of c.deref-in-Assign.result.now)) (expr_of c.deref-in-Assign.result.now) (expr_of c.in-Assign.right.value) w) c.args.program.now c.args.function (stmt_of c.args.s.now.value) (tree.at_stmt c.in-Assign.field-0 (tree.assign (expr_of c.deref-in-Assign.result.now) (expr_of c.in-Assign.right.value))) (todo_of c.args.k.now.value) _ _ _ _ _
    (search rules) (λ h w x. refl) e) c.assign.ensures.exits

pub stmt-returns-in-Update-clause-exits : goal.stmt-returns-in-Update-clause-exits
stmt-returns-in-Update-clause-exits t c =
    IfOk-weaker c.update.result _ _ (λ g e. stmt_like (λ h w. turns.updates h (turns.update_of c.in-Update.place (expr_of c.deref-in-Update.result.now) c.in-Update.op) (tree.node_of (expr_of c.deref-in-Update.result.now)) (expr_of c.deref-in-Update.result.now) (expr_of c.in-Update.right.value) w) c.args.program.now c.args.function (stmt_of c.args.s.now.value) (tree.at_stmt c.in-Update.place (tree.update (expr_of c.deref-in-Update.result.now) c.in-Update.op (expr_of c.in-Update.right.value))) (todo_of c.args.k.now.value) _ _ _ _ _
    (search rules) (λ h w x. refl) e) c.update.ensures.exits

pub stmt-returns-in-Eval-clause-exits : goal.stmt-returns-in-Eval-clause-exits
stmt-returns-in-Eval-clause-exits t c =
    IfOk-weaker c.drop_value.result _ _ (λ g e. stmt_like (λ h w. turns.run_dropped h (expr_of c.deref-in-Eval.result.now) w) c.args.program.now c.args.function (stmt_of c.args.s.now.value) (tree.at_stmt c.in-Eval.field-0 (tree.evaluate (expr_of c.deref-in-Eval.result.now))) (todo_of c.args.k.now.value) _ _ _ _ _
    (search rules) (λ h w x. refl) (e c.args.function)) c.drop_value.ensures

-- ---- blocks and ifs

pub block-returns-clause-exits : goal.block-returns-clause-exits
block-returns-clause-exits t c =
    IfOk-weaker c.close_row.result _ _ (λ g e. let body = row_of c.args.all.now.value in
    chain_passes (λ h w. turns.run_row h body w) (λ h w. turns.end_way (turns.declared body) w) c.args.program.now c.args.function (todo_of c.in_ok-inside.inside.value) (todo_of c.args.k.now.value) _ _ _ _ _ _ _ _
    (λ h w n. ap (control.then_end (turns.declared body)) n ∙ sym c.in_ok-inside.ensures)
    c.in_ok-left.ensures.exits (e _ _ _))
    c.close_row.ensures.passes

pub if_then-returns-in-Ends-clause-exits : goal.if_then-returns-in-Ends-clause-exits
if_then-returns-in-Ends-clause-exits t c =
    if_ended c.args.program.now c.args.function (expr_of c.args.c.now.value) (stmt_of c.args.one.now.value) (turns.nothing c.args.place) (λ h w. turns.run_stmt h (stmt_of c.args.one.now.value) w) (λ h w. turns.run_stmt h (turns.nothing c.args.place) w) (use_of c.in_ok-after.after.value) (todo_of c.args.k.now.value) _ _ _ _
    c.in_ok-tested.ensures c.in-Ends.is c.in_ok-after.ensures

pub if_then-returns-then-holds-clause-exits : goal.if_then-returns-then-holds-clause-exits
if_then-returns-then-holds-clause-exits t c =
    IfOk-weaker c.stmt.result _ _ (λ g e. if_held c.args.program.now c.args.function (expr_of c.args.c.now.value) (stmt_of c.args.one.now.value) (turns.nothing c.args.place) (λ h w. turns.run_stmt h (stmt_of c.args.one.now.value) w) (λ h w. turns.run_stmt h (turns.nothing c.args.place) w) (use_of c.in_ok-after.after.value) (todo_of c.args.k.now.value) _ _ _ _ _ _ _
    c.in_ok-tested.ensures c.in-Holds.is c.if-holds.true c.in_ok-after.ensures e)
    c.stmt.ensures.exits

pub if_then-returns-clause-exits : goal.if_then-returns-clause-exits
if_then-returns-clause-exits t c =
    if_not c.args.program.now c.args.function (expr_of c.args.c.now.value) (stmt_of c.args.one.now.value) (turns.nothing c.args.place) (λ h w. turns.run_stmt h (stmt_of c.args.one.now.value) w) (λ h w. turns.run_stmt h (turns.nothing c.args.place) w) (use_of c.in_ok-after.after.value) (todo_of c.args.k.now.value) _ _ _ _ _ _ _
    c.in_ok-tested.ensures c.in-Holds.is c.if-holds.false c.in_ok-after.ensures (nothing_exit _ _ c.args.place _ _ _)

pub if_else-returns-in-Ends-clause-exits : goal.if_else-returns-in-Ends-clause-exits
if_else-returns-in-Ends-clause-exits t c =
    if_ended c.args.program.now c.args.function (expr_of c.args.c.now.value) (stmt_of c.args.one.now.value) (stmt_of c.args.other.now.value) (λ h w. turns.run_stmt h (stmt_of c.args.one.now.value) w) (λ h w. turns.run_stmt h (stmt_of c.args.other.now.value) w) (use_of c.in_ok-after.after.value) (todo_of c.args.k.now.value) _ _ _ _
    c.in_ok-tested.ensures c.in-Ends.is (search rules)

pub if_else-returns-then-holds-clause-exits : goal.if_else-returns-then-holds-clause-exits
if_else-returns-then-holds-clause-exits t c =
    IfOk-weaker c.stmt.result _ _ (λ g e. if_held c.args.program.now c.args.function (expr_of c.args.c.now.value) (stmt_of c.args.one.now.value) (stmt_of c.args.other.now.value) (λ h w. turns.run_stmt h (stmt_of c.args.one.now.value) w) (λ h w. turns.run_stmt h (stmt_of c.args.other.now.value) w) (use_of c.in_ok-after.after.value) (todo_of c.args.k.now.value) _ _ _ _ _ _ _
    c.in_ok-tested.ensures c.in-Holds.is c.if-holds.true (search rules) e)
    c.stmt.ensures.exits

pub if_else-returns-clause-exits : goal.if_else-returns-clause-exits
if_else-returns-clause-exits t c =
    IfOk-weaker c.stmt-else-holds.result _ _ (λ g e. if_not c.args.program.now c.args.function (expr_of c.args.c.now.value) (stmt_of c.args.one.now.value) (stmt_of c.args.other.now.value) (λ h w. turns.run_stmt h (stmt_of c.args.one.now.value) w) (λ h w. turns.run_stmt h (stmt_of c.args.other.now.value) w) (use_of c.in_ok-after.after.value) (todo_of c.args.k.now.value) _ _ _ _ _ _ _
    c.in_ok-tested.ensures c.in-Holds.is c.if-holds.false (search rules) e)
    c.stmt-else-holds.ensures.exits

-- ---- loops

pub while_holds-returns-clause-exits : goal.while_holds-returns-clause-exits
while_holds-returns-clause-exits t c =
    IfOk-weaker c.rounds.result _ _ (λ g e. while_exit c.args.program.now c.args.function c.args.place c.in_ok-l.l.value.place (expr_of c.args.c.now.value) (stmt_of c.args.body.now.value) (loop_of c.in_ok-l.l.value) (todo_of c.args.k.now.value) _ _ _ _ _
    (search rules) e)
    c.rounds.ensures.exits

pub do_while-returns-clause-exits : goal.do_while-returns-clause-exits
do_while-returns-clause-exits t c =
    IfOk-weaker c.rounds.result _ _ (λ g e. do_exit c.args.program.now c.args.function (expr_of c.args.c.now.value) (stmt_of c.args.body.now.value) (stmt_or_nothing c.in_ok-l.l.value.place c.deref.result.now.step) (loop_of c.in_ok-l.l.value) (todo_of c.args.k.now.value) _ _ _ _ _
    c.in_ok-l.ensures (ap (λ (m : LoopParts). stmt_or_nothing c.in_ok-l.l.value.place m.step) c.deref.ensures) e)
    c.rounds.ensures.exits

pub for_each-returns-clause-exits : goal.for_each-returns-clause-exits
for_each-returns-clause-exits t c =
    IfOk-weaker c.close_first.result _ _ (λ g e. for_exit c.args.program.now c.args.function (optional_expr_of c.args.c.now) (stmt_of c.args.first.now.value) (stmt_of c.args.step.now.value) (stmt_of c.in_ok-again.again.value) (stmt_of c.args.body.now.value) (loop_of c.in_ok-l.l.value) (todo_of c.in_ok-outside.outside.value) (todo_of c.args.k.now.value) _ _ _ _ _ _ _ _
    c.in_ok-left.ensures.exits (e _ _ _) (search rules) (search rules) c.in_ok-outside.ensures)
    c.close_first.ensures.passes

pub run_for-returns-clause-exits : goal.run_for-returns-clause-exits
run_for-returns-clause-exits t c =
    IfOk-weaker c.after_first.result _ _ (λ g e. chain_passes (λ h w. turns.run_stmt h (stmt_of c.args.first.now.value) w) (λ h w. turns.loop_way h (loop_of c.args.l.now.value) (turns.run_stmt h (stmt_of c.args.body.now.value)) (turns.run_stmt h (stmt_or_nothing c.args.l.now.value.place c.args.step.now)) w) c.args.program.now c.args.function (todo_of c.in_ok-inside.inside.value) (todo_of c.args.k.now.value) _ _ _ _ _ _ _ _
    (λ h w n. ap (control.then_loop (loop_of c.args.l.now.value)) n ∙ sym c.in_ok-inside.ensures) c.in_ok-left.ensures.exits e)
    c.after_first.ensures.passes

pub enter_body-returns-clause-exits : goal.enter_body-returns-clause-exits
enter_body-returns-clause-exits t c =
    IfOk-weaker c.after_body.result _ _ (λ g e. chain_passes (λ h w. turns.run_stmt h (stmt_of c.args.body.now.value) w) (λ h w. turns.body_way h (loop_of c.args.l.now.value) (turns.run_stmt h (stmt_or_nothing c.args.l.now.value.place c.args.step.now)) w) c.args.program.now c.args.function (todo_of c.in_ok-inside.inside.value) (todo_of c.args.k.now.value) _ _ _ _ _ _ _ _
    (λ h w n. ap (control.in_body (loop_of c.args.l.now.value)) n ∙ sym c.in_ok-inside.ensures) c.in_ok-left.ensures.exits e)
    c.after_body.ensures.passes

pub last_some-returns-clause-exits : goal.last_some-returns-clause-exits
last_some-returns-clause-exits t c =
    IfOk-weaker c.after_step.result _ _ (λ g e. chain_passes (λ h w. turns.run_stmt h (stmt_of c.args.s.now.value) w) (λ h w. turns.step_way h (loop_of c.args.l.now.value) w) c.args.program.now c.args.function (todo_of c.in_ok-inside.inside.value) (todo_of c.args.k.now.value) _ _ _ _ _ _ _ _
    (λ h w n. ap (control.in_step (loop_of c.args.l.now.value)) n ∙ sym c.in_ok-inside.ensures) c.in_ok-left.ensures.exits (e _ _ _ _))
    c.after_step.ensures

pub after_first-returns-in-End-clause-passes : goal.after_first-returns-in-End-clause-passes
after_first-returns-in-End-clause-passes t c =
    IfOk-weaker c.rounds.result _ _ (λ g e. passes_at (λ h. turns.loop_way h (loop_of c.args.l.now.value) (turns.run_stmt h (stmt_of c.args.body.now.value)) (turns.run_stmt h (stmt_or_nothing c.args.l.now.value.place c.args.step.now))) c.args.program.now c.args.function (todo_of c.args.k.now.value) _ exits.End _ _ _ _ _ c.in-End.is (λ r w x n. e.goes r w x n))
    c.rounds.ensures.exits

pub after_body-returns-in-End-clause-passes : goal.after_body-returns-in-End-clause-passes
after_body-returns-in-End-clause-passes t c =
    IfOk-weaker c.last.result _ _ (λ g e. passes_at (λ h. turns.body_way h (loop_of c.args.l.now.value) (turns.run_stmt h (stmt_or_nothing c.args.l.now.value.place c.args.step.now))) c.args.program.now c.args.function (todo_of c.args.k.now.value) _ exits.End _ _ _ _ _ c.in-End.is (λ r w x n. e.goes r w x n))
    c.last.ensures.exits

pub after_body-returns-in-Next-clause-passes : goal.after_body-returns-in-Next-clause-passes
after_body-returns-in-Next-clause-passes t c =
    IfOk-weaker c.last-in-Next.result _ _ (λ g e. passes_at (λ h. turns.body_way h (loop_of c.args.l.now.value) (turns.run_stmt h (stmt_or_nothing c.args.l.now.value.place c.args.step.now))) c.args.program.now c.args.function (todo_of c.args.k.now.value) _ exits.Next _ _ _ _ _ c.in-Next.is (λ r w x n. e.goes r w x n))
    c.last-in-Next.ensures.exits

pub rounds-returns-in-None-clause-exits : goal.rounds-returns-in-None-clause-exits
rounds-returns-in-None-clause-exits t c =
    IfOk-weaker c.enter_body.result _ _ (λ g e. rounds_none c.args.program.now c.args.function (loop_of c.args.l.now.value) (λ h w. turns.run_stmt h (stmt_of c.args.body.now.value) w) (λ h w. turns.run_stmt h (stmt_or_nothing c.args.l.now.value.place c.args.step.now) w) (todo_of c.args.k.now.value) _ _ _ _ _
    (search rules) e)
    c.enter_body.ensures.exits

pub rounds-returns-in-Some-clause-exits : goal.rounds-returns-in-Some-clause-exits
rounds-returns-in-Some-clause-exits t c =
    IfOk-weaker c.tested_round.result _ _ (λ g e. rounds_some c.args.program.now c.args.function (loop_of c.args.l.now.value) (expr_of c.in-Some.c.value) (λ h w. turns.run_stmt h (stmt_of c.args.body.now.value) w) (λ h w. turns.run_stmt h (stmt_or_nothing c.args.l.now.value.place c.args.step.now) w) (todo_of c.args.k.now.value) _ _ _ _ _
    (search rules) e)
    c.tested_round.ensures.exits

pub tested_round-returns-in-Ends-clause-exits : goal.tested_round-returns-in-Ends-clause-exits
tested_round-returns-in-Ends-clause-exits t c =
    loop_ended c.args.program.now c.args.function (expr_of c.args.c.now.value) (loop_of c.args.l.now.value) (λ h w. turns.run_stmt h (stmt_of c.args.body.now.value) w) (λ h w. turns.run_stmt h (stmt_or_nothing c.args.l.now.value.place c.args.step.now) w) (use_of c.in_ok-after.after.value) (todo_of c.args.k.now.value) _ _ _ _
    c.in_ok-tested.ensures c.in-Ends.is c.in_ok-after.ensures

pub tested_round-returns-then-holds-clause-exits : goal.tested_round-returns-then-holds-clause-exits
tested_round-returns-then-holds-clause-exits t c =
    IfOk-weaker c.enter_body.result _ _ (λ g e. loop_held c.args.program.now c.args.function (expr_of c.args.c.now.value) (loop_of c.args.l.now.value) (λ h w. turns.run_stmt h (stmt_of c.args.body.now.value) w) (λ h w. turns.run_stmt h (stmt_or_nothing c.args.l.now.value.place c.args.step.now) w) (use_of c.in_ok-after.after.value) (todo_of c.args.k.now.value) _ _ _ _ _ _ _
    c.in_ok-tested.ensures c.in-Holds.is c.if-holds.true c.in_ok-after.ensures e)
    c.enter_body.ensures.exits

pub tested_round-returns-clause-exits : goal.tested_round-returns-clause-exits
tested_round-returns-clause-exits t c =
    loop_not c.args.program.now c.args.function (expr_of c.args.c.now.value) (loop_of c.args.l.now.value) (λ h w. turns.run_stmt h (stmt_of c.args.body.now.value) w) (λ h w. turns.run_stmt h (stmt_or_nothing c.args.l.now.value.place c.args.step.now) w) (use_of c.in_ok-after.after.value) (todo_of c.args.k.now.value) _ _ _ _
    c.in_ok-tested.ensures c.in-Holds.is c.if-holds.false c.in_ok-after.ensures

pub last-returns-in_ok-over-in-None-clause-exits : goal.last-returns-in_ok-over-in-None-clause-exits
last-returns-in_ok-over-in-None-clause-exits t c =
    no_step c.args.program.now c.args.function c.args.l.now.value.place c.args.step.now (loop_of c.args.l.now.value) (todo_of c.args.k.now.value) _ _ _ c.in-None.is c.in_ok-over-in-None.ensures

pub last-returns-in-Some-clause-exits : goal.last-returns-in-Some-clause-exits
last-returns-in-Some-clause-exits t c =
    IfOk-weaker c.last_some.result _ _ (λ g e. one_step c.args.program.now c.args.function c.args.l.now.value.place c.args.step.now c.in-Some.s (loop_of c.args.l.now.value) (todo_of c.args.k.now.value) _ _ _ _ _ c.in-Some.is e)
    c.last_some.ensures.exits

-- ---- switches

pub switch-returns-in-Ends-clause-exits : goal.switch-returns-in-Ends-clause-exits
switch-returns-in-Ends-clause-exits t c =
    let labels = labels_of c.args.labels.now.value in
    let body = row_of c.args.body.now.value in
    value_ended c.args.program.now c.args.function _ _ _ (expr_of c.args.e.now.value) _ _ _ c.in-Ends.q (λ h w. turns.switch_test_way labels body (turns.run_from h body) w) (todo_of c.args.k.now.value)
    c.in_ok-flow.ensures c.store.ensures (search rules) c.in-Ends.is (λ h w n. ap (control.switch_test labels body) n ∙ sym c.in_ok-after.ensures)

pub switch-returns-clause-exits : goal.switch-returns-clause-exits
switch-returns-clause-exits t c =
    let labels = labels_of c.args.labels.now.value in
    let body = row_of c.args.body.now.value in
    IfOk-weaker c.enter_switch.result _ _ (λ g a. gives_exit c.args.program.now c.args.function _ _ _ (expr_of c.args.e.now.value) _ _ _ c.in-Gives.v (λ h w. turns.switch_test_way labels body (turns.run_from h body) w) (todo_of c.args.k.now.value) _ _ g
    c.in_ok-flow.ensures c.store.ensures (search rules) c.in-Gives.is (λ h w n. ap (control.switch_test labels body) n ∙ sym c.in_ok-after.ensures) (λ r w x n. a.goes r w x n))
    c.enter_switch.ensures.exits

pub enter_switch-returns-in-None-clause-exits : goal.enter_switch-returns-in-None-clause-exits
enter_switch-returns-in-None-clause-exits t c =
    none_chosen c.args.program.now c.args.function (labels_of c.args.labels.now.value) (row_of c.args.body.now.value) c.args.v (todo_of c.args.k.now.value) _ _ (search rules)

pub enter_switch-returns-in_ok-left-in-Some-clause-exits : goal.enter_switch-returns-in_ok-left-in-Some-clause-exits
enter_switch-returns-in_ok-left-in-Some-clause-exits t c =
    one_chosen c.args.program.now c.args.function (labels_of c.args.labels.now.value) c.args.body.now.value c.args.v c.in-Some.at (todo_of c.in_ok-inside-in-Some.inside.value) (todo_of c.args.k.now.value) _ _ _ _ _ _
    (search rules) c.in_ok-inside-in-Some.ensures c.in_ok-left-in-Some.ensures.exits (c.after_switch.ensures _ _ _ _ _)

-- ---- rows

pub row-row-init : goal.row-row-init
row-row-init t c =
    record { goes_so = record { goes = λ r w x n. refl }; locals_so = refl; store_so = refl }

pub row-row-preserved : goal.row-row-preserved
row-row-preserved t c =
    record {
      goes_so = row_stays c.args.program.now c.args.function (row_from c.args.all.now.value c.args.from) (row_from c.args.all.now.value c.row.at) (row_from c.args.all.now.value (c.row.at + 1)) (stmt_of c.index.result.now.value) (todo_of c.args.k.now.value) (todo_of c.in_ok-after.after.value) _ _ _ _ _ _ _ c.row.invariant.goes_so (row_next c.args.all.now.value c.row.at c.index.result.now (search rules) (search rules)) c.in_ok-after.ensures c.in_ok-left.ensures.exits c.in-End.is;
      locals_so = c.in_ok-left.ensures.locals ∙ c.row.invariant.locals_so;
      store_so = c.in_ok-left.ensures.store ∙ c.row.invariant.store_so;
    }

pub row-returns-in-Break-clause-exits : goal.row-returns-in-Break-clause-exits
row-returns-in-Break-clause-exits t c =
    record { goes = next_exit c.args.program.now c.args.function (row_from c.args.all.now.value c.args.from) (row_from c.args.all.now.value c.row.at) (row_from c.args.all.now.value (c.row.at + 1)) (stmt_of c.index.result.now.value) (todo_of c.args.k.now.value) (todo_of c.in_ok-after.after.value) _ _ _ _ _ _ _ (exits.Break) c.row.invariant.goes_so (row_next c.args.all.now.value c.row.at c.index.result.now (search rules) (search rules)) c.in_ok-after.ensures c.in_ok-left.ensures.exits c.in-Break.is }

pub row-returns-in-Next-clause-exits : goal.row-returns-in-Next-clause-exits
row-returns-in-Next-clause-exits t c =
    record { goes = next_exit c.args.program.now c.args.function (row_from c.args.all.now.value c.args.from) (row_from c.args.all.now.value c.row.at) (row_from c.args.all.now.value (c.row.at + 1)) (stmt_of c.index.result.now.value) (todo_of c.args.k.now.value) (todo_of c.in_ok-after.after.value) _ _ _ _ _ _ _ (exits.Next) c.row.invariant.goes_so (row_next c.args.all.now.value c.row.at c.index.result.now (search rules) (search rules)) c.in_ok-after.ensures c.in_ok-left.ensures.exits c.in-Next.is }

pub row-returns-in-Ends-clause-exits : goal.row-returns-in-Ends-clause-exits
row-returns-in-Ends-clause-exits t c =
    record { goes = next_exit c.args.program.now c.args.function (row_from c.args.all.now.value c.args.from) (row_from c.args.all.now.value c.row.at) (row_from c.args.all.now.value (c.row.at + 1)) (stmt_of c.index.result.now.value) (todo_of c.args.k.now.value) (todo_of c.in_ok-after.after.value) _ _ _ _ _ _ _ (exits.Ends c.in-Ends.q) c.row.invariant.goes_so (row_next c.args.all.now.value c.row.at c.index.result.now (search rules) (search rules)) c.in_ok-after.ensures c.in_ok-left.ensures.exits c.in-Ends.is }

pub row-returns-clause-exits : goal.row-returns-clause-exits
row-returns-clause-exits t c =
    row_over c.args.program.now c.args.function (row_from c.args.all.now.value c.args.from) (row_from c.args.all.now.value c.row.at) _ _ _ _ _ c.row.invariant.goes_so (row_none c.args.all.now.value c.row.at (search rules))

-- ---- the measures

pub stmt-block-requires : goal.stmt-block-requires
stmt-block-requires t c =
    let is : stmt_of c.args.s.now.value ≡ tree.at_stmt c.in-Block.field-0 (tree.block (row_of c.in-Block.all.value)) = let a = ap stmt_of c.in-Block.is in let b = shared_block c.in-Block.field-0 c.in-Block.all in search (rules, a, b) in
    (omega (arith, c.decreases, ap stmt_size is), tt)

pub stmt-if_then-requires : goal.stmt-if_then-requires
stmt-if_then-requires t c =
    let is : stmt_of c.args.s.now.value ≡ tree.at_stmt c.in-If.place (tree.if_ (expr_of c.in-If.c.value) (stmt_of c.in-If.one.value)) = search rules in
    (omega (arith, c.decreases, ap stmt_size is), tt)

pub stmt-if_else-requires : goal.stmt-if_else-requires
stmt-if_else-requires t c =
    let is : stmt_of c.args.s.now.value ≡ tree.at_stmt c.in-IfElse.field-0 (tree.if_else (expr_of c.in-IfElse.c.value) (stmt_of c.in-IfElse.one.value) (stmt_of c.in-IfElse.other.value)) = search rules in
    (omega (arith, c.decreases, ap stmt_size is), tt)

pub stmt-while_holds-requires : goal.stmt-while_holds-requires
stmt-while_holds-requires t c =
    let is : stmt_of c.args.s.now.value ≡ tree.at_stmt c.in-While.place (tree.while_ (expr_of c.in-While.c.value) (stmt_of c.in-While.body.value)) = search rules in
    (omega (arith, c.decreases, ap stmt_size is), tt)

pub stmt-do_while-requires : goal.stmt-do_while-requires
stmt-do_while-requires t c =
    let is : stmt_of c.args.s.now.value ≡ tree.at_stmt c.in-DoWhile.field-0 (tree.do_while (stmt_of c.in-DoWhile.body.value) (expr_of c.in-DoWhile.c.value)) = search rules in
    (omega (arith, c.decreases, ap stmt_size is), tt)

pub stmt-switch-requires : goal.stmt-switch-requires
stmt-switch-requires t c =
    let is : stmt_of c.args.s.now.value ≡ tree.at_stmt c.in-Switch.field-0 (tree.switch (expr_of c.in-Switch.e.value) (labels_of c.in-Switch.labels.value) (row_of c.in-Switch.body.value)) = let a = ap stmt_of c.in-Switch.is in let b = shared_switch c.in-Switch.field-0 c.in-Switch.e c.in-Switch.labels c.in-Switch.body in search (rules, a, b) in
    (omega (arith, c.decreases, ap stmt_size is), tt)

pub switch-enter_switch-requires : goal.switch-enter_switch-requires
switch-enter_switch-requires t c =
    (omega (arith, c.decreases), tt)

pub enter_switch-row-requires : goal.enter_switch-row-requires
enter_switch-row-requires t c =
    (omega (arith, c.decreases), tt)

pub do_while-rounds-requires : goal.do_while-rounds-requires
do_while-rounds-requires t c =
    let is : stmt_or_nothing c.in_ok-l.l.value.place c.deref.result.now.step ≡ (turns.do_loop (stmt_of c.args.body.now.value) (expr_of c.args.c.now.value)).step = ap (λ (m : LoopParts). stmt_or_nothing c.in_ok-l.l.value.place m.step) c.deref.ensures ∙ ap (λ (m : control.Loop). m.step) c.in_ok-l.ensures in
    let one : stmt_size (stmt_or_nothing c.in_ok-l.l.value.place c.deref.result.now.step) ≡ 1 = ap stmt_size is in
    (omega (arith, c.decreases, one, step_bound c.in_ok-l.l.value.place c.deref.result.now.step), tt)

pub stmt-for_each-requires : goal.stmt-for_each-requires
stmt-for_each-requires t c =
    let is : stmt_of c.args.s.now.value ≡ tree.at_stmt c.in-For.place (tree.for_ (stmt_of c.in-For.first.value) (optional_expr_of c.in-For.c) (stmt_of c.in-For.step.value) (stmt_of c.in-For.body.value)) = search rules in
    (omega (arith, c.decreases, ap stmt_size is), tt)

pub block-row-requires : goal.block-row-requires
block-row-requires t c =
    (omega (arith, c.decreases), tt)

pub if_then-stmt-requires : goal.if_then-stmt-requires
if_then-stmt-requires t c =
    (omega (arith, c.decreases), tt)

pub if_else-stmt-requires : goal.if_else-stmt-requires
if_else-stmt-requires t c =
    (omega (arith, c.decreases), tt)

pub while_holds-rounds-requires : goal.while_holds-rounds-requires
while_holds-rounds-requires t c =
    (omega (arith, c.decreases), tt)

pub run_for-stmt-requires : goal.run_for-stmt-requires
run_for-stmt-requires t c =
    (omega (arith, c.decreases), tt)

pub run_for-after_first-requires : goal.run_for-after_first-requires
run_for-after_first-requires t c =
    (omega (arith, c.decreases), tt)

pub after_first-rounds-requires : goal.after_first-rounds-requires
after_first-rounds-requires t c =
    (omega (arith, c.decreases), tt)

pub rounds-enter_body-requires : goal.rounds-enter_body-requires
rounds-enter_body-requires t c =
    (omega (arith, c.decreases), tt)

pub rounds-tested_round-requires : goal.rounds-tested_round-requires
rounds-tested_round-requires t c =
    (omega (arith, c.decreases), tt)

pub tested_round-enter_body-requires : goal.tested_round-enter_body-requires
tested_round-enter_body-requires t c =
    (omega (arith, c.decreases), tt)

pub enter_body-stmt-requires : goal.enter_body-stmt-requires
enter_body-stmt-requires t c =
    (omega (arith, c.decreases), tt)

pub enter_body-after_body-requires : goal.enter_body-after_body-requires
enter_body-after_body-requires t c =
    (omega (arith, c.decreases), tt)

pub after_body-last-requires : goal.after_body-last-requires
after_body-last-requires t c =
    (omega (arith, c.decreases), tt)

pub last_some-stmt-requires : goal.last_some-stmt-requires
last_some-stmt-requires t c =
    (omega (arith, c.decreases), tt)

pub if_else-stmt-requires-else-holds : goal.if_else-stmt-requires-else-holds
if_else-stmt-requires-else-holds t c =
    (omega (arith, c.decreases), tt)

pub after_body-last-requires-in-Next : goal.after_body-last-requires-in-Next
after_body-last-requires-in-Next t c =
    (omega (arith, c.decreases), tt)

pub for_each-run_for-requires : goal.for_each-run_for-requires
for_each-run_for-requires t c =
    let is : c.in_ok-again.again.value ≡ c.args.step.now.value = search rules in
    (omega (arith, c.decreases, ap (λ (s : SharedStmt). stmt_size (stmt_of s)) is), tt)

pub last-last_some-requires : goal.last-last_some-requires
last-last_some-requires t c =
    (omega (arith, c.decreases, ap step_size c.in-Some.is), tt)

pub row-stmt-requires : goal.row-stmt-requires
row-stmt-requires t c =
    (omega (arith, c.decreases, in_row c.args.all.now.value c.row.at c.index.result.now (search rules) (search rules)), tt)
