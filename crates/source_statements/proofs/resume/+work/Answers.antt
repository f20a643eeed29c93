use Rattle.std.proofs.Common.{ap, refl, sym, ◌∙◌, []}
use Rattle.std.proofs.lemmas.Result.{IfOk-weaker}
use Rattle.c_tree.specs.Typed as tree
use Rattle.c_meaning.specs.Control as control
use Rattle.c_meaning.specs.Turns.{run_stmt, run_row, row_way, end_way, loop_way, body_way, step_way, switch_way, declared, declared_by, way_of}
use Rattle.source_tree.specs.SharedViews.{stmt_of, row_of, row_from}
use Rattle.source_state.specs.Views.{loop_of, stmt_or_nothing, todo_of}
use Rattle.source_state.specs.declared.control.LoopParts.{LoopParts}
use Rattle.source_statements.proofs.Resuming.{finish_ended, finish_leaves, finish_behind, finishes_at}
use Rattle.source_statements.proofs.resume.+work.Goals as goal

pub finish-returns-in-Ends-clause-comes : goal.finish-returns-in-Ends-clause-comes
finish-returns-in-Ends-clause-comes t c = finish_ended c.args.program.now c.args.function (todo_of c.args.k.now) _ _ _ _ c.in-Ends.is

pub work_off-returns-in-Leaves-clause-comes : goal.work_off-returns-in-Leaves-clause-comes
work_off-returns-in-Leaves-clause-comes t c =
    finish_leaves c.args.program.now c.args.function (todo_of c.args.k.now) _ _ _ _ (ap todo_of c.in-Leaves.is) c.left_whole.ensures

pub work_off-returns-in_ok-exit-in-ThenRow-clause-comes : goal.work_off-returns-in_ok-exit-in-ThenRow-clause-comes
work_off-returns-in_ok-exit-in-ThenRow-clause-comes t c =
    let rest = row_from c.in-ThenRow.all.value c.in-ThenRow.from in
    IfOk-weaker c.finish.result _ _
    (λ q f. finish_behind (λ h. row_way rest (run_row h rest)) c.args.program.now c.args.function (todo_of c.args.k.now) (control.then_row rest (todo_of c.in-ThenRow.k.value)) _ (todo_of c.in-ThenRow.k.value) c.args.left _ _ _ _ _ _ _ q
    (ap todo_of c.in-ThenRow.is) (ap todo_of c.deref.ensures) (λ h. refl) c.in_ok-exit-in-ThenRow.ensures.passes f)
    c.finish.ensures.comes

pub work_off-returns-in_ok-exit-in-ThenEnd-clause-comes : goal.work_off-returns-in_ok-exit-in-ThenEnd-clause-comes
work_off-returns-in_ok-exit-in-ThenEnd-clause-comes t c =
    let numbers = declared (row_of c.in-ThenEnd.all.value) in
    IfOk-weaker c.finish-in-ThenEnd.result _ _
    (λ q f. finish_behind (λ h. end_way numbers) c.args.program.now c.args.function (todo_of c.args.k.now) (control.then_end numbers (todo_of c.in-ThenEnd.k.value)) _ (todo_of c.in-ThenEnd.k.value) c.args.left _ _ _ _ _ _ _ q
    (ap todo_of c.in-ThenEnd.is) (ap todo_of c.deref-in-ThenEnd.ensures) (λ h. refl) (c.in_ok-exit-in-ThenEnd.ensures.passes _ _ _) f)
    c.finish-in-ThenEnd.ensures.comes

pub work_off-returns-in_ok-exit-in-ThenEndFirst-clause-comes : goal.work_off-returns-in_ok-exit-in-ThenEndFirst-clause-comes
work_off-returns-in_ok-exit-in-ThenEndFirst-clause-comes t c =
    let numbers = declared_by (stmt_of c.in-ThenEndFirst.s.value) [] in
    IfOk-weaker c.finish-in-ThenEndFirst.result _ _
    (λ q f. finish_behind (λ h. end_way numbers) c.args.program.now c.args.function (todo_of c.args.k.now) (control.then_end numbers (todo_of c.in-ThenEndFirst.k.value)) _ (todo_of c.in-ThenEndFirst.k.value) c.args.left _ _ _ _ _ _ _ q
    (ap todo_of c.in-ThenEndFirst.is) (ap todo_of c.deref-in-ThenEndFirst.ensures) (λ h. refl) (c.in_ok-exit-in-ThenEndFirst.ensures.passes _ _ _) f)
    c.finish-in-ThenEndFirst.ensures.comes

pub work_off-returns-in-ThenLoop-clause-comes : goal.work_off-returns-in-ThenLoop-clause-comes
work_off-returns-in-ThenLoop-clause-comes t c =
    IfOk-weaker c.behind_first.result _ _ (λ q f. finishes_at c.args.program.now c.args.function _ (todo_of c.args.k.now) c.args.left _ _ _ _ q (sym (ap todo_of c.in-ThenLoop.is)) f) c.behind_first.ensures.comes

pub work_off-returns-in-InBody-clause-comes : goal.work_off-returns-in-InBody-clause-comes
work_off-returns-in-InBody-clause-comes t c =
    IfOk-weaker c.behind_body.result _ _ (λ q f. finishes_at c.args.program.now c.args.function _ (todo_of c.args.k.now) c.args.left _ _ _ _ q (sym (ap todo_of c.in-InBody.is)) f) c.behind_body.ensures.comes

pub work_off-returns-in-InStep-clause-comes : goal.work_off-returns-in-InStep-clause-comes
work_off-returns-in-InStep-clause-comes t c =
    IfOk-weaker c.behind_step.result _ _ (λ q f. finishes_at c.args.program.now c.args.function _ (todo_of c.args.k.now) c.args.left _ _ _ _ q (sym (ap todo_of c.in-InStep.is)) f) c.behind_step.ensures.comes

pub work_off-returns-in-InSwitch-clause-comes : goal.work_off-returns-in-InSwitch-clause-comes
work_off-returns-in-InSwitch-clause-comes t c =
    IfOk-weaker c.finish-in-InSwitch.result _ _
    (λ q f. finish_behind (λ h. switch_way) c.args.program.now c.args.function (todo_of c.args.k.now) (control.in_switch (todo_of c.in-InSwitch.k.value)) _ (todo_of c.in-InSwitch.k.value) c.args.left _ _ _ _ _ _ _ q
    (ap todo_of c.in-InSwitch.is) (ap todo_of c.deref-in-InSwitch.ensures) (λ h. refl) (c.after_switch-exit.ensures _ _ _ _ _) f)
    c.finish-in-InSwitch.ensures.comes

-- ---- the parts of a work list

pub behind_first-returns-clause-comes : goal.behind_first-returns-clause-comes
behind_first-returns-clause-comes t c =
    let l = loop_of c.args.l.now.value in
    IfOk-weaker c.finish.result _ _
    (λ q f. finish_behind (λ h. loop_way h l (run_stmt h (stmt_of c.deref.result.now.body.value)) (run_stmt h (stmt_or_nothing c.args.l.now.value.place c.deref-2.result.now.step))) c.args.program.now c.args.function (control.then_loop l (todo_of c.args.k.now.value)) (control.then_loop l (todo_of c.args.k.now.value)) _ (todo_of c.args.k.now.value) c.args.left _ _ _ _ _ _ _ q
    refl (ap todo_of c.deref-3.ensures) (λ h. ap (λ (s : tree.Stmt). loop_way h l (run_stmt h s) (run_stmt h l.step) (way_of h (todo_of c.args.k.now.value))) (ap (λ (m : LoopParts). stmt_of m.body.value) (sym c.deref.ensures)) ∙ ap (λ (s : tree.Stmt). loop_way h l (run_stmt h (stmt_of c.deref.result.now.body.value)) (run_stmt h s) (way_of h (todo_of c.args.k.now.value))) (ap (λ (m : LoopParts). stmt_or_nothing c.args.l.now.value.place m.step) (sym c.deref-2.ensures))) c.in_ok-exit.ensures.passes f)
    c.finish.ensures.comes

pub behind_body-returns-clause-comes : goal.behind_body-returns-clause-comes
behind_body-returns-clause-comes t c =
    let l = loop_of c.args.l.now.value in
    IfOk-weaker c.finish.result _ _
    (λ q f. finish_behind (λ h. body_way h l (run_stmt h (stmt_or_nothing c.args.l.now.value.place c.deref.result.now.step))) c.args.program.now c.args.function (control.in_body l (todo_of c.args.k.now.value)) (control.in_body l (todo_of c.args.k.now.value)) _ (todo_of c.args.k.now.value) c.args.left _ _ _ _ _ _ _ q
    refl (ap todo_of c.deref-2.ensures) (λ h. ap (λ (s : tree.Stmt). body_way h l (run_stmt h s) (way_of h (todo_of c.args.k.now.value))) (ap (λ (m : LoopParts). stmt_or_nothing c.args.l.now.value.place m.step) (sym c.deref.ensures))) c.in_ok-exit.ensures.passes f)
    c.finish.ensures.comes

pub behind_step-returns-clause-comes : goal.behind_step-returns-clause-comes
behind_step-returns-clause-comes t c =
    let l = loop_of c.args.l.now.value in
    IfOk-weaker c.finish.result _ _
    (λ q f. finish_behind (λ h. step_way h l) c.args.program.now c.args.function (control.in_step l (todo_of c.args.k.now.value)) (control.in_step l (todo_of c.args.k.now.value)) _ (todo_of c.args.k.now.value) c.args.left _ _ _ _ _ _ _ q
    refl (ap todo_of c.deref.ensures) (λ h. refl) (c.in_ok-exit.ensures _ _ _ _) f)
    c.finish.ensures.comes
