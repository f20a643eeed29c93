use Rattle.std.proofs.Common.{refl}
use Rattle.std.proofs.lemmas.Result.{IfOk-weaker}
use Rattle.c_meaning.specs.Control as control
use Rattle.c_meaning.specs.Turns.{run_from, switch_test_way}
use Rattle.source_tree.specs.SharedViews.{labels_of, row_of}
use Rattle.source_state.specs.Views.{todo_of}
use Rattle.source_statements.proofs.Resuming.{give_exit}
use Rattle.source_statements.proofs.uses.finish_switch.Goals as goal

pub returns-clause-comes : goal.returns-clause-comes
returns-clause-comes c =
    let rest = todo_of c.args.k.now.value in
    let labels = labels_of c.args.labels.now.value in
    let body = row_of c.args.body.now.value in
    IfOk-weaker c.complete.result _ _
    (λ q f. give_exit (λ h. switch_test_way labels body (run_from h body)) c.args.program.now c.args.function (control.switch_test labels body rest) (control.switch_test labels body rest) rest c.args.v _ _ _ _ _ _ _ q
    refl (λ h. refl) c.in_ok-exit.ensures.exits f)
    c.complete.ensures.comes
