use Rattle.std.proofs.Common.{refl}
use Rattle.std.proofs.lemmas.Result.{IfOk-weaker}
use Rattle.c_meaning.specs.Control as control
use Rattle.c_meaning.specs.Turns.{run_stmt, loop_test_way}
use Rattle.source_state.specs.Views.{todo_of, loop_of}
use Rattle.source_statements.proofs.Resuming.{give_exit}
use Rattle.source_statements.proofs.uses.finish_round.Goals as goal

pub returns-clause-comes : goal.returns-clause-comes
returns-clause-comes c =
    let rest = todo_of c.args.k.now.value in
    IfOk-weaker c.complete.result _ _
    (λ q f. give_exit (λ h. loop_test_way h c.args.place (loop_of c.args.l.now.value) (run_stmt h (loop_of c.args.l.now.value).body) (run_stmt h (loop_of c.args.l.now.value).step)) c.args.program.now c.args.function (control.loop_test c.args.place (loop_of c.args.l.now.value) rest) (control.loop_test c.args.place (loop_of c.args.l.now.value) rest) rest c.args.v _ _ _ _ _ _ _ q
    refl (λ h. refl) c.in_ok-exit.ensures.exits f)
    c.complete.ensures.comes
