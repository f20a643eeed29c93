use Rattle.std.proofs.Common.{refl}
use Rattle.std.proofs.lemmas.Result.{IfOk-weaker}
use Rattle.c_meaning.specs.Control as control
use Rattle.c_meaning.specs.Turns.{run_stmt, if_way}
use Rattle.source_tree.specs.SharedViews.{stmt_of}
use Rattle.source_state.specs.Views.{todo_of, stmt_or_nothing}
use Rattle.source_statements.proofs.Resuming.{give_exit}
use Rattle.source_statements.proofs.uses.finish_if.Goals as goal

pub returns-clause-comes : goal.returns-clause-comes
returns-clause-comes c =
    let rest = todo_of c.args.k.now.value in
    IfOk-weaker c.complete.result _ _
    (λ q f. give_exit (λ h. if_way c.args.place (stmt_of c.args.one.now.value) (stmt_or_nothing c.args.at c.args.other.now) (run_stmt h (stmt_of c.args.one.now.value)) (run_stmt h (stmt_or_nothing c.args.at c.args.other.now))) c.args.program.now c.args.function (control.if_test c.args.place (stmt_of c.args.one.now.value) (stmt_or_nothing c.args.at c.args.other.now) rest) (control.if_test c.args.place (stmt_of c.args.one.now.value) (stmt_or_nothing c.args.at c.args.other.now) rest) rest c.args.v _ _ _ _ _ _ _ q
    refl (λ h. refl) c.in_ok-exit.ensures.exits f)
    c.complete.ensures.comes
