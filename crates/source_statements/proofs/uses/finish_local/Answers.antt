use Rattle.std.proofs.Common.{refl}
use Rattle.std.proofs.lemmas.Result.{IfOk-weaker}
use Rattle.c_meaning.specs.Control as control
use Rattle.source_state.specs.Views.{todo_of}
use Rattle.source_statements.proofs.Resuming.{give_local}
use Rattle.source_statements.proofs.uses.finish_local.Goals as goal

pub returns-clause-comes : goal.returns-clause-comes
returns-clause-comes c =
    let rest = todo_of c.args.k.now.value in
    IfOk-weaker c.complete.result _ _ (λ q f. give_local c.args.program.now c.args.function c.args.number (control.to_local c.args.number rest) rest c.args.v _ _ _ _ _ q refl c.in_ok-set.ensures.now f) c.complete.ensures.comes
