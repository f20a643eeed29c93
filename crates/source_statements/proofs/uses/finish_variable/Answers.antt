use Rattle.std.proofs.Common.{refl, ap, sym}
use Rattle.std.proofs.lemmas.Result.{IfOk-weaker}
use Rattle.c_meaning.specs.Control as control
use Rattle.c_meaning.specs.Turns.{update_local_way, way_of}
use Rattle.source_state.specs.Views.{todo_of, updating_of}
use Rattle.source_statements.proofs.Resuming.{give_exit}
use Rattle.source_statements.proofs.uses.finish_variable.Goals as goal

pub returns-clause-comes : goal.returns-clause-comes
returns-clause-comes c =
    let rest = todo_of c.args.k.now.value in
    IfOk-weaker c.complete.result _ _
    (λ q f. give_exit (λ h. update_local_way h (updating_of c.deref.result.now) c.args.number) c.args.program.now c.args.function (control.update_local (updating_of c.args.u.now.value) c.args.number rest) (control.update_local (updating_of c.args.u.now.value) c.args.number rest) rest c.args.v _ _ _ _ _ _ _ q
    refl (λ h. ap (λ (u : control.Update). update_local_way h u c.args.number (way_of h rest)) (sym (ap updating_of c.deref.ensures))) (c.in_ok-exit.ensures.exits c.args.function rest) f)
    c.complete.ensures.comes
