use Rattle.std.proofs.Common.{refl}
use Rattle.std.proofs.lemmas.Result.{IfOk-weaker}
use Rattle.c_meaning.specs.Control as control
use Rattle.c_meaning.specs.Turns.{left_way}
use Rattle.source_tree.specs.SharedViews.{expr_of}
use Rattle.source_state.specs.Views.{todo_of}
use Rattle.source_statements.proofs.Resuming.{give_exit}
use Rattle.source_statements.proofs.uses.finish_place.Goals as goal

pub returns-clause-comes : goal.returns-clause-comes
returns-clause-comes c =
    let rest = todo_of c.args.k.now.value in
    IfOk-weaker c.complete.result _ _
    (λ q f. give_exit (λ h. left_way h c.args.site.place c.args.site.atomic (expr_of c.args.right.now.value)) c.args.program.now c.args.function (control.left_place c.args.site.place c.args.site.atomic (expr_of c.args.right.now.value) rest) (control.left_place c.args.site.place c.args.site.atomic (expr_of c.args.right.now.value) rest) rest c.args.v _ _ _ _ _ _ _ q
    refl (λ h. refl) (c.in_ok-exit.ensures c.args.function) f)
    c.complete.ensures.comes
