use Rattle.std.proofs.Common.{Some, ap, ◌∙◌}
use Rattle.std.proofs.lemmas.Result.{on_ok_weaker}
use Rattle.c_tree.specs.Typed.{at_stmt, declare, at, local, more_stmts}
use Rattle.type_locals.specs.inner.Numbers.{followed}
use Rattle.type_locals.proofs.FurtherLocals.{followed_push}
use Rattle.type_locals.proofs.locals.copied.Goals as goal

pub returns : goal.returns
returns c =
    let x = c.args.x.now in
    let all = c.args.all.now.items in
    let place = x.param.now.place in
    on_ok_weaker c.put.result
    (λ h body. ap (λ l. followed l body) h ∙ followed_push all _ body
    ∙ ap (λ t. followed all (more_stmts (at_stmt place (declare c.args.number (Some (at place t (local x.number))))) body)) c.in_ok-passed_type.ensures)
    c.put.ensures
