use Rattle.std.proofs.Common.{rules}
use Rattle.std.proofs.lemmas.Result.{IfOk-weaker}
use Rattle.source_state.specs.Views.{updating_of}
use Rattle.source_statements.proofs.Resuming.{update_stores, update_broke}
use Rattle.source_statements.proofs.uses.update_read.Goals as goal

pub returns-in-Ok : goal.returns-in-Ok
returns-in-Ok c =
    IfOk-weaker c.store_value.result _ _ (λ g e. update_stores c.args.program.now c.args.store.now.now (updating_of c.args.u.now) c.args.at c.args.by c.args.v c.in-Ok.r c.plain.result _ _ (search rules) e c.plain.ensures)
    c.store_value.ensures

pub returns-in-Err : goal.returns-in-Err
returns-in-Err c =
    update_broke c.args.program.now c.args.store.now.now (updating_of c.args.u.now) c.args.at c.args.by c.args.v c.in-Err.rule c.args.u.now.operator _ (search rules) (search rules)
