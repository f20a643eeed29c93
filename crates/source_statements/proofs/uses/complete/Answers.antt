use Rattle.std.proofs.Common.{ap}
use Rattle.std.proofs.lemmas.Result.{IfOk-weaker}
use Rattle.source_state.specs.Views.{todo_of}
use Rattle.source_statements.proofs.Resuming.{finishes_at}
use Rattle.source_statements.proofs.uses.complete.Goals as goal

pub returns-clause-comes : goal.returns-clause-comes
returns-clause-comes c =
    IfOk-weaker c.finish.result _ _ (λ g e. finishes_at _ _ _ _ _ _ _ _ _ _ (ap todo_of c.deref.ensures) e)
    c.finish.ensures.comes
