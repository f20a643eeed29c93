use Rattle.source_statements.proofs.Resuming.{no_other, one_other}
use Rattle.std.proofs.lemmas.Result.{IfOk-weaker}
use Rattle.source_statements.proofs.uses.otherwise.Goals as goal

pub returns-in-None-clause-exits : goal.returns-in-None-clause-exits
returns-in-None-clause-exits c =
    no_other _ _ c.args.at c.args.other.now _ _ _ c.in-None.is

pub returns-in-Some-clause-exits : goal.returns-in-Some-clause-exits
returns-in-Some-clause-exits c =
    IfOk-weaker c.stmt.result _ _ (λ g e. one_other _ _ c.args.at c.args.other.now c.in-Some.s _ _ _ _ _ _ c.in-Some.is e)
    c.stmt.ensures.exits
