use Rattle.source_statements.proofs.Walking.{declare_none, declare_some}
use Rattle.std.proofs.lemmas.Result.{IfOk-weaker}
use Rattle.source_statements.proofs.statements.declare.Goals as goal

pub returns-in_ok-declare_local-in-None-clause-exits : goal.returns-in_ok-declare_local-in-None-clause-exits
returns-in_ok-declare_local-in-None-clause-exits c = declare_none _ _ c.args.place c.args.number c.args.init.now _ _ _ _ _ c.in-None.is c.in_ok-declare_local-in-None.ensures.now

pub returns-in-Some-clause-exits : goal.returns-in-Some-clause-exits
returns-in-Some-clause-exits c =
    IfOk-weaker c.initialise.result _ _ (λ g e. declare_some _ _ c.args.place c.args.number c.args.init.now c.in-Some.e _ _ _ _ _ _ c.in-Some.is e)
    c.initialise.ensures.exits
