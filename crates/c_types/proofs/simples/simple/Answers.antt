use Rattle.c_types.proofs.simples.simple.Goals as goal

pub returns-in-Before : goal.returns-in-Before
returns-in-Before c = rw c.in-Before.is c.step.ensures

pub returns-in-After : goal.returns-in-After
returns-in-After c = rw c.in-After.is c.step-in-After.ensures

pub returns-in-Assign : goal.returns-in-Assign
returns-in-Assign c = rw c.in-Assign.is c.assignment.ensures

pub returns-in-Eval : goal.returns-in-Eval
returns-in-Eval c = rw c.in-Eval.is c.evaluation.ensures
