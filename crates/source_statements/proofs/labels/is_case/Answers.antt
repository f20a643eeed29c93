use Rattle.source_statements.proofs.Cases.{case_of, no_case}
use Rattle.source_statements.proofs.labels.is_case.Goals as goal

pub returns-in-None : goal.returns-in-None
returns-in-None c = no_case c.args.label.now c.args.v c.in-None.is

pub returns-in-Some : goal.returns-in-Some
returns-in-Some c = case_of c.args.label.now c.in-Some.n c.args.v c.is_number.result c.in-Some.is c.is_number.ensures
