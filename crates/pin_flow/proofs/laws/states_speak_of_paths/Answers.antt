use Rattle.pin_flow.proofs.Covers.{covered_each, each_covered, due_needed}
use Rattle.pin_flow.proofs.laws.states_speak_of_paths.Goals as goal

pub returns-clause-covered : goal.returns-clause-covered
returns-clause-covered c = covered_each

pub returns-clause-fresh : goal.returns-clause-fresh
returns-clause-fresh c = each_covered

pub returns-clause-unheld : goal.returns-clause-unheld
returns-clause-unheld c = due_needed
