use Rattle.rule_check.proofs.WorkedRows.{checks_stand, answers_stand, draws_stand}
use Rattle.rule_check.proofs.laws.worked_checks_stand.Goals as goal

pub returns : goal.returns
returns c = record { checks = checks_stand; answers = answers_stand; draws = draws_stand }
