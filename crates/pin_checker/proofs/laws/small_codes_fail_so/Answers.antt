use Rattle.pin_checker.proofs.WorkedRows.{rows_hold}
use Rattle.pin_checker.proofs.laws.small_codes_fail_so.Goals as goal

pub returns : goal.returns
returns c = rows_hold
