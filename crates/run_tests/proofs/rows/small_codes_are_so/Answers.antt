use Rattle.run_tests.proofs.WorkedRows.{rows_hold}
use Rattle.run_tests.proofs.rows.small_codes_are_so.Goals as goal

pub returns : goal.returns
returns c = rows_hold
