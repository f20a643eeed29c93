use Rattle.flat_machine.proofs.WorkedRows.{served_rows_hold}
use Rattle.flat_machine.proofs.laws.small_codes_get_what_they_should.Goals as goal

pub returns : goal.returns
returns c = served_rows_hold
