use Rattle.reader_tests.proofs.WorkedRows.{rows_hold}
use Rattle.reader_tests.proofs.rows.small_pieces_are_typed_so.Goals as goal

pub returns : goal.returns
returns c = rows_hold
