use Rattle.emit_code.proofs.WorkedRows as rows
use Rattle.emit_code.proofs.laws.small_codes_are_laid_out_so.Goals as goal

pub returns : goal.returns
returns c = rows.rows_hold
