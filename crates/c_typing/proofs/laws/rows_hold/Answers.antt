use Rattle.c_typing.proofs.RowsProof as rows
use Rattle.c_typing.proofs.laws.rows_hold.Goals as goal

pub returns : goal.returns
returns c = rows.rows
