use Rattle.c_grammar.proofs.RowsProof as rows
use Rattle.c_grammar.proofs.laws.rows_hold.Goals as goal

pub returns : goal.returns
returns c = rows.rows
