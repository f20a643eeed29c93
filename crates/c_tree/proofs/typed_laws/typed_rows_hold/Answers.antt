use Rattle.c_tree.proofs.TypedRowsProof as rows
use Rattle.c_tree.proofs.typed_laws.typed_rows_hold.Goals as goal

pub returns : goal.returns
returns c = rows.typed_rows_hold
