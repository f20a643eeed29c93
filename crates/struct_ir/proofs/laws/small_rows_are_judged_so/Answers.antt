use Rattle.struct_ir.proofs.PlacedRows.{due_rows_hold}
use Rattle.struct_ir.proofs.laws.small_rows_are_judged_so.Goals as goal

pub returns : goal.returns
returns c = due_rows_hold
