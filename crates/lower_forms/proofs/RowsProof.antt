-- The worked rows, computed.
use Rattle.std.proofs.Common.{refl}
use Rattle.lower_forms.specs.Rows.{RowsHold}

pub rows_hold : RowsHold
rows_hold = record { lowered_program = refl; lowered_allocations = refl; lowered_changes = refl; lowered_updates = refl; lowered_jumps = refl; lowered_negations = refl }
