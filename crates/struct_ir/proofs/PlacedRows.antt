-- Rows with their safepoints, computed.
use Rattle.std.proofs.Common.{refl}
use Rattle.struct_ir.specs.PlacedRows.{DueRowsHold}

pub due_rows_hold : DueRowsHold
due_rows_hold = record {
  around_a_call = refl;
  one_between_calls = refl;
  two_between_calls = refl;
  three_between_calls = refl;
  by_itself = refl;
  behind_an_if = refl;
  last_in_a_latch = refl;
  last_in_a_body = refl;
  twice_in_a_latch = refl;
  behind_a_call_in_a_latch = refl;
  last_in_a_branch_of_a_latch = refl;
}
