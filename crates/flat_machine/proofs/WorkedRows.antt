-- What the small codes come to, computed.
use Rattle.std.proofs.Common.{refl}
use Rattle.std.specs.Fmt.{digits}
use Rattle.ak_words.specs.Op.{exact_result, rule_of, replacement}
use Rattle.ak_words.specs.Wrapped.{residue, wrapped_value}
use Rattle.struct_ir.specs.Machine.{run_within, run}
use Rattle.flat_machine.specs.ServedRows.{ServedRowsHold}

pub served_rows_hold : ServedRowsHold
unfolding digits residue wrapped_value exact_result rule_of replacement run_within run
served_rows_hold = record {
  one_id_left = refl;
  both_get = refl;
  gets_at_once = refl;
}
