-- The small codes' meanings, computed.
use Rattle.std.proofs.Common.{refl}
use Rattle.std.specs.Fmt.{digits}
use Rattle.ak_words.specs.Op.{exact_result, rule_of}
use Rattle.ak_words.specs.Wrapped.{residue, wrapped_value}
use Rattle.struct_ir.specs.Machine.{run_within, run}
use Rattle.struct_ir.specs.meaning.Rows.{RowsHold}

pub rows_hold : RowsHold
unfolding digits residue wrapped_value exact_result rule_of run_within run
rows_hold = record {
  counted = refl;
  before_the_call = refl;
  after_the_end = refl;
  allocated = refl;
  refused = refl;
  unfit = refl;
  unset_register = refl;
  through_null = refl;
  ended_object = refl;
  dead_pointer = refl;
  no_value = refl;
  unsigned_order = refl;
  other_type = refl;
  returns_unset = refl;
  returns_pointer = refl;
  begins = refl;
  linear_begins = refl;
}
