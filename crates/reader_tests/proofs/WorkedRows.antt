-- The small pieces, computed.
use Rattle.std.proofs.Common.{refl}
use Rattle.ak_words.specs.Wrapped as wrapped
use Rattle.c_lex.specs.Quoted as quoted
use Rattle.c_typing.specs.Faults.{earlier}
use Rattle.c_typing.specs.Formats.{conversions}
use Rattle.c_typing.specs.Rules.{operated_by}
use Rattle.c_typing.specs.Scope.{library, bytes_of}
use Rattle.c_typing.specs.Types.{type_words}
use Rattle.reader_tests.specs.Rows.{RowsHold}

pub rows_hold : RowsHold
unfolding type_words library bytes_of conversions operated_by earlier wrapped.wrapped_value wrapped.residue quoted.simple_escapes quoted.string_of quoted.character_at quoted.escape
rows_hold = record {
  two_names = refl;
  a_sum = refl;
  literals = refl;
  bytes_of_literals = refl;
  before_braces = refl;
  braces = refl;
  behind_braces = refl;
  pieces = refl;
  both = refl;
  either = refl;
  three_names = refl;
  dimension_of_0 = refl;
  dimension_of_1 = refl;
  dimension_of_12 = refl;
  an_addressed_parameter = refl;
  a_promotion = refl;
  a_shift = refl;
  a_choice = refl;
  pointer_less_number = refl;
}
