-- The small codes, computed.
use Rattle.std.proofs.Common.{refl}
use Rattle.pin_flow.specs.Marks.{flow, head_of, round_of}
use Rattle.run_tests.specs.Rows.{RowsHold}

pub rows_hold : RowsHold
unfolding flow head_of round_of
rows_hold = record {
  set_in_range = refl;
  set_past = refl;
  copy_past = refl;
  look_past = refl;
  object_past = refl;
  sum_of_chars = refl;
  sum_of_ints = refl;
  break_outside = refl;
  break_inside = refl;
  next_in_body = refl;
  next_in_step = refl;
  call_of_none = refl;
  call_of_more = refl;
  read_by_slot = refl;
  read_with_list = refl;
  list_of_two = refl;
  list_of_one_twice = refl;
  placed = refl;
  none_before = refl;
  none_behind = refl;
  another_list = refl;
  none_in_step = refl;
  without_looks = refl;
  held_at_end = refl;
  another = refl;
  assigned = refl;
  ended = refl;
  a_base = refl;
  no_base = refl;
}
