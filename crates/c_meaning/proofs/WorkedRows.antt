-- The worked rows hold by computing them.
use Rattle.std.proofs.Common.{refl}
use Rattle.std.specs.Fmt.{digits}
use Rattle.ak_words.specs.Op.{exact_result, rule_of}
use Rattle.ak_words.specs.Wrapped.{residue, wrapped_value}
use Rattle.c_meaning.specs.Rows.{RowsStand, RulesStand, OrdersStand}
use Rattle.c_meaning.specs.SwitchRows.{SwitchesStand}
use Rattle.c_meaning.specs.AllocationRows.{AllocationsStand}
use Rattle.c_meaning.specs.AtomicRows.{AtomicsStand}
use Rattle.c_meaning.specs.TouchRows.{TouchesStand}

pub rows_stand : RowsStand
unfolding digits residue wrapped_value exact_result rule_of
rows_stand = record {
  product_is = refl;
  product_printed = refl;
  product_over = refl;
  product_unfit = refl;
  loop_is = refl;
  loop_goes_on = refl;
  heap_is = refl;
  heap_refused = refl;
  heap_wants_answer = refl;
  recursion_is = refl;
  recursion_shows = refl;
  freed_between = refl;
  freed_later = refl;
  join_waits = refl;
}

pub rules_stand : RulesStand
unfolding digits residue wrapped_value exact_result rule_of
rules_stand = record {
  c1 = refl;
  c2 = refl;
  c3 = refl;
  c4 = refl;
  c4_cells = refl;
  c5 = refl;
  c6 = refl;
  c7 = refl;
  c8 = refl;
  c9 = refl;
  c10 = refl;
  c11 = refl;
  c12 = refl;
  c13 = refl;
  c14 = refl;
  c15 = refl;
  c15_dropped = refl;
  c16 = refl;
}

pub orders_stand : OrdersStand
unfolding digits residue wrapped_value exact_result rule_of
orders_stand = record {
  left_to_right_is = refl;
  number_first_is = refl;
  pointer_first_is = refl;
  number_indexed_is = refl;
  pointer_indexed_is = refl;
  update_last_is = refl;
  unset_anew_is = refl;
  left_block_is = refl;
  structs_is = refl;
  short_cuts_is = refl;
  nothing_is = refl;
  end_and_start_is = refl;
  number_formats_is = refl;
  one_waits_is = refl;
  counted_is = refl;
}

pub switches_stand : SwitchesStand
unfolding digits residue wrapped_value exact_result rule_of
switches_stand = record {
  first = refl;
  through = refl;
  second = refl;
  otherwise = refl;
  equal_behind = refl;
  default_in_front = refl;
  last = refl;
  none_equal = refl;
  nearest = refl;
  continues = refl;
  rounds = refl;
  two_rounds = refl;
  break_in_do = refl;
}

pub allocations_stand : AllocationsStand
unfolding digits residue wrapped_value exact_result rule_of
allocations_stand = record {
  grows_is = refl;
  new_holds = refl;
  old_is_gone = refl;
  old_is_kept = refl;
  null_is_given = refl;
  of_no_byte = refl;
  of_no_byte_kept = refl;
  no_byte_there = refl;
  dead_plain = refl;
  dead_got = refl;
  dead_none = refl;
  null_is_malloc = refl;
  calloc_wants_answer = refl;
  realloc_wants_answer = refl;
  calloc_refused = refl;
  calloc_zeroes = refl;
  too_many = refl;
  far_too_many = refl;
  far_too_many_none = refl;
}

pub atomics_stand : AtomicsStand
unfolding digits residue wrapped_value exact_result rule_of
atomics_stand = record {
  compared_is = refl;
  added_is = refl;
  taken_is = refl;
  least_taken_is = refl;
  swapped_is = refl;
  stored_is = refl;
  assigned_is = refl;
  dropped_is = refl;
  plus_is = refl;
  minus_is = refl;
  unset_is = refl;
  both_counted = refl;
  both_counted_back = refl;
  one_lost = refl;
}

pub touches_stand : TouchesStand
unfolding digits residue wrapped_value exact_result rule_of
touches_stand = record {
  atomic_touches = refl;
  plain_touches = refl;
  compare_touches = refl;
  freed_touches = refl;
  joined_touches = refl;
}
