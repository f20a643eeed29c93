-- The worked programs' turns, computed.
use Rattle.std.proofs.Common.{refl}
use Rattle.std.specs.Fmt.{digits}
use Rattle.ak_words.specs.Op.{exact_result, rule_of}
use Rattle.ak_words.specs.Wrapped.{residue, wrapped_value}
use Rattle.struct_ir.specs.Machine.{run_within, run}
use Rattle.lower_turns.specs.Rows.{RowsStand, RulesStand, OrdersStand, AtomicsStand}

pub rows_stand : RowsStand
unfolding digits residue wrapped_value exact_result rule_of run_within run
rows_stand = record {
  product_is = refl;
  product_unfit = refl;
  loop_is = refl;
  heap_is = refl;
  heap_refused = refl;
  heap_wants_answer = refl;
  grows_is = refl;
  renewal_refused = refl;
  renewal_wants_answer = refl;
  dead_renewed = refl;
  product_too_large = refl;
  recursion_is = refl;
  elements_are = refl;
  members_are = refl;
  left_by_continue_is = refl;
  freed_between = refl;
  freed_later = refl;
  join_waits = refl;
}

pub rules_stand : RulesStand
unfolding digits residue wrapped_value exact_result rule_of run_within run
rules_stand = record {
  c1 = refl;
  c2 = refl;
  c3 = refl;
  c4 = refl;
  c4_cells = refl;
  c4_anew = refl;
  c4_at_first = refl;
  c5 = refl;
  c5_meanwhile = refl;
  c6 = refl;
  c7 = refl;
  c8 = refl;
  c9 = refl;
  c10 = refl;
  c11 = refl;
  c12 = refl;
  c13 = refl;
  c14 = refl;
  c15 = refl;
  c15_dropped = refl;
}

pub orders_stand : OrdersStand
unfolding digits residue wrapped_value exact_result rule_of run_within run
orders_stand = record {
  left_to_right_is = refl;
  update_last_is = refl;
  left_block_is = refl;
  structs_is = refl;
  short_cuts_is = refl;
  nothing_is = refl;
  end_and_start_is = refl;
  number_formats_is = refl;
  one_waits_is = refl;
  counted_is = refl;
}

pub atomics_stand : AtomicsStand
unfolding digits residue wrapped_value exact_result rule_of run_within run
atomics_stand = record {
  compared_is = refl;
  added_is = refl;
  taken_is = refl;
  least_taken_is = refl;
  swapped_is = refl;
  stored_is = refl;
  assigned_is = refl;
  dropped_is = refl;
  minus_is = refl;
  unset_is = refl;
  both_counted = refl;
  one_lost = refl;
}
