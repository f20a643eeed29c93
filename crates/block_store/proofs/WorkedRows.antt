-- The worked rows hold by computing them.
use Rattle.std.proofs.Common.{refl}
use Rattle.ak_words.specs.Wrapped.{residue, wrapped_value}
use Rattle.block_store.specs.Rows.{ActionsStand, ReadsStand, FirstsStand, PointersStand}

pub actions_stand : ActionsStand
unfolding residue wrapped_value
actions_stand = record {
  an_int_is_read = refl;
  through_null = refl;
  of_dead_block = refl;
  behind_the_end = refl;
  between_ints = refl;
  never_written = refl;
  of_pointer = refl;
  load_is_plain = refl;
  an_int_is_written = refl;
  into_literal = refl;
  a_copy = refl;
  target_first = refl;
  then_source = refl;
  then_literal = refl;
  then_overlap = refl;
  side_by_side = refl;
  onto_itself = refl;
  struct_to_itself = refl;
  of_no_byte = refl;
  allocation_waits_for_answer = refl;
  a_block = refl;
  no_block = refl;
  too_great = refl;
  too_great_is_refused = refl;
  a_free = refl;
  free_of_null = refl;
  free_of_inner = refl;
  free_of_local = refl;
  second_free = refl;
  a_print = refl;
  text_of_no_bytes = refl;
  text_of_parts = refl;
  text_without_end = refl;
  a_lock = refl;
  lock_again = refl;
  lock_waits = refl;
  lock_of_literal = refl;
  lock_of_parts = refl;
  waiting_lock_is_plain = refl;
  an_unlock = refl;
  unlock_by_another = refl;
  unlock_of_free = refl;
  a_destroy = refl;
  destroy_of_held = refl;
  a_start = refl;
  start_nowhere = refl;
  start_refused = refl;
  start_waits_for_answer = refl;
  a_join = refl;
  join_without_place = refl;
  join_to_literal = refl;
  join_waits = refl;
  join_of_oneself = refl;
  second_join = refl;
  join_of_none = refl;
  an_end = refl;
  an_end_without_value = refl;
}

pub reads_stand : ReadsStand
reads_stand = record {
  through_null = refl;
  of_dead_block = refl;
  of_overlap = refl;
  of_held_mutex = refl;
  of_two_texts = refl;
  of_bytes_alone = refl;
  of_unknown_cells = refl;
  of_text_without_end = refl;
  of_dead_text = refl;
}

pub firsts_stand : FirstsStand
unfolding residue wrapped_value
firsts_stand = record {
  zeros = refl;
  a_number = refl;
  a_pointer = refl;
}

pub pointers_stand : PointersStand
unfolding residue wrapped_value
pointers_stand = record {
  to_the_end = refl;
  past_the_end = refl;
  to_the_start = refl;
  below_the_start = refl;
  null_by_0 = refl;
  null_by_1 = refl;
  dead_by_0 = refl;
  null_is_false = refl;
  other_is_true = refl;
  dead_is_neither = refl;
  equal = refl;
  end_and_start = refl;
  null_and_other = refl;
  less = refl;
  not_less = refl;
  at_most = refl;
  greater = refl;
  at_least = refl;
  order_across_blocks = refl;
  order_with_null = refl;
  dead_first = refl;
  equality_with_dead = refl;
  two_ints = refl;
  no_whole_ints = refl;
  of_nulls = refl;
  across_blocks = refl;
  of_no_size = refl;
  of_no_size_back = refl;
  nothing_of_no_size = refl;
}
