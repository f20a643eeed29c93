-- The worked rows, computed.
use Rattle.std.proofs.Common.{refl}
use Rattle.c_typing.specs.Types.{type_words}
use Rattle.c_typing.specs.Scope.{library, bytes_of}
use Rattle.c_typing.specs.Formats.{conversions}
use Rattle.c_typing.specs.Rules.{operated_by}
use Rattle.c_typing.specs.Faults.{earlier}
use Rattle.ak_words.specs.Op as operations
use Rattle.ak_words.specs.Wrapped as wrapped
use Rattle.c_lex.specs.Quoted as quoted
use Rattle.c_typing.specs.Rows.{Rows}

pub rows : Rows
unfolding type_words library bytes_of conversions operated_by earlier wrapped.wrapped_value wrapped.residue operations.rule_of operations.exact_result quoted.simple_escapes quoted.string_of quoted.character_at quoted.escape
rows = record { unknown_name = refl; double_name = refl; shadowing = refl; parameter_and_body = refl; name_in_its_initialiser = refl; no_main = refl; library_name = refl; library_value = refl; pointer_to_int = refl; void_pointers = refl; number_to_pointer = refl; no_lvalue = refl; array_assigned = refl; array_of_none = refl; array_of_many = refl; void_object = refl; own_struct = refl; struct_in_itself = refl; no_member = refl; format = refl; format_mismatch = refl; format_unknown = refl; least_place = refl; below_an_untyped_part = refl; break_outside = refl; struct_parameter = refl; declared_only = refl; declared_before = refl; mutex_kind = refl; elements_without_size = refl; sizes_beside_names = refl; unknown_struct_assigned = refl; type_without_size_yet = refl; same_type_again = refl; other_type_again = refl; type_of_an_object = refl; array_result = refl; enumerators = refl; enumerator_past_int = refl; enum_unknown = refl; tag_of_a_struct = refl; do_loop = refl; equal_labels = refl; break_of_a_switch = refl; continue_in_a_switch = refl; two_defaults = refl; switch_of_a_pointer = refl; label_not_constant = refl; calloc_and_realloc = refl; calloc_of_one = refl; realloc_of_a_number = refl; realloc_declared = refl; atomic_number = refl; atomic_calls = refl; atomic_parameter = refl; atomic_twice = refl; atomic_char = refl; atomic_of_atomic = refl; atomic_product = refl; atomic_pointer = refl; atomic_load_of_int = refl; atomic_declared = refl; one_block = λ place a b c loop. refl }
