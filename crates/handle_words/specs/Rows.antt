-- Words worked out by hand: the definitions, put to the test.
use Rattle.std.specs.Prelude.{◌≡◌, refl}
use Rattle.handle_words.specs.Handle.{handle_of, id_of, offset_of, added}

-- a handle, its id and its offset, and sums of handles and of addresses
pub record Rows : Type 0 where
  pub handle : handle_of 5 12 ≡ 9223372058329612300
  pub id : id_of 9223372058329612300 ≡ 5
  pub offset : offset_of 9223372058329612300 ≡ 12
  -- a sum stays within the offset of a handle, and within 64 bits
  pub below_the_start : added 9223372058329612300 18446744073709551603 ≡ 9223372062624579583
  pub its_id : id_of 9223372062624579583 ≡ 5
  pub its_offset : offset_of 9223372062624579583 ≡ 4294967295
  pub past_the_end : added 9223372062624579583 1 ≡ 9223372058329612288
  pub address : added 4096 18446744073709551615 ≡ 4095

pub rows : Rows
rows = record {
  handle = refl;
  id = refl;
  offset = refl;
  below_the_start = refl;
  its_id = refl;
  its_offset = refl;
  past_the_end = refl;
  address = refl;
}
