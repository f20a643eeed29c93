-- Words worked out by hand: the definitions, put to the test.
use Rattle.std.specs.Prelude.{◌≡◌, refl, negsuc}
use Rattle.ak_words.specs.declared.operation.Op.TheVariants.{Add, Sub, Div, Shr, Lt}
use Rattle.ak_words.specs.IntType.{char, int, unsigned_int, unsigned_long}
use Rattle.ak_words.specs.Op.{exact_result, rule_of, replacement}
use Rattle.ak_words.specs.Wrapped.{residue, wrapped_value}
use Rattle.flat_words.specs.Words.{word_of, word_in, applied}

-- numbers as words, words read at a type, and operations on words
pub record WordRowsHold : Type 0 where
  -- of -1 all bits are set
  pub minus_one : word_of (negsuc 0) ≡ 18446744073709551615
  -- a char is signed, and an unsigned int has 32 bits
  pub negative_char : word_in char 255 ≡ 18446744073709551615
  pub low_bits : word_in unsigned_int 18446744073709551615 ≡ 4294967295
  -- a sum wraps at its type, and a difference below 0 has its upper bits set
  pub wrapped_sum : applied Add int 2147483647 1 ≡ 18446744071562067968
  pub difference : applied Sub int 1 2 ≡ 18446744073709551615
  pub unsigned_difference : applied Sub unsigned_int 1 2 ≡ 4294967295
  -- by zero a quotient is 0, and the least number by -1 is itself
  pub by_zero : applied Div int 7 0 ≡ 0
  pub overflow : applied Div int 18446744071562067968 18446744073709551615 ≡ 18446744071562067968
  -- a right shift keeps the sign
  pub shifted : applied Shr int 18446744073709551615 5 ≡ 18446744073709551615
  -- -1 is below 1, and 2^64 - 1 isn't
  pub below : applied Lt int 18446744073709551615 1 ≡ 1
  pub not_below : applied Lt unsigned_long 18446744073709551615 1 ≡ 0

pub word_rows : WordRowsHold
unfolding residue wrapped_value exact_result rule_of replacement
word_rows = record {
  minus_one = refl;
  negative_char = refl;
  low_bits = refl;
  wrapped_sum = refl;
  difference = refl;
  unsigned_difference = refl;
  by_zero = refl;
  overflow = refl;
  shifted = refl;
  below = refl;
  not_below = refl;
}
