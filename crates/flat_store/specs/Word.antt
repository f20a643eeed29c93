-- How many bytes an access can have; the number that they stand for is that of ak_words.
use Rattle.std.specs.Prelude.{ℕ, ◌==◌, ◌||◌, Bool}
pub use Rattle.ak_words.specs.Bytes.{low_bytes, number_of}

-- how many bytes an access can have
abbrev pub is_word_size : ℕ → Bool
is_word_size n = (n == 1) || (n == 2) || (n == 4) || (n == 8)
