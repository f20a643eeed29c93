-- Numbers of C as words: a number stands in a word of 64 bits as its value modulo 2^64, so the word of a negative number has its upper bits
-- set.
use Rattle.std.specs.Prelude.{ℕ, ◌^◌, ℤ, pos}
use Rattle.ak_words.specs.declared.int_type.IntType.{IntType}
use Rattle.ak_words.specs.declared.number.Num.{Num}
use Rattle.ak_words.specs.declared.operation.Op.{Op}
use Rattle.ak_words.specs.Num.{num}
use Rattle.ak_words.specs.Op.{wrapped_result}
use Rattle.ak_words.specs.Wrapped.{residue}

-- the word of a whole number
abbrev pub word_of : ℤ → ℕ
word_of z = residue (2 ^ 64) z

-- the word of a number
abbrev pub number_word : Num → ℕ
number_word n = word_of n.value

-- the number of a type that a word stands for
abbrev pub number_in : IntType → ℕ → Num
number_in t w = num t (pos w)

-- the word of the number of a type that a word stands for
abbrev pub word_in : IntType → ℕ → ℕ
word_in t w = number_word (number_in t w)

-- the word of what an operation makes of the numbers of a type that two words stand for; where it breaks a rule of C, of what stands for
-- its result
abbrev pub applied : Op → IntType → (a b : ℕ) → ℕ
applied op t a b = number_word (wrapped_result op (number_in t a) (number_in t b))
