-- The value of a character constant.
use Rattle.std.proofs.Common.{◌≡◌, ℕ, pos, ap, ◌∙◌}
use Rattle.ak_words.specs.declared.int_type.IntType.{IntType}
use Rattle.ak_words.specs.declared.number.Num.{Num}
use Rattle.ak_words.specs.IntType.{int, char}
use Rattle.ak_words.specs.Num.{num}

-- a byte as a char, as an int
pub char_is : (r n : Num) (a b : IntType) (bits byte : ℕ) → r ≡ num a n.value → n ≡ num b (pos bits) → bits ≡ byte → a ≡ int → b ≡ char → r ≡ num int (num char (pos byte)).value
char_is r n a b bits byte outer inner same a_is b_is =
    outer ∙ ap (λ t. num t n.value) a_is ∙ ap (λ (m : Num). num int m.value) (inner ∙ ap (λ t. num t (pos bits)) b_is ∙ ap (λ k. num char (pos k)) same)
