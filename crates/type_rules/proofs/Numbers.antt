-- A number is what its value becomes at its type.
use Rattle.std.proofs.Common.{◌≡◌, refl, sym}
use Rattle.ak_words.specs.declared.number.Num.{Num}
use Rattle.ak_words.specs.Num.{num}
use Rattle.ak_words.proofs.Numbers.{num_is}
use Rattle.ak_words.proofs.Wraps.{wrapped_value-in_type}

pub number_itself : (n : Num) → n ≡ num n.ty n.value
number_itself n = num_is n n.ty n.value refl (sym (wrapped_value-in_type n.ty n.value n.in_range))
