use Rattle.std.proofs.Common.{refl, arith}
use Rattle.std.proofs.lemmas.Int.{ints}
use Rattle.ak_words.proofs.Numbers.{int_number}
use Rattle.ak_words.proofs.number.Num.int.Goals as goal

pub returns-clause-number : goal.returns-clause-number
returns-clause-number c = int_number _ c.args.value refl refl (omega (arith, ints, c.from.ensures)) c.ranges.value
