use Rattle.std.proofs.Common.{ap}
use Rattle.ak_words.specs.declared.number.Num.{Num}
use Rattle.code_save.proofs.Writing.{on_ok}
use Rattle.code_save.proofs.Spelled.{value_wrote}
use Rattle.code_save.proofs.numbers.put_value.Goals as goal

pub returns : goal.returns
returns c = on_ok c.put.result (value_wrote c.args.number.ty c.args.number.value c.to_bits.result c.to_le_bytes.result c.to_bits.ensures.value (ap (λ (n : Num). n.value) c.to_bits.ensures.round_trip) c.to_le_bytes.ensures) c.put.ensures
