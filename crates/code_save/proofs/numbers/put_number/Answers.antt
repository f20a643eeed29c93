use Rattle.std.proofs.Common.{ℤ}
use Rattle.code_file.specs.Numbers.{int_type, value}
use Rattle.code_save.proofs.Writing.{on_ok, behind_wrote}
use Rattle.code_save.proofs.numbers.put_number.Goals as goal

pub returns : goal.returns
returns c = on_ok c.put_value.result (behind_wrote {B = λ t. ℤ} int_type value c.args.number.ty c.args.number.value c.in_ok-put_type.ensures) c.put_value.ensures
