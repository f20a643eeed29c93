use Rattle.std.proofs.Common.{true}
use Rattle.code_save.proofs.Writing.{nothing_wrote}
use Rattle.code_save.proofs.files.put_fields.Goals as goal

pub returns-in-Zero : goal.returns-in-Zero
returns-in-Zero c = rw c.in-Zero.is (nothing_wrote true)

pub returns-in-Num : goal.returns-in-Num
returns-in-Num c = rw c.in-Num.is c.put_number.ensures

pub returns-in-Literal : goal.returns-in-Literal
returns-in-Literal c = rw c.in-Literal.is c.put_u32.ensures
