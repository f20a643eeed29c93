use Rattle.std.proofs.Common.{true, false, refl}
use Rattle.code_save.proofs.Writing.{on_ok}
use Rattle.code_save.proofs.Tags.{flag_wrote}
use Rattle.code_save.proofs.numbers.put_flag.Goals as goal

pub returns-then-b : goal.returns-then-b
returns-then-b c = rw c.if-b.true (on_ok c.put.result (flag_wrote true 1 refl) c.put.ensures)

pub returns-else-b : goal.returns-else-b
returns-else-b c = rw c.if-b.false (on_ok c.put-else-b.result (flag_wrote false 0 refl) c.put-else-b.ensures)
