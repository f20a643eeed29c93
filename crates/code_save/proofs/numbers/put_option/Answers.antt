use Rattle.std.proofs.Common.{Some, None}
use Rattle.code_save.proofs.Writing.{on_ok}
use Rattle.code_save.proofs.Spelled.{option_wrote}
use Rattle.code_save.proofs.numbers.put_option.Goals as goal

pub returns-in-None : goal.returns-in-None
returns-in-None c = rw c.in-None.is (on_ok c.put_u32.result (option_wrote None) c.put_u32.ensures)

pub returns-in-Some : goal.returns-in-Some
returns-in-Some c = rw c.in-Some.is (on_ok c.put_u32-in-Some.result (option_wrote (Some c.in-Some.n)) c.put_u32-in-Some.ensures)
