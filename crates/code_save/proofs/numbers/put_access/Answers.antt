use Rattle.code_save.proofs.Writing.{on_ok}
use Rattle.code_save.proofs.Tags.{access_wrote}
use Rattle.code_save.proofs.numbers.put_access.Goals as goal

pub returns : goal.returns
returns c = on_ok c.put.result (access_wrote c.args.how c.access_number.result c.access_number.ensures) c.put.ensures
