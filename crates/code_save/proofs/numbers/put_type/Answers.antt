use Rattle.code_save.proofs.Writing.{on_ok}
use Rattle.code_save.proofs.Tags.{type_wrote}
use Rattle.code_save.proofs.numbers.put_type.Goals as goal

pub returns : goal.returns
returns c = on_ok c.put.result (type_wrote c.args.ty c.type_number.result c.type_number.ensures) c.put.ensures
