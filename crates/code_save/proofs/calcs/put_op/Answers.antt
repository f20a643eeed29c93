use Rattle.code_save.proofs.Writing.{on_ok}
use Rattle.code_save.proofs.Tags.{operation_wrote}
use Rattle.code_save.proofs.calcs.put_op.Goals as goal

pub returns : goal.returns
returns c = on_ok c.put.result (operation_wrote c.args.op c.op_number.result c.op_number.ensures) c.put.ensures
