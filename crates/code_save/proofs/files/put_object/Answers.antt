use Rattle.code_save.proofs.Writing.{on_ok}
use Rattle.code_save.proofs.WholeFiles.{object_wrote}
use Rattle.code_save.proofs.files.put_object.Goals as goal

pub returns : goal.returns
returns c = on_ok c.put_byte.result (object_wrote c.args.object.now c.in_ok-put_u32.ensures) c.put_byte.ensures
