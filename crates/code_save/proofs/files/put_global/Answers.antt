use Rattle.code_save.proofs.Writing.{on_ok}
use Rattle.code_save.proofs.WholeFiles.{global_wrote}
use Rattle.code_save.proofs.files.put_global.Goals as goal

pub returns : goal.returns
returns c = on_ok c.put_init.result (global_wrote c.args.global.now c.in_ok-put_u32.ensures c.in_ok-put_byte.ensures) c.put_init.ensures
