use Rattle.code_save.proofs.Writing.{on_ok}
use Rattle.code_save.proofs.WholeFiles.{file_wrote}
use Rattle.code_save.proofs.files.put_file.Goals as goal

pub returns : goal.returns
returns c = on_ok c.put_funcs.result (file_wrote c.args.levels c.args.ir.now c.deref.result.now c.deref-2.result.now c.deref-3.result.now c.deref.ensures.value c.deref-2.ensures.value c.deref-3.ensures.value c.in_ok-put.ensures c.in_ok-put_u32.ensures c.in_ok-put_globals.ensures c.in_ok-put_literals.ensures) c.put_funcs.ensures
