use Rattle.code_save.proofs.Writing.{on_ok}
use Rattle.code_save.proofs.WholeFiles.{func_wrote}
use Rattle.code_save.proofs.files.put_func.Goals as goal

pub returns : goal.returns
returns c = on_ok c.put_nodes.result (func_wrote c.args.levels c.args.f.now c.deref.result.now c.deref-2.result.now c.deref.ensures.value c.deref-2.ensures.value c.in_ok-put_u32.ensures c.in_ok-put_u32-2.ensures c.in_ok-put_u32-3.ensures c.in_ok-put_objects.ensures) c.put_nodes.ensures
