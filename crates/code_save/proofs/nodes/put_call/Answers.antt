use Rattle.code_save.proofs.Writing.{on_ok}
use Rattle.code_save.proofs.Rows.{call_wrote}
use Rattle.code_save.proofs.nodes.put_call.Goals as goal

pub returns : goal.returns
returns c = on_ok c.put_numbers.result (call_wrote c.args.call.now c.deref.result.now c.deref.ensures.value c.in_ok-put_option.ensures c.in_ok-put_u32.ensures) c.put_numbers.ensures
