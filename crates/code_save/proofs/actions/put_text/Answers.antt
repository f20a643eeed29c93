use Rattle.std.proofs.Common.{arith}
use Rattle.code_save.proofs.Writing.{on_ok, text_wrote}
use Rattle.code_save.proofs.actions.put_text.Goals as goal

pub returns : goal.returns
returns c = on_ok c.put.result (text_wrote c.args.text.now (λ i. omega (arith, c.type_inv.text i)) c.in_ok-put_count.ensures) c.put.ensures
