use Rattle.code_save.proofs.Writing.{on_ok, pair_wrote}
use Rattle.code_save.proofs.calcs.put_two.Goals as goal

pub returns : goal.returns
returns c = on_ok c.put_u32-2.result (λ w. pair_wrote c.in_ok-put_u32.ensures (w)) c.put_u32-2.ensures
