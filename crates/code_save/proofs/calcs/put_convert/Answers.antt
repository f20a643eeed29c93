use Rattle.code_save.proofs.Writing.{on_ok, pair_wrote}
use Rattle.code_save.proofs.calcs.put_convert.Goals as goal

pub returns : goal.returns
returns c = on_ok c.put_u32.result (λ w. pair_wrote c.in_ok-put_type.ensures (w)) c.put_u32.ensures
