use Rattle.code_save.proofs.Writing.{on_ok, pair_wrote}
use Rattle.code_save.proofs.calcs.put_compare.Goals as goal

pub returns : goal.returns
returns c = on_ok c.put_two.result (λ w. pair_wrote c.in_ok-put_op.ensures (w)) c.put_two.ensures
