use Rattle.code_save.proofs.Writing.{on_ok, pair_wrote}
use Rattle.code_save.proofs.actions.put_change.Goals as goal

pub returns : goal.returns
returns c = on_ok c.put_type.result (λ w. pair_wrote c.in_ok-put_way.ensures (w)) c.put_type.ensures
