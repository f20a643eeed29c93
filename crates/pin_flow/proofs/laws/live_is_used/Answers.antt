use Rattle.pin_flow.proofs.Live as lively
use Rattle.pin_flow.proofs.laws.live_is_used.Goals as goal

pub returns : goal.returns
returns c = lively.live_is_used_both
