use Rattle.lower_forms.proofs.Bounded.{lowered_code_is_bounded}
use Rattle.lower_forms.proofs.laws.lowered_code_is_bounded.Goals as goal

pub returns : goal.returns
returns c = lowered_code_is_bounded
