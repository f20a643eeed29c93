use Rattle.lower_forms.proofs.GoodPrograms.{lowered_code_is_sound}
use Rattle.lower_forms.proofs.laws.lowered_code_is_sound.Goals as goal

pub returns : goal.returns
returns c = lowered_code_is_sound
