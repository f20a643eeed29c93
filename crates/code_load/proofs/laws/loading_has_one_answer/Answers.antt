use Rattle.code_load.proofs.Alike.{has_one_answer}
use Rattle.code_load.proofs.laws.loading_has_one_answer.Goals as goal

pub returns : goal.returns
returns c = has_one_answer
