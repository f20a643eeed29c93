use Rattle.lower_turns.proofs.Apart.{recursion_is_told_apart}
use Rattle.lower_turns.proofs.laws.recursion_is_told_apart.Goals as goal

pub returns : goal.returns
returns c = recursion_is_told_apart
