use Rattle.c_typing.proofs.Least.{refuses_least}
use Rattle.c_typing.proofs.laws.least.Goals as goal

pub returns : goal.returns
returns c = refuses_least
