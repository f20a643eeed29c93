use Rattle.c_typing.proofs.Least.{typed_or_refused}
use Rattle.c_typing.proofs.laws.exclusive.Goals as goal

pub returns : goal.returns
returns c = typed_or_refused
