use Rattle.c_lex.proofs.Orders.{are_ordered}
use Rattle.c_lex.proofs.laws.ordered.Goals as goal

pub returns : goal.returns
returns c = are_ordered
