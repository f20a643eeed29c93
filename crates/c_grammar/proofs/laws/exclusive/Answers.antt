use Rattle.c_grammar.proofs.TextLaws.{exclusive}
use Rattle.c_grammar.proofs.laws.exclusive.Goals as goal

pub returns : goal.returns
returns c = exclusive
