use Rattle.c_lex.proofs.Chains.{tokens_stand}
use Rattle.c_lex.proofs.Names.{no_ends}
use Rattle.c_lex.proofs.laws.one_end.Goals as goal

pub returns : goal.returns
returns c text ts are = (are.0, are.1, no_ends text 0 are.0 (tokens_stand text are.0 are.2))
