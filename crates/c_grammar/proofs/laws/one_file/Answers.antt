use Rattle.c_grammar.proofs.TextLaws.{one_file}
use Rattle.c_grammar.proofs.laws.one_file.Goals as goal

pub returns : goal.returns
returns c = one_file
