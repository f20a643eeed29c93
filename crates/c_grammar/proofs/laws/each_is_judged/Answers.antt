use Rattle.c_grammar.proofs.TextLaws.{each_is_judged}
use Rattle.c_grammar.proofs.laws.each_is_judged.Goals as goal

pub returns : goal.returns
returns c = each_is_judged
