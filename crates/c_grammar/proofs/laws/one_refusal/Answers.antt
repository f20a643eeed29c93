use Rattle.c_grammar.proofs.TextLaws.{one_refusal}
use Rattle.c_grammar.proofs.laws.one_refusal.Goals as goal

pub returns : goal.returns
returns c = one_refusal
