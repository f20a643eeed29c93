use Rattle.std.proofs.Common.{◌∙◌}
use Rattle.ak_words.proofs.Results.{quotient_result, quotient_result-zero}
use Rattle.ak_words.proofs.evaluation.quotient.Goals as goal

pub returns-then-b-eq0 : goal.returns-then-b-eq0
returns-then-b-eq0 c = quotient_result-zero c.args.a c.args.b c.if-b-eq0.true

pub returns-else-b-eq0 : goal.returns-else-b-eq0
returns-else-b-eq0 c = c.at_type.ensures ∙ quotient_result c.args.a c.args.b c.if-b-eq0.false
