use Rattle.std.proofs.Common.{◌∙◌}
use Rattle.ak_words.proofs.Replacements.{quotient_replacement, quotient_replacement-zero}
use Rattle.ak_words.proofs.wrapping.quotient.Goals as goal

pub returns-then-b-eq0 : goal.returns-then-b-eq0
returns-then-b-eq0 c = c.wrapping.ensures ∙ quotient_replacement-zero c.args.a c.args.b c.if-b-eq0.true

pub returns-else-b-eq0 : goal.returns-else-b-eq0
returns-else-b-eq0 c = c.wrapping-else-b-eq0.ensures ∙ quotient_replacement c.args.a c.args.b c.if-b-eq0.false
