use Rattle.std.proofs.Common.{◌∙◌, sym}
use Rattle.ak_words.proofs.Results.{remainder_result, remainder_result-zero, remainder_result-overflow}
use Rattle.ak_words.proofs.evaluation.remainder.Goals as goal

pub returns-then-b-eq0 : goal.returns-then-b-eq0
returns-then-b-eq0 c = remainder_result-zero c.args.a c.args.b c.if-b-eq0.true

pub returns-then-overflows : goal.returns-then-overflows
returns-then-overflows c = remainder_result-overflow c.args.a c.args.b c.if-b-eq0.false (sym c.overflows.ensures ∙ c.if-overflows.true)

pub returns-else-overflows : goal.returns-else-overflows
returns-else-overflows c = remainder_result c.args.a c.args.b c.wrapping.result c.if-b-eq0.false (sym c.overflows.ensures ∙ c.if-overflows.false) c.wrapping.ensures
