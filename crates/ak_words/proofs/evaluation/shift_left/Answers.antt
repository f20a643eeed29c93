use Rattle.std.proofs.Common.{◌∙◌, sym}
use Rattle.ak_words.proofs.Shifts.{left_result, left_result-no_count, left_result-sign}
use Rattle.ak_words.proofs.evaluation.shift_left.Goals as goal

pub returns-in_default : goal.returns-in_default
returns-in_default c = left_result-no_count c.args.a c.args.b c.in_default.ensures.none

pub returns-then-loses_sign : goal.returns-then-loses_sign
returns-then-loses_sign c = left_result-sign c.args.a c.args.b c.in-Some.count c.in-Some.ensures.within c.in-Some.ensures.value (sym c.loses_sign.ensures ∙ c.if-loses_sign.true)

pub returns-else-loses_sign : goal.returns-else-loses_sign
returns-else-loses_sign c = left_result c.args.a c.args.b c.in-Some.count c.in-Some.ensures.within c.in-Some.ensures.value c.wrapping.result (sym c.loses_sign.ensures ∙ c.if-loses_sign.false) c.wrapping.ensures
